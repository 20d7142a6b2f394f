-- Which error is reported of a path. If there is no memory for the path, the error says that memory
-- ran out.
use Rattle.std.specs.Prelude.{◌≡◌, ◌⊎◌, ℕ, List, string_bytes}
use Rattle.std.specs.IoError.{error_kind}
use Rattle.std.specs.declared.io.Error.{Error}
use Rattle.std.specs.declared.io.ErrorKind.{ErrorKind}
use Rattle.std.specs.declared.io.ErrorKind.TheVariants as kinds
use Rattle.real_roots.specs.declared.trouble.Hindrance.{Hindrance}
use Rattle.real_roots.specs.declared.trouble.Trouble.{Trouble}
use Rattle.real_roots.specs.declared.trouble.Trouble.TheVariants as troubles

-- It names the path that can't be captured or changed, and what keeps it from that.
abbrev pub IsHindered : List ℕ → Hindrance → Trouble → Type 0
IsHindered path why (troubles.At text hindrance) = (string_bytes text ≡ path) × (hindrance ≡ why)
IsHindered path why troubles.OutOfMemory = Unit {0}
IsHindered path why other = ⊥

-- It names the path where something has changed meanwhile.
abbrev pub IsChanged : List ℕ → Trouble → Type 0
IsChanged path (troubles.Changed text) = string_bytes text ≡ path
IsChanged path troubles.OutOfMemory = Unit {0}
IsChanged path other = ⊥

-- It names the path up to which too much was read, and the number of MiB that was allowed in all.
abbrev pub IsTooMuch : List ℕ → ℕ → Trouble → Type 0
IsTooMuch path mib (troubles.TooMuch text most) = (string_bytes text ≡ path) × (most ≡ mib)
IsTooMuch path mib troubles.OutOfMemory = Unit {0}
IsTooMuch path mib other = ⊥

-- It names the path of a system call, and has the error of that call.
abbrev pub IsSystems : List ℕ → Error → Trouble → Type 0
IsSystems path e (troubles.System text error) = (string_bytes text ≡ path) × (error ≡ e)
IsSystems path e troubles.OutOfMemory = Unit {0}
IsSystems path e other = ⊥

-- Something is at a name at which nothing was.
abbrev pub IsTaken : ErrorKind → Type 0
IsTaken kind = (kind ≡ kinds.AlreadyExists) ⊎ (kind ≡ kinds.DirectoryNotEmpty) ⊎ (kind ≡ kinds.NotADirectory)

-- The error of a call that makes something under such a name.
abbrev pub IsOfNew : List ℕ → Error → Trouble → Type 0
IsOfNew path e (troubles.Changed text) = (string_bytes text ≡ path) × IsTaken (error_kind e)
IsOfNew path e (troubles.System text error) = (string_bytes text ≡ path) × (error ≡ e) × (IsTaken (error_kind e) → ⊥)
IsOfNew path e troubles.OutOfMemory = Unit {0}
IsOfNew path e other = ⊥

-- A directory couldn't be removed since something is in it, or since there is none.
abbrev pub IsKeptOrGone : ErrorKind → Type 0
IsKeptOrGone kind = (kind ≡ kinds.DirectoryNotEmpty) ⊎ (kind ≡ kinds.AlreadyExists) ⊎ (kind ≡ kinds.NotFound)

-- A directory that couldn't be removed may stay: something is in it, it is none, it is a mount
-- point, or this user may not remove it, or nobody may where it is.
abbrev pub MayStay : ErrorKind → Type 0
MayStay kind = IsKeptOrGone kind ⊎ (kind ≡ kinds.NotADirectory) ⊎ (kind ≡ kinds.ResourceBusy)
    ⊎ (kind ≡ kinds.PermissionDenied) ⊎ (kind ≡ kinds.ReadOnlyFilesystem)
