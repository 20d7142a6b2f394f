-- Which error is reported of the directory of a history.
use Rattle.std.specs.Prelude.{◌≡◌, ◌≢◌, ℕ, List, string_bytes, Option, Some, None, Result, Ok, Err}
use Rattle.std.specs.IoError.{error_kind}
use Rattle.std.specs.declared.io.Error.{Error}
use Rattle.std.specs.declared.io.ErrorKind.TheVariants.{NotFound}
use Rattle.real_roots.specs.declared.trouble.Trouble.TheVariants as troubles
use Rattle.kept_roots.specs.declared.error.DirectoryFault.{DirectoryFault}
use Rattle.kept_roots.specs.declared.error.HistoryError.{HistoryError}
use Rattle.kept_roots.specs.declared.error.HistoryError.TheVariants as histories

-- It names the directory, and what is wrong with it. If there is no memory for its path, it says
-- that memory ran out.
abbrev pub IsRefused : List ℕ → DirectoryFault → HistoryError → Type 0
IsRefused path fault (histories.At text why) = (string_bytes text ≡ path) × (why ≡ fault)
IsRefused path fault (histories.Trouble troubles.OutOfMemory) = Unit {0}
IsRefused path fault other = ⊥

-- A file that doesn't exist is none, and no error.
abbrev pub IsIfThere : {T : Type 0} → Result T Error → Result (Option T) Error → Type 0
IsIfThere (Ok given) result = result ≡ Ok (Some given)
IsIfThere (Err e) result = (error_kind e ≡ NotFound → result ≡ Ok None) × (error_kind e ≢ NotFound → result ≡ Err e)
