-- Paths and targets, as texts.
use Rattle.std.specs.Prelude.{ℕ, Bool, true, false, not, ◌||◌, ◌&&◌, ◌==◌, nat_lt, nat_le, if◌then◌else◌, List, [], ◌∷◌, ◌++◌, length, Option, Some, None, codes}
use Rattle.std.specs.List.{list_all, slice_split, before_last, after_last}
use Prim.Native.Char.{code}

-- no NUL, TAB or LF
unfoldable pub is_text_byte : ℕ → Bool
is_text_byte b = not (b == code "\0" || b == code "\t" || b == code "\n")

-- a text that is neither empty nor . nor ..
unfoldable pub is_part : List ℕ → Bool
is_part [] = false
is_part (a ∷ []) = not (a == code ".")
is_part (a ∷ b ∷ []) = not (a == code "." && b == code ".")
is_part (a ∷ b ∷ c ∷ rest) = true

abbrev pub is_slash : ℕ → Bool
is_slash b = b == code "/"

-- a slash, and parts with slashes between them
unfoldable pub is_absolute : List ℕ → Bool
is_absolute [] = false
is_absolute (b ∷ bs) = is_slash b && list_all is_part (slice_split is_slash bs)

unfoldable pub is_path : List ℕ → Bool
is_path text = nat_le (length text) 4095 && (list_all is_text_byte text && is_absolute text)

unfoldable pub is_target : List ℕ → Bool
is_target text = nat_lt 0 (length text) && (nat_le (length text) 4095 && list_all is_text_byte text)

abbrev pub is_root : List ℕ → Bool
is_root [] = true
is_root (b ∷ bs) = false

-- what comes before the last slash, the directory of a path; nothing if there is no slash
unfoldable pub parent : List ℕ → List ℕ
parent = before_last is_slash

-- what comes after the last slash: the name of a path
unfoldable pub name_at : List ℕ → List ℕ
name_at = after_last is_slash

-- the directory of a path, unless that is the root
abbrev pub parent_of : List ℕ → Option (List ℕ)
parent_of path = if is_root (parent path) then None else Some (parent path)

-- the first path in byte order that can lie beneath one, if any can
abbrev pub first_beneath : List ℕ → Option (List ℕ)
first_beneath path = let first = path ++ codes "/" ++ codes "\u{1}" in if is_path first then Some first else None
