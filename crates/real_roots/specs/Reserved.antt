-- Names that are reserved for new files and directories until they are renamed to their own names.
use Rattle.std.specs.Prelude.{ℕ, Bool, false, ◌&&◌, ◌||◌, List, [], ◌∷◌, drop, nat_eq, codes}
use Rattle.std.specs.List.{list_all, starts_with}
use Rattle.std.specs.Char.{is_ascii_digit}
use Rattle.std.specs.Str.{bytes_eq}

-- one or more decimal digits
unfoldable pub is_number : List ℕ → Bool
is_number [] = false
is_number (b ∷ bs) = list_all is_ascii_digit (b ∷ bs)

-- `.unitroot-new`, alone or with a dot and the number of a process after it
abbrev pub is_reserved : List ℕ → Bool
is_reserved name = bytes_eq name (codes ".unitroot-new") || (starts_with nat_eq name (codes ".unitroot-new.") && is_number (drop 14 name))
