-- The values in the lines of a history: labels and times.
use Rattle.std.specs.Prelude.{ℕ, Bool, not, ◌==◌, ◌&&◌, nat_le, if◌then◌else◌, List, length, map as list_map, codes}
use Rattle.std.specs.Char.{is_ascii_digit}
use Rattle.std.specs.Str.{bytes_eq}
use Prim.Native.Char.{code}

-- a login, the name and version of a program, or the path of a root
abbrev pub is_label : List ℕ → Bool
is_label text = not (length text == 0) && nat_le (length text) 4096

-- 0 for any digit
abbrev pub form_of : ℕ → ℕ
form_of b = if is_ascii_digit b then code "0" else b

abbrev pub has_form : List ℕ → Bool
has_form text = bytes_eq (list_map form_of text) (codes "0000-00-00T00:00:00Z")

-- a time is written with these digits and signs
abbrev pub is_time : List ℕ → Bool
is_time text = length text == 20 && has_form text
