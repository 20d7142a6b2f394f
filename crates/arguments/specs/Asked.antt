-- What the arguments of a command line request.
use Rattle.std.specs.Prelude.{◌==◌, ◌&&◌, ℕ, Bool, true, false, List, [], ◌∷◌, Option, Some, None}
use Rattle.std.specs.Prelude.{length, drop, codes, if◌then◌else◌}
use Rattle.std.specs.Str.{bytes_eq}

-- no more arguments, or only `--`, which ends the flags
abbrev pub is_end : List (List ℕ) → Bool
is_end [] = true
is_end (word ∷ rest) = bytes_eq word (codes "--") && length rest == 0

-- `--sessions`, and then the end
abbrev pub is_flag : List (List ℕ) → Bool
is_flag [] = false
is_flag (word ∷ rest) = bytes_eq word (codes "--sessions") && is_end rest

-- no flag requests no sessions, the flag requests them, and other arguments are rejected
abbrev pub asked_by : List (List ℕ) → Option Bool
asked_by words = if is_end words then Some false else (if is_flag words then Some true else None)

-- whether sessions are requested; the first argument is the program's own name
abbrev pub sessions_of : List (List ℕ) → Option Bool
sessions_of words = asked_by (drop 1 words)
