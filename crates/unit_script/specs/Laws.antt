-- Laws of scripts; each is the contract of a public function.
use Rattle.std.specs.Prelude.{◌≡◌, ◌≢◌, ◌<◌, ◌≤◌, ◌+◌, ℕ, Bool, true, ◌&&◌, nat_le, List, [], ◌∷◌, ◌++◌, length, Result, Ok, Err, codes}
use Rattle.std.specs.List.{list_all}
use Rattle.link_tree.specs.Inventory.{◌>>=◌}
use Rattle.unit_script.specs.declared.call.Call.{Call}
use Rattle.unit_script.specs.declared.reason.ScriptFault.{ScriptFault}
use Rattle.unit_script.specs.declared.reason.Reason.TheVariants.{LineTooLong, TooManyLines}
use Rattle.unit_script.specs.declared.reason.ScriptFault.TheVariants.{Bad}
use Rattle.script_words.specs.Words.{is_line_byte, lines_text}
use Rattle.unit_script.specs.Script.{call_of_line, in_line, with_call, script_of}

-- a line contains no line end, and isn't too long
abbrev pub is_line : List ℕ → Bool
is_line text = list_all is_line_byte text && nat_le (length text) 65536

-- the calls of lines from this number on, or the first bad line
abbrev pub calls_of : ℕ → List (List ℕ) → Result (List Call) ScriptFault
calls_of number [] = Ok []
calls_of number (line ∷ lines) = do
  call ← in_line number (call_of_line line)
  calls ← calls_of (number + 1) lines
  Ok (with_call [] call ++ calls)

-- A script is its lines: its result is the calls of all of them in order, or the first bad line.
abbrev pub ScriptIsLines : Type 0
ScriptIsLines = (lines : List (List ℕ)) → list_all is_line lines ≡ true → length lines ≤ 2000000 → script_of (codes "== calls\n" ++ lines_text lines) ≡ calls_of 1 lines

-- A last line needs no line end.
abbrev pub LastLineNeedsNoEnd : Type 0
LastLineNeedsNoEnd = (lines : List (List ℕ)) (last : List ℕ) → list_all is_line lines ≡ true → is_line last ≡ true → length lines < 2000000
    → script_of (codes "== calls\n" ++ (lines_text lines ++ last)) ≡ calls_of 1 (lines ++ last ∷ [])

-- A line of more than 65,536 bytes is a fault, unless an earlier one is bad,
abbrev pub LongLineIsTold : Type 0
LongLineIsTold = (lines : List (List ℕ)) (long rest : List ℕ) → list_all is_line lines ≡ true → length lines < 2000000 → list_all is_line_byte long ≡ true → 65536 < length long
    → script_of (codes "== calls\n" ++ (lines_text lines ++ (long ++ rest))) ≡ (calls_of 1 lines >>= λ calls. Err (Bad (length lines + 1) LineTooLong))

-- and so is anything after the 2,000,000th line.
abbrev pub OneLineMoreIsTold : Type 0
OneLineMoreIsTold = (lines : List (List ℕ)) (rest : List ℕ) → list_all is_line lines ≡ true → length lines ≡ 2000000 → rest ≢ []
    → script_of (codes "== calls\n" ++ (lines_text lines ++ rest)) ≡ (calls_of 1 lines >>= λ calls. Err (Bad 2000001 TooManyLines))
