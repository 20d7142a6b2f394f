-- Scripts, as texts: the calls, or the first bad line. `calls_at` processes the lines one by one,
-- as reading does; the law `ScriptIsLines` (Laws.antt) states the same for all lines together.
use Rattle.std.specs.Prelude.{ℕ, ◌+◌, Bool, true, false, ◌==◌, if◌then◌else◌, List, [], ◌∷◌, ◌++◌, Option, Some, None, Result, Ok, Err, codes, zero, suc}
use Rattle.std.specs.List.{filter, slice_split}
use Rattle.std.specs.Str.{bytes_eq}
use Rattle.std.specs.Option.{option_map_or}
use Rattle.byte_streams.specs.Lines.{front_line, Front, Whole, Last, Long}
use Rattle.link_tree.specs.Inventory.{◌>>=◌}
use Rattle.history.specs.Operators.{is_operator}
use Rattle.unit_script.specs.declared.call.Call.{Call}
use Rattle.unit_script.specs.declared.reason.Reason.{Reason}
use Rattle.unit_script.specs.declared.reason.Reason.TheVariants.{TooManyLines, LineTooLong, BadOperator}
use Rattle.unit_script.specs.declared.reason.ScriptFault.{ScriptFault}
use Rattle.unit_script.specs.declared.reason.ScriptFault.TheVariants.{NoCalls, Bad}
use Rattle.script_words.specs.Words.{is_space, is_word}
use Rattle.unit_script.specs.Requests.{request_of}
use Prim.Native.Char.{code}

-- the words of a line, separated by spaces
unfoldable pub words_of : List ℕ → List (List ℕ)
words_of line = filter is_word (slice_split is_space line)

-- the call of an operator with the words after its name
unfoldable pub call_of_words : List ℕ → List (List ℕ) → Result Call Reason
call_of_words operator words =
    if is_operator operator then (request_of words >>= λ request. Ok (record { operator = operator; request = request }))
    else Err BadOperator

-- the call made of all words of a line, if there are any
abbrev pub call_if_any : List (List ℕ) → Result (Option Call) Reason
call_if_any [] = Ok None
call_if_any (operator ∷ words) = call_of_words operator words >>= λ call. Ok (Some call)

abbrev pub is_comment : List ℕ → Bool
is_comment [] = false
is_comment (b ∷ bs) = b == code "#"

-- a line's call; comments and lines without a word are skipped
unfoldable pub call_of_line : List ℕ → Result (Option Call) Reason
call_of_line line = if is_comment line then Ok None else call_if_any (words_of line)

-- the call of the first line, and the bytes after the line, if it had a line end
abbrev pub call_of_front : Front → Result (Option Call × Option (List ℕ)) Reason
call_of_front Long = Err LineTooLong
call_of_front (Last line) = call_of_line line >>= λ call. Ok (call, None)
call_of_front (Whole line rest) = call_of_line line >>= λ call. Ok (call, Some rest)

-- a reason with the number of its line
abbrev pub in_line : {A : Type 0} → ℕ → Result A Reason → Result A ScriptFault
in_line number (Ok x) = Ok x
in_line number (Err reason) = Err (Bad number reason)

-- with one more call, or with none for a line that is skipped
abbrev pub with_call : List Call → Option Call → List Call
with_call calls None = calls
with_call calls (Some call) = calls ++ call ∷ []

abbrev pub is_no_line : Front → Bool
is_no_line Long = false
is_no_line (Last []) = true
is_no_line (Last (b ∷ bs)) = false
is_no_line (Whole line rest) = false

-- after the last line that is allowed: nothing remains, or else the next line is one too many
abbrev pub at_limit : ℕ → List Call → Front → Result (List Call) ScriptFault
at_limit number calls front = if is_no_line front then Ok calls else Err (Bad number TooManyLines)

-- the calls so far with those of the bytes, which begin with the line of this number; at most the
-- first argument's number of lines may follow
unfoldable pub calls_at : ℕ → ℕ → List Call → List ℕ → Result (List Call) ScriptFault
calls_at zero number calls bytes = at_limit number calls (front_line 0 bytes)
calls_at (suc more) number calls bytes = do
  found ← in_line number (call_of_front (front_line 65536 bytes))
  option_map_or (calls_at more (number + 1) (with_call calls found.0)) found.1 (Ok (with_call calls found.0))

abbrev pub is_calls_line : List ℕ → Bool
is_calls_line line = bytes_eq line (codes "== calls")

-- what follows the line `== calls`, if that had a line end
abbrev pub after_calls_line : Front → Result (Option (List ℕ)) ScriptFault
after_calls_line Long = Err NoCalls
after_calls_line (Last line) = if is_calls_line line then Ok None else Err NoCalls
after_calls_line (Whole line rest) = if is_calls_line line then Ok (Some rest) else Err NoCalls

-- the calls of a script
abbrev pub script_of : List ℕ → Result (List Call) ScriptFault
script_of bytes = after_calls_line (front_line 8 bytes) >>= λ rest. option_map_or (calls_at 2000000 1 []) rest (Ok [])
