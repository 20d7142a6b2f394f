-- For the proofs of this crate: what each step of reading a script returns, given what the bytes
-- mean. No public contract cites it.
use Rattle.std.specs.Prelude.{◌≡◌, ◌⊎◌, ℕ, Bool, MatchBool, List, [], ◌∷◌, ◌++◌, Option, Some, None, Result, Ok, Err, IsOk}
use Rattle.byte_streams.specs.Lines.{front_line, Last}
use Rattle.byte_streams.specs.Reads.{FailsAs}
use Rattle.byte_streams.specs.declared.read_error.ReadError.{ReadError}
use Rattle.byte_streams.specs.declared.read_error.ReadError.TheVariants as errors
use Rattle.unit_script.specs.declared.call.Call.{Call}
use Rattle.unit_script.specs.declared.reason.Reason.{Reason}
use Rattle.unit_script.specs.declared.reason.ScriptFault.{ScriptFault}
use Rattle.unit_script.specs.declared.reason.ScriptFault.TheVariants.{Bad}
use Rattle.unit_script.specs.declared.script.ReadCall.{ReadCall}
use Rattle.unit_script.specs.Script.{call_of_front, calls_at}
use Rattle.unit_script.specs.OpenScripts.{EndsLine}
use Prim.Native.Char.{code}

-- the call that was read, and whether its line had a line end: if so, the bytes after it remain in
-- the source
abbrev pub IsCall : Option (List ℕ) → ReadCall → Result (Option Call × Option (List ℕ)) Reason → Type 0
IsCall left found read = MatchBool found.has_end ((rest : List ℕ) × (left ≡ Some rest) × (read ≡ Ok (found.call, Some rest))) (read ≡ Ok (found.call, None))

-- the result of reading is that of the first line, unless the source failed or memory ran out
abbrev pub CallOf : Option (List ℕ) → Result ReadCall (ReadError Reason) → Result (Option Call × Option (List ℕ)) Reason → Type 0
CallOf left (Ok found) read = IsCall left found read
CallOf left (Err e) read = FailsAs e read

abbrev pub ReadsCall : Option (List ℕ) → Option (List ℕ) → Result ReadCall (ReadError Reason) → Type 0
ReadsCall old new r = (bytes : List ℕ) → old ≡ Some bytes → CallOf new r (call_of_front (front_line 65536 bytes))

-- the error of reading the line of this number, as an error of the script
abbrev pub script_error_of : ℕ → ReadError Reason → ReadError ScriptFault
script_error_of number (errors.Fault reason) = errors.Fault (Bad number reason)
script_error_of number errors.ReadFault = errors.ReadFault
script_error_of number errors.OutOfMemory = errors.OutOfMemory

-- the line before all calls was there, and what follows it remains if it had a line end
abbrev pub CallsLineOf : Option (List ℕ) → Result Bool (ReadError ScriptFault) → Result (Option (List ℕ)) ScriptFault → Type 0
CallsLineOf left (Ok has_end) read = MatchBool has_end ((rest : List ℕ) × (left ≡ Some rest) × (read ≡ Ok (Some rest))) (read ≡ Ok None)
CallsLineOf left (Err e) read = FailsAs e read

-- The calls of whole lines, followed by the beginning of a line, if one more line is allowed.
pub record IsOpenCalls (taken : List ℕ) : Type 0 where
  pub lines : List ℕ
  pub part : List ℕ
  pub is : taken ≡ lines ++ part
  pub ends : (lines ≡ []) ⊎ EndsLine lines
  pub whole : IsOk (calls_at 2000000 1 [] lines)
  pub short : front_line 65536 part ≡ Last part
  pub room : (part ≡ []) ⊎ IsOk (calls_at 2000000 1 [] (lines ++ code "\n" ∷ []))
