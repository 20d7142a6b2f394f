-- One more line of a script.
use Rattle.std.proofs.Common.{◌⊎◌, ◌∷◌, ◌++◌, append_assoc, inr, ◌≡◌, ℕ, ◌+◌, ◌-◌, ◌<◌, ◌≤◌, List, [], Option, None, Some, Result, Ok, Err, Bool, refl, sym, ap, ◌∙◌, arith, zero, suc, subst, true, false}
use Rattle.std.specs.Prelude.{MatchBool}
use Rattle.byte_streams.specs.Lines.{Front, Whole, Last, Long, front_line}
use Rattle.byte_streams.specs.Streams.{Takes}
use Rattle.byte_streams.proofs.Fronts.{whole_is}
use Rattle.byte_streams.proofs.Pieces.{line_is_whole}
use Rattle.link_tree.specs.Inventory.{◌>>=◌}
use Rattle.link_tree.proofs.Results.{no_ok, ok_parts}
use Rattle.unit_script.specs.OpenScripts.{EndsLine}
use Rattle.unit_script.specs.declared.call.Call.{Call}
use Rattle.unit_script.specs.declared.reason.Reason.{Reason}
use Rattle.unit_script.specs.declared.reason.ScriptFault.{ScriptFault}
use Rattle.unit_script.specs.declared.reason.ScriptFault.TheVariants.{Bad}
use Rattle.byte_streams.specs.declared.read_error.ReadError.{ReadError}
use Rattle.byte_streams.specs.declared.read_error.ReadError.TheVariants as reads
use Rattle.unit_script.specs.declared.script.ReadCall.{ReadCall}
use Rattle.unit_script.specs.Script.{call_of_front, call_of_line, with_call, calls_at, at_limit}
use Rattle.unit_script.specs.ScriptReads.{CallOf, ReadsCall, script_error_of}
use Rattle.byte_streams.specs.Reads.{FailsAs, ReadsWhole}

pub calls_at-end : (more number : ℕ) (calls : List Call) (call : Option Call) (bytes : List ℕ) → 0 < more → call_of_front (front_line 65536 bytes) ≡ Ok (call, None) → calls_at more number calls bytes ≡ Ok (with_call calls call)
unfolding calls_at
calls_at-end zero number calls call bytes some e = absurd (omega arith)
calls_at-end (suc more) number calls call bytes some e = rw e refl

pub calls_at-bad : (more number : ℕ) (calls : List Call) (bytes : List ℕ) (reason : Reason) → 0 < more → call_of_front (front_line 65536 bytes) ≡ Err reason → calls_at more number calls bytes ≡ Err (Bad number reason)
unfolding calls_at
calls_at-bad zero number calls bytes reason some e = absurd (omega arith)
calls_at-bad (suc more) number calls bytes reason some e = rw e refl

pub calls_at-limit : (more number : ℕ) (calls : List Call) (bytes : List ℕ) → more ≡ 0 → calls_at more number calls bytes ≡ at_limit number calls (front_line 0 bytes)
unfolding calls_at
calls_at-limit zero number calls bytes none = refl
calls_at-limit (suc more) number calls bytes none = absurd (omega arith)

pub calls_at-step : (more number : ℕ) (calls : List Call) (call : Option Call) (bytes rest : List ℕ) → 0 < more → call_of_front (front_line 65536 bytes) ≡ Ok (call, Some rest) → calls_at more number calls bytes ≡ calls_at (more - 1) (number + 1) (with_call calls call) rest
unfolding calls_at
calls_at-step zero number calls call bytes rest some e = absurd (omega arith)
calls_at-step (suc more) number calls call bytes rest some e =
    let less : suc more - 1 ≡ more = omega arith in
    rw (less, e) refl

-- whole lines were read, whose result, together with whatever follows them, is that of the whole
pub record LinesTaken (number : ℕ) (calls : List Call) (taken : List ℕ) : Type 0 where
  pub gives : (more : List ℕ) → calls_at (2000001 - number) number calls more ≡ calls_at 2000000 1 [] (taken ++ more)
  pub ends : (taken ≡ []) ⊎ EndsLine taken

abbrev pub Reached : Option (List ℕ) → Option (List ℕ) → ℕ → List Call → Type 0
Reached first now number calls = Takes first now (λ taken rest. LinesTaken number calls taken)

reached_rest : (first now : Option (List ℕ)) (number : ℕ) (calls : List Call) → Reached first now number calls → (bytes : List ℕ) → first ≡ Some bytes → (rest : List ℕ) × (now ≡ Some rest) × (calls_at (2000001 - number) number calls rest ≡ calls_at 2000000 1 [] bytes)
reached_rest first now number calls so_far bytes e =
    let at = so_far bytes e in
    (at.1, at.3, at.4.gives at.1 ∙ ap (calls_at 2000000 1 []) (sym at.2))

-- a line that had a line end, and what is read from it whatever follows
whole_line : (bytes : List ℕ) (call : Option Call) (rest : List ℕ) → call_of_front (front_line 65536 bytes) ≡ Ok (call, Some rest) → (line : List ℕ) × (bytes ≡ line ++ 10 ∷ rest) × ((more : List ℕ) → call_of_front (front_line 65536 (line ++ 10 ∷ more)) ≡ Ok (call, Some more))
whole_line bytes call rest is = of_front (front_line 65536 bytes) refl is
  where
    of_line : (line after : List ℕ) → front_line 65536 bytes ≡ Whole line after → (read : Result (Option Call) Reason) → call_of_line line ≡ read → ◌>>=◌ {B = Option Call × Option (List ℕ)} read (λ call. Ok (call, Some after)) ≡ Ok (call, Some rest) → (line : List ℕ) × (bytes ≡ line ++ 10 ∷ rest) × ((more : List ℕ) → call_of_front (front_line 65536 (line ++ 10 ∷ more)) ≡ Ok (call, Some more))
    of_line line after front (Err reason) r is = no_ok is
    of_line line after front (Ok found) r is =
        let parts = ok_parts is in
        let whole = whole_is 65536 bytes line after front in
        let left : after ≡ rest = cc (parts.1) in (
          line,
          whole.0 ∙ ap (λ l. line ++ 10 ∷ l) left,
          λ more. ap call_of_front (line_is_whole 65536 line whole.1.clean more whole.1.few)
              ∙ ap (λ read. ◌>>=◌ {B = Option Call × Option (List ℕ)} read (λ call. Ok (call, Some more))) r ∙ ap (λ c. Ok (c, Some more)) parts.0,
        )

    last_line : (line : List ℕ) (read : Result (Option Call) Reason) → ◌>>=◌ {B = Option Call × Option (List ℕ)} read (λ call. Ok (call, None)) ≡ Ok (call, Some rest) → ⊥
    last_line line (Err reason) is = no_ok is
    last_line line (Ok found) is = let parts = ok_parts is in none_some (parts.1)
      where
        none_some : None ≡ Some rest → ⊥
        none_some is = cc

    of_front : (front : Front) → front_line 65536 bytes ≡ front → call_of_front front ≡ Ok (call, Some rest) → (line : List ℕ) × (bytes ≡ line ++ 10 ∷ rest) × ((more : List ℕ) → call_of_front (front_line 65536 (line ++ 10 ∷ more)) ≡ Ok (call, Some more))
    of_front (Whole line after) front is = of_line line after front (call_of_line line) refl is
    of_front (Last line) front is = absurd (last_line line (call_of_line line) is)
    of_front Long front is = no_ok is

module _ (first mid : Option (List ℕ)) (number : ℕ) (calls : List Call) (so_far : Reached first mid number calls) (r : Result (Unit {0}) (ReadError ScriptFault))
    (gives : (rest : List ℕ) → mid ≡ Some rest → (cs : List Call) → ReadsWhole (λ (x : Unit {0}). cs) r (at_limit number cs (front_line 0 rest))) (past : 2000000 < number) (bytes : List ℕ) (e : first ≡ Some bytes) where
  at_end : ReadsWhole (λ (x : Unit {0}). calls) r (calls_at 2000000 1 [] bytes)
  at_end =
      let at = reached_rest first mid number calls so_far bytes e in
      let none : 2000001 - number ≡ 0 = omega arith in
      let same : at_limit number calls (front_line 0 at.0) ≡ calls_at 2000000 1 [] bytes = sym (calls_at-limit (2000001 - number) number calls at.0 none) ∙ at.2 in
      subst (λ (x : Result (List Call) ScriptFault). ReadsWhole (λ (y : Unit {0}). calls) r x) same (gives at.0 at.1 calls)

  pub limit_ok : (x : Unit {0}) → r ≡ Ok x → calls_at 2000000 1 [] bytes ≡ Ok calls
  limit_ok x is = subst (λ (y : Result (Unit {0}) (ReadError ScriptFault)). ReadsWhole (λ (z : Unit {0}). calls) y (calls_at 2000000 1 [] bytes)) is at_end

  pub limit_err : (f : ReadError ScriptFault) → r ≡ Err f → FailsAs f (calls_at 2000000 1 [] bytes)
  limit_err f is = subst (λ (y : Result (Unit {0}) (ReadError ScriptFault)). ReadsWhole (λ (z : Unit {0}). calls) y (calls_at 2000000 1 [] bytes)) is at_end

module _ (first mid new : Option (List ℕ)) (number : ℕ) (calls : List Call) (so_far : Reached first mid number calls) (r : Result ReadCall (ReadError Reason)) (reading : ReadsCall mid new r) (room : number ≤ 2000000) (bytes : List ℕ) (e : first ≡ Some bytes) where
  seen : (x : Result ReadCall (ReadError Reason)) → r ≡ x → (rest : List ℕ) × CallOf new x (call_of_front (front_line 65536 rest)) × (calls_at (2000001 - number) number calls rest ≡ calls_at 2000000 1 [] bytes)
  seen x is =
      let at = reached_rest first mid number calls so_far bytes e in
      (at.0, subst (λ (y : Result ReadCall (ReadError Reason)). CallOf new y (call_of_front (front_line 65536 at.0))) is (reading at.0 at.1), at.2)

  pub reached_bad : (f : ReadError Reason) → r ≡ Err f → FailsAs (script_error_of number f) (calls_at 2000000 1 [] bytes)
  reached_bad (reads.Fault reason) is =
      let at = seen (Err (reads.Fault reason)) is in
      sym at.2 ∙ calls_at-bad (2000001 - number) number calls at.0 reason (omega arith) at.1
  reached_bad reads.ReadFault is = tt
  reached_bad reads.OutOfMemory is = tt

  pub reached_end : (found : ReadCall) (calls' : List Call) → r ≡ Ok found → found.has_end ≡ false → calls' ≡ with_call calls found.call → calls_at 2000000 1 [] bytes ≡ Ok calls'
  reached_end found calls' is last pushed =
      let at = seen (Ok found) is in
      let here : call_of_front (front_line 65536 at.0) ≡ Ok (found.call, None) = subst (λ (b : Bool). MatchBool b ((rest : List ℕ) × (new ≡ Some rest) × (call_of_front (front_line 65536 at.0) ≡ Ok (found.call, Some rest))) (call_of_front (front_line 65536 at.0) ≡ Ok (found.call, None))) last at.1 in
      sym at.2 ∙ calls_at-end (2000001 - number) number calls found.call at.0 (omega arith) here ∙ ap (λ (cs : List Call). Ok cs) (sym pushed)

  -- with one more whole line
  pub reached_more : (found : ReadCall) (calls' : List Call) → r ≡ Ok found → found.has_end ≡ true → calls' ≡ with_call calls found.call → (taken rest : List ℕ) × (bytes ≡ taken ++ rest) × (new ≡ Some rest) × LinesTaken (number + 1) calls' taken
  reached_more found calls' is more pushed =
      let at = so_far bytes e in
      let read : CallOf new (Ok found) (call_of_front (front_line 65536 at.1)) = subst (λ (y : Result ReadCall (ReadError Reason)). CallOf new y (call_of_front (front_line 65536 at.1))) is (reading at.1 at.3) in
      let here : (rest : List ℕ) × (new ≡ Some rest) × (call_of_front (front_line 65536 at.1) ≡ Ok (found.call, Some rest)) = subst (λ (b : Bool). MatchBool b ((rest : List ℕ) × (new ≡ Some rest) × (call_of_front (front_line 65536 at.1) ≡ Ok (found.call, Some rest))) (call_of_front (front_line 65536 at.1) ≡ Ok (found.call, None))) more read in
      let line = whole_line at.1 found.call here.0 here.2 in
      let less : 2000001 - (number + 1) ≡ 2000001 - number - 1 = omega arith in (
        at.0 ++ (line.0 ++ 10 ∷ []),
        here.0,
        at.2 ∙ ap (λ l. at.0 ++ l) (line.1 ∙ sym (append_assoc line.0 (10 ∷ []) here.0)) ∙ sym (append_assoc at.0 (line.0 ++ 10 ∷ []) here.0),
        here.1,
        record {
          gives = λ rest.
              ap (λ (k : ℕ). calls_at k (number + 1) calls' rest) less ∙ ap (λ (cs : List Call). calls_at (2000001 - number - 1) (number + 1) cs rest) pushed
              ∙ sym (calls_at-step (2000001 - number) number calls found.call (line.0 ++ 10 ∷ rest) rest (omega arith) (line.2 rest))
              ∙ at.4.gives (line.0 ++ 10 ∷ rest)
              ∙ ap (calls_at 2000000 1 []) (ap (λ l. at.0 ++ l) (sym (append_assoc line.0 (10 ∷ []) rest)) ∙ sym (append_assoc at.0 (line.0 ++ 10 ∷ []) rest));
          ends = inr (at.0 ++ line.0, sym (append_assoc at.0 line.0 (10 ∷ [])));
        },
      )
