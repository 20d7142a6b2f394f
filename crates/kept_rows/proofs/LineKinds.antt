-- Lines that are no calls.
use Rattle.std.proofs.Common.{◌≡◌, ◌+◌, ℕ, true, List, [], ◌∷◌, ◌++◌, Option, None, Result, Ok, Err, refl, sym, ap, ◌∙◌, inl, inr}
use Rattle.std.specs.Prelude.{not, if◌then◌else◌}
use Rattle.std.specs.List.{filter}
use Rattle.std.proofs.lemmas.Bool.{cases_Bool}
use Rattle.link_tree.specs.Inventory.{◌>>=◌}
use Rattle.unit_script.specs.declared.call.Call.{Call}
use Rattle.unit_script.specs.declared.reason.Reason.{Reason}
use Rattle.unit_script.specs.declared.reason.ScriptFault.{ScriptFault}
use Rattle.unit_script.specs.Laws.{calls_of}
use Rattle.unit_script.specs.Script.{is_comment, call_of_line, in_line, with_call}
use Rattle.kept_rows.specs.declared.kinds.LineKind.TheVariants as kinds
use Rattle.kept_rows.specs.Kinds.{comment_kind, is_call_line, CommentsAreSkipped, CallLinesAreEnough}

skipped : (line : List ℕ) → is_comment line ≡ true → call_of_line line ≡ Ok None
unfolding call_of_line
skipped line is = rw is refl

pub comments_are_skipped : CommentsAreSkipped
comments_are_skipped line other = elim (cases_Bool (is_comment line)) [
  | inl is ↦ skipped line is
  | inr is_call ↦ absurd (other (ap (λ b. if b then comment_kind line else kinds.Call) is_call))
]

-- the calls of a line and of the rest, if the rest has the same calls without its comments
step : (r : Result (Option Call) Reason) (number other : ℕ) (rest fewer : Result (List Call) ScriptFault) (calls : List Call) → ((cs : List Call) → rest ≡ Ok cs → fewer ≡ Ok cs)
    → (in_line number r >>= λ call. rest >>= λ cs. Ok (with_call [] call ++ cs)) ≡ Ok calls → (in_line other r >>= λ call. fewer >>= λ cs. Ok (with_call [] call ++ cs)) ≡ Ok calls
step (Err e) number other rest fewer calls f h = cc
step (Ok call) number other (Err e) fewer calls f h = cc
step (Ok call) number other (Ok cs) fewer calls f h = ap (λ r. r >>= λ cs. Ok (with_call [] call ++ cs)) (f cs refl) ∙ h

-- the calls of what follows a line without a call
rest_of : (rest : Result (List Call) ScriptFault) (calls : List Call) → (rest >>= λ cs. Ok (with_call [] None ++ cs)) ≡ Ok calls → rest ≡ Ok calls
rest_of (Err e) calls h = cc
rest_of (Ok cs) calls h = h

pub call_lines_are_enough : CallLinesAreEnough
call_lines_are_enough [] number other calls are = are
call_lines_are_enough (line ∷ lines) number other calls are = elim (cases_Bool (is_comment line)) [
  | inl is ↦ (
      let rest : calls_of (number + 1) lines ≡ Ok calls =
      rest_of (calls_of (number + 1) lines) calls
      (ap (λ r. in_line number r >>= λ call. calls_of (number + 1) lines >>= λ cs. Ok (with_call [] call ++ cs)) (sym (skipped line is)) ∙ are) in
      ap (λ b. calls_of other (if not b then line ∷ filter is_call_line lines else filter is_call_line lines)) is
      ∙ call_lines_are_enough lines (number + 1) other calls rest)
  | inr is_call ↦
      ap (λ b. calls_of other (if not b then line ∷ filter is_call_line lines else filter is_call_line lines)) is_call
      ∙ step (call_of_line line) number other (calls_of (number + 1) lines) (calls_of (other + 1) (filter is_call_line lines)) calls
      (λ cs rest. call_lines_are_enough lines (number + 1) (other + 1) cs rest) are
]
