-- Which run has which row.
use Rattle.std.proofs.Common.{◌≡◌, ◌↔◌, ◌<◌, ◌≤◌, ◌+◌, ◌-◌, ℕ, zero, suc, cond, List, [], ◌∷◌, ◌++◌, Some, refl, sym, ap, ◌∙◌, arith, subst, inl, inr}
use Rattle.std.proofs.lemmas.Bool.{cases_Bool, ltb-false, le-ltb, lt-ltb, ltb-true}
use Rattle.kept_texts.specs.declared.runs.Run.{Run}
use Rattle.std.specs.Prelude.{nat_lt}
use Rattle.kept_log.specs.Runs.{count_rows, HasRow, run_after, run_of_row}

here : (run : Run) (runs : List Run) (p : ℕ) → p < run.calls → run_after (run ∷ runs) p ≡ Some run
here run runs p within = ap (λ b. cond b (Some run) (run_after runs (p - run.calls))) (lt-ltb p run.calls within)

later : (run : Run) (runs : List Run) (p : ℕ) → run.calls ≤ p → run_after (run ∷ runs) p ≡ run_after runs (p - run.calls)
later run runs p beyond = ap (λ b. cond b (Some run) (run_after runs (p - run.calls))) (le-ltb p run.calls beyond)

same_run : (one other : Run) → Some one ≡ Some other → one ≡ other
same_run one other is = cc

to_row : (runs : List Run) (p : ℕ) (run : Run) → run_after runs p ≡ Some run → HasRow runs (suc p) run
to_row [] p run is = absurd (cc)
to_row (r ∷ runs) p run is = elim (cases_Bool (nat_lt p r.calls)) [
  | inl lt ↦ (
      let within : p < r.calls = ltb-true p r.calls lt in
      let same : r ≡ run = same_run r run (sym (here r runs p within) ∙ is) in
      subst (HasRow (r ∷ runs) (suc p)) same ([], runs, refl, omega arith, omega (arith, within)))
  | inr ge ↦ (
      let beyond : r.calls ≤ p = ltb-false p r.calls ge in
      let rest : HasRow runs (suc (p - r.calls)) run = to_row runs (p - r.calls) run (sym (later r runs p beyond) ∙ is) in
      let low = rest.3 in
      let high = rest.4 in
      (r ∷ rest.0, rest.1, ap (λ xs. r ∷ xs) rest.2, omega (arith, beyond, low), omega (arith, beyond, high)))
]

placed : (before after : List Run) (p : ℕ) (run : Run) → count_rows before < suc p → suc p ≤ count_rows before + run.calls → run_after (before ++ run ∷ after) p ≡ Some run
placed [] after p run low high = here run after p (omega (arith, high))
placed (b ∷ before) after p run low high =
    let beyond : b.calls ≤ p = omega (arith, low) in
    let less : count_rows before < suc (p - b.calls) = omega (arith, low) in
    let more : suc (p - b.calls) ≤ count_rows before + run.calls = omega (arith, low, high) in
    later b (before ++ run ∷ after) p beyond ∙ placed before after (p - b.calls) run less more

from_row : (runs : List Run) (p : ℕ) (run : Run) → HasRow runs (suc p) run → run_after runs p ≡ Some run
from_row runs p run has = subst (λ xs. run_after xs p ≡ Some run) (sym has.2) (placed has.0 has.1 p run has.3 has.4)

no_row : (runs : List Run) (run : Run) → HasRow runs zero run → run_of_row runs zero ≡ Some run
no_row runs run has = let low = has.3 in absurd (omega (arith, low))

pub has_row : (runs : List Run) (n : ℕ) (run : Run) → (run_of_row runs n ≡ Some run) ↔ HasRow runs n run
has_row runs zero run = ((λ is. absurd (cc)), no_row runs run)
has_row runs (suc k) run = (to_row runs k run, from_row runs k run)

-- one run less
pub stepped : (run : Run) (runs : List Run) (row k : ℕ) → run.calls ≤ row → run_after (run ∷ runs) (row + k) ≡ run_after runs ((row - run.calls) + k)
stepped run runs row k beyond =
    let same : (row + k) - run.calls ≡ (row - run.calls) + k = omega (arith, beyond) in
    let after : run.calls ≤ row + k = omega (arith, beyond) in
    later run runs (row + k) after ∙ ap (run_after runs) same
