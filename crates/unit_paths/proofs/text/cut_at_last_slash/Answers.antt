use Rattle.std.proofs.Common.{◌≡◌, ◌∙◌, sym, ap, ◌-◌, ◌+◌, ℕ, false, drop, arith, suc}
use Rattle.std.specs.List.{list_any}
use Rattle.std.proofs.lemmas.List.{take_rest}
use Rattle.unit_paths.specs.Paths.{is_slash}
use Rattle.unit_paths.proofs.Slashes.{parent-at, parent-none, name-at, name-none}
use Rattle.unit_paths.proofs.text.cut_at_last_slash.Goals as goal

pub returns-then-text-i-eq47-clause-parent : goal.returns-then-text-i-eq47-clause-parent
returns-then-text-i-eq47-clause-parent c =
    let i : ℕ = c.loop-i.i - 1 in
    let back : suc i ≡ c.loop-i.i = omega arith in
    let none : list_any is_slash (drop (suc i) c.args.text.now) ≡ false = rw back c.loop-i.invariant in
    parent-at c.args.text.now i (omega arith) c.if-text-i-eq47.true none

pub returns-then-text-i-eq47-clause-name : goal.returns-then-text-i-eq47-clause-name
returns-then-text-i-eq47-clause-name c =
    let i : ℕ = c.loop-i.i - 1 in
    let back : suc i ≡ c.loop-i.i = omega arith in
    let next : i + 1 ≡ suc i = omega arith in
    let none : list_any is_slash (drop (suc i) c.args.text.now) ≡ false = rw back c.loop-i.invariant in
    take_rest c.args.text.now (i + 1) ∙ ap (λ n. drop n c.args.text.now) next ∙ name-at c.args.text.now i (omega arith) c.if-text-i-eq47.true none

pub returns-clause-parent : goal.returns-clause-parent
returns-clause-parent c = sym (parent-none c.args.text.now (let zero : c.loop-i.i ≡ 0 = omega arith in rw zero at c.loop-i.invariant))

pub returns-clause-name : goal.returns-clause-name
returns-clause-name c = sym (name-none c.args.text.now (let zero : c.loop-i.i ≡ 0 = omega arith in rw zero at c.loop-i.invariant))
