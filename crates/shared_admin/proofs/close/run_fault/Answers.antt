use Rattle.std.proofs.Common.{◌≡◌, List, All, sym, subst, ◌∙◌, inl, inr}
use Rattle.std.proofs.lemmas.Bool.{true≢false}
use Rattle.history.specs.declared.row.Row.{Row}
use Rattle.shared_admin.specs.Closing.{IsOwnRow, IsTold, IsFirstMismatch, IsFirstStrangeRow}
use Rattle.shared_admin.specs.declared.close.CloseFault.TheVariants.{Missing, Stranger, Mismatch, OtherTree}
use Rattle.shared_admin.proofs.Closed.{with_fault}
use Rattle.shared_admin.proofs.close.run_fault.Goals as goal

pub returns-in-Some-clause-some : goal.returns-in-Some-clause-some
returns-in-Some-clause-some g c = with_fault c.args.given.now c.args.operators.now c.args.logs.now c.args.history.now (Missing c.in-Some.operator) c.in-Some.ensures.some

pub returns-in-Some-strange_log-clause-some : goal.returns-in-Some-strange_log-clause-some
returns-in-Some-strange_log-clause-some g c =
    with_fault c.args.given.now c.args.operators.now c.args.logs.now c.args.history.now (Stranger c.in-Some-strange_log.operator)
    (c.in_default.ensures.none, inl c.in-Some-strange_log.ensures.some)

pub returns-in-Some-strange_row-clause-some : goal.returns-in-Some-strange_row-clause-some
returns-in-Some-strange_row-clause-some g c =
    with_fault c.args.given.now c.args.operators.now c.args.logs.now c.args.history.now (Stranger c.in-Some-strange_row.operator) (
      c.in_default.ensures.none,
      inr (
        c.in_default-strange_log.ensures.none,
        subst (λ (rows : List (Row g.row.O.Denot)). IsFirstStrangeRow c.args.operators.now rows c.in-Some-strange_row.operator) c.rows-rows.ensures.rows c.in-Some-strange_row.ensures.some,
      ),
    )

pub returns-in-Some-mismatch-clause-some : goal.returns-in-Some-mismatch-clause-some
returns-in-Some-mismatch-clause-some g c =
    let operators = c.args.operators.now in
    let logs = c.args.logs.now in
    let first = c.in-Some-mismatch.first in
    with_fault c.args.given.now operators logs c.args.history.now (Mismatch first.0 first.1) (
      c.in_default.ensures.none,
      c.in_default-strange_log.ensures.none,
      subst (λ (rows : List (Row g.row.O.Denot)). All (IsOwnRow operators) rows) c.rows-rows.ensures.rows c.in_default-strange_row.ensures.none,
      subst (λ (rows : List (Row g.row.O.Denot)). IsFirstMismatch operators logs rows first.0 first.1) c.rows-rows.ensures.rows c.in-Some-mismatch.ensures.some,
    )

pub returns-then-are_same-clause-none : goal.returns-then-are_same-clause-none
returns-then-are_same-clause-none g c =
    let operators = c.args.operators.now in
    let logs = c.args.logs.now in record {
      each_has_a_log = c.in_default.ensures.none;
      no_other_log = c.in_default-strange_log.ensures.none;
      no_other_row = subst (λ (rows : List (Row g.row.O.Denot)). All (IsOwnRow operators) rows) c.rows-rows.ensures.rows c.in_default-strange_row.ensures.none;
      told = subst (λ (rows : List (Row g.row.O.Denot)). All (IsTold logs rows) operators) c.rows-rows.ensures.rows c.in_default-mismatch.ensures.none;
      same_tree = sym c.first.ensures ∙ c.are_same.ensures.yes c.if-are_same.true;
    }

pub returns-else-are_same-clause-some : goal.returns-else-are_same-clause-some
returns-else-are_same-clause-some g c =
    let operators = c.args.operators.now in
    let logs = c.args.logs.now in
    with_fault c.args.given.now operators logs c.args.history.now OtherTree (
      c.in_default.ensures.none,
      c.in_default-strange_log.ensures.none,
      subst (λ (rows : List (Row g.row.O.Denot)). All (IsOwnRow operators) rows) c.rows-rows.ensures.rows c.in_default-strange_row.ensures.none,
      subst (λ (rows : List (Row g.row.O.Denot)). All (IsTold logs rows) operators) c.rows-rows.ensures.rows c.in_default-mismatch.ensures.none,
      (λ same. true≢false (sym (c.are_same.ensures.no (c.first.ensures ∙ same)) ∙ c.if-are_same.false)),
    )
