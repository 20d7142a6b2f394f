use Rattle.std.proofs.Common.{◌≡◌, ◌∙◌, sym, refl}
use Rattle.std.proofs.lemmas.Bool.{true≢false}
use Rattle.shared_admin.specs.Closing.{IsOwnRow}
use Rattle.shared_admin.proofs.Firsts.{first_not, one_more, all_are}
use Rattle.shared_admin.proofs.strangers.strange_row.Goals as goal

pub returns-then-not-is_among-clause-some : goal.returns-then-not-is_among-clause-some
returns-then-not-is_among-clause-some g c = (
  c.row-item.result,
  first_not (IsOwnRow c.args.operators.now) c.args.rows.now c.loop-row.row-index c.row-item.result c.row-item.is c.loop-row-test.true c.loop-row.invariant
      (λ own. true≢false (sym own ∙ sym c.is_among.ensures ∙ c.if-not-is_among.true)),
  refl,
)

pub loop-row-preserved : goal.loop-row-preserved
loop-row-preserved g c =
    one_more (IsOwnRow c.args.operators.now) c.args.rows.now c.loop-row.row-index c.row-item.result c.row-item.is c.loop-row-test.true c.loop-row.invariant
    (sym c.is_among.ensures ∙ c.if-not-is_among.false)

pub returns-clause-none : goal.returns-clause-none
returns-clause-none g c = all_are (IsOwnRow c.args.operators.now) c.args.rows.now c.loop-row.row-index c.loop-row-test.false c.loop-row.invariant
