use Rattle.std.proofs.Common.{◌≡◌, ◌+◌, true, false, sym, ap, subst, ◌∙◌}
use Rattle.std.specs.Str.{bytes_eq}
use Rattle.shared_admin.proofs.Told.{HasTold, passed, told_one, untold, one_over}
use Rattle.shared_admin.proofs.telling.differs_at.Goals.{then-has_text+else-not-tells_at, else-has_text}
use Rattle.shared_admin.proofs.telling.differs_at.Goals as goal

pub returns-then-not-tells_at-clause-some : goal.returns-then-not-tells_at-clause-some
returns-then-not-tells_at-clause-some g c =
    let here = sym (c.has_text.ensures ∙ ap (λ text. bytes_eq text c.row-item.result.operator) c.text.ensures) ∙ c.if-has_text.true in
    untold c.args.operator.now c.args.entries.now c.args.rows.now c.loop-row.told c.loop-row.number c.loop-row.row-index c.row-item.result c.row-item.is c.loop-row-test.true c.loop-row.invariant here
    (λ entry there. c.tells_at.ensures.no c.if-not-tells_at.true entry there)

pub loop-row-preserved : goal.loop-row-preserved
loop-row-preserved g c = elim c.if-has_text.branch [
  | then-has_text+else-not-tells_at w ↦ (
      let here = sym (c.has_text.ensures ∙ ap (λ text. bytes_eq text c.row-item.result.operator) c.text.ensures) ∙ w.if-has_text.true in
      let found = w.tells_at.ensures.yes w.if-not-tells_at.false in
      subst (λ told. HasTold c.args.operator.now c.args.entries.now c.args.rows.now told (c.loop-row.number + 1) (c.loop-row.row-index + 1)) (sym w.told-is)
      (told_one c.args.operator.now c.args.entries.now c.args.rows.now c.loop-row.told c.loop-row.number c.loop-row.row-index c.row-item.result c.row-item.is c.loop-row-test.true c.loop-row.invariant here found.0 found.1 found.2))
  | else-has_text w ↦ (
      let away = sym (c.has_text.ensures ∙ ap (λ text. bytes_eq text c.row-item.result.operator) c.text.ensures) ∙ w.if-has_text.false in
      subst (λ told. HasTold c.args.operator.now c.args.entries.now c.args.rows.now told (c.loop-row.number + 1) (c.loop-row.row-index + 1)) (sym w.told-is)
      (passed c.args.operator.now c.args.entries.now c.args.rows.now c.loop-row.told c.loop-row.number c.loop-row.row-index c.row-item.result c.row-item.is c.loop-row-test.true c.loop-row.invariant away))
]

pub returns-then-told-entries-clause-some : goal.returns-then-told-entries-clause-some
returns-then-told-entries-clause-some g c =
    one_over c.args.operator.now c.args.entries.now c.args.rows.now c.loop-row.told c.loop-row.number c.loop-row.row-index c.loop-row-test.false c.loop-row.invariant c.if-told-entries.true
