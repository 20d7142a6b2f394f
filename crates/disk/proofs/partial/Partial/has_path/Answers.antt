use Rattle.std.proofs.Common.{sym, subst, ◌∙◌}
use Rattle.disk.specs.Partials.{IsIn}
use Rattle.disk.proofs.SlotAreas.{slot_is_in}
use Rattle.disk.proofs.partial.Partial.has_path.Goals as goal

pub returns-then-has : goal.returns-then-has
returns-then-has c found t partial = partial.paths c.args.path.now (sym c.has.ensures ∙ c.if-has.true)

pub returns-in-Some : goal.returns-in-Some
returns-in-Some c known t partial =
    c.has_area.ensures known t partial c.args.path.now
    (subst (λ area. IsIn area c.args.path.now) (sym c.area_of.ensures) (slot_is_in c.args.path.now c.in-Some.slot (sym c.of.ensures ∙ c.in-Some.is)))
