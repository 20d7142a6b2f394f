use Rattle.std.proofs.Common.{sym, subst}
use Rattle.disk.specs.Partials.{IsIn}
use Rattle.disk.proofs.Going.{GoesOn}
use Rattle.disk.proofs.taking.Taken.take_area.Goals as goal

pub returns-in-Units-clause-goes : goal.returns-in-Units-clause-goes
returns-in-Units-clause-goes g c asked =
    subst (λ area. GoesOn (g.D.Disk.holds c.args.disk.now) asked c.args.self.now.found c.args.self.now.wanted.items c.take_units.new.self.found c.take_units.new.self.wanted.items c.take_units.result (IsIn area))
    (sym c.in-Units.is) (c.take_units.ensures.goes asked)

pub returns-in-Dependencies-clause-goes : goal.returns-in-Dependencies-clause-goes
returns-in-Dependencies-clause-goes g c asked =
    subst (λ area. GoesOn (g.D.Disk.holds c.args.disk.now) asked c.args.self.now.found c.args.self.now.wanted.items c.take_dependencies.new.self.found c.take_dependencies.new.self.wanted.items c.take_dependencies.result (IsIn area))
    (sym c.in-Dependencies.is) (c.take_dependencies.ensures.goes asked)

pub returns-in-Presets-clause-goes : goal.returns-in-Presets-clause-goes
returns-in-Presets-clause-goes g c asked =
    subst (λ area. GoesOn (g.D.Disk.holds c.args.disk.now) asked c.args.self.now.found c.args.self.now.wanted.items c.take_all_presets.new.self.found c.take_all_presets.new.self.wanted.items c.take_all_presets.result (IsIn area))
    (sym c.in-Presets.is) (c.take_all_presets.ensures.goes asked)
