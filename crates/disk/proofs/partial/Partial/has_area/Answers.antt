use Rattle.std.proofs.Common.{sym, subst, inr}
use Rattle.disk.specs.Partials.{AreCaptured, IsIn, found_in}
use Rattle.disk.proofs.partial.Partial.has_area.Goals as goal

pub returns-in-Dependencies : goal.returns-in-Dependencies
returns-in-Dependencies c known t partial =
    subst (λ area. AreCaptured t (found_in c.args.self.now) (IsIn area)) (sym c.in-Dependencies.is) (λ q at. c.lists-in-Dependencies.ensures known t partial q (at.0, inr at.1))
