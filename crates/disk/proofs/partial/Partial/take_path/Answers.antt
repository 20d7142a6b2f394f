use Rattle.std.proofs.Common.{◌≡◌, refl, sym, ap, subst, ◌∙◌}
use Rattle.std.specs.Prelude.{IfErr, IfSome}
use Rattle.std.specs.FinMap as map
use Rattle.link_tree.proofs.Stops.{returned}
use Rattle.disk.specs.Partials.{IsPartial, IsReasonAgainstPart, IsTakenFrom, TakesMore}
use Rattle.disk.proofs.Parts.{if_captured, if_path_taken, if_stopped}
use Rattle.disk.proofs.partial.Partial.take_path.Goals as goal

pub returns-clause-goes : goal.returns-clause-goes
returns-clause-goes g c =
    if_path_taken (g.D.Disk.holds c.args.disk.now) c.args.self.now _ c.args.path.now
    (subst (λ tree. IfSome tree (λ t. TakesMore t c.args.self.now.taken c.take_at.new.self (λ q. q ≡ c.args.path.now))) c.in_ok-expect_directory.ensures.kept c.in_ok-take_at.ensures.goes)
    (c.in_ok-insert.ensures ∙ ap (λ path. map.insert c.args.self.now.paths path tt) c.in_ok-copy.ensures) refl

pub returns-clause-captured : goal.returns-clause-captured
returns-clause-captured g c =
    if_captured (g.D.Disk.holds c.args.disk.now) c.args.self.now c.take_at.new.self (λ q. q ≡ c.args.path.now)
    (subst (λ tree. IfSome tree (λ t. TakesMore t c.args.self.now.taken c.take_at.new.self (λ q. q ≡ c.args.path.now))) c.in_ok-expect_directory.ensures.kept c.in_ok-take_at.ensures.goes)

pub returns-in_err-take_at-clause-reason : goal.returns-in_err-take_at-clause-reason
returns-in_err-take_at-clause-reason g c =
    let tree = g.D.Disk.holds c.args.disk.now in
    let e = c.in_err-take_at.field-0.0 in
    subst (λ r. IfErr r (λ e. IfSome tree (λ t. IsPartial t c.args.self.now → IsReasonAgainstPart t e))) (sym (returned c.from_residual-in_err-take_at.result e c.from_residual-in_err-take_at.ensures))
    (if_stopped tree c.args.self.now e (subst (λ tree. IfSome tree (λ t. IsTakenFrom t c.args.self.now.taken → IsReasonAgainstPart t e)) c.in_ok-expect_directory.ensures.kept c.in_err-take_at.ensures.goes))
