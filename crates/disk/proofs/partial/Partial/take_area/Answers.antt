use Rattle.std.proofs.Common.{Ok, Err, refl, sym, subst}
use Rattle.std.specs.Prelude.{IfErr, IfSome}
use Rattle.link_tree.proofs.Stops.{returned}
use Rattle.disk.specs.Partials.{IsIn, IsPartial, IsReasonAgainstPart}
use Rattle.disk.proofs.Parts.{if_area_taken, if_captured, if_stopped, takes_more}
use Rattle.disk.proofs.partial.Partial.take_area.Goals as goal

pub returns-clause-goes : goal.returns-clause-goes
returns-clause-goes g c =
    let tree = g.D.Disk.holds c.args.disk.now in
    let takes = takes_more tree c.args.self.now.taken c.take_area.new.self (Ok tt) (IsIn c.args.area) (IsIn c.args.area) (λ q at. at) c.in_ok-take_area.ensures.goes in
    if_area_taken tree c.args.self.now _ c.args.area takes refl c.in_ok-push.ensures.items

pub returns-clause-captured : goal.returns-clause-captured
returns-clause-captured g c =
    let tree = g.D.Disk.holds c.args.disk.now in
    let takes = takes_more tree c.args.self.now.taken c.take_area.new.self (Ok tt) (IsIn c.args.area) (IsIn c.args.area) (λ q at. at) c.in_ok-take_area.ensures.goes in
    if_captured tree c.args.self.now c.take_area.new.self (IsIn c.args.area) takes

pub returns-in_err-take_area-clause-reason : goal.returns-in_err-take_area-clause-reason
returns-in_err-take_area-clause-reason g c =
    let tree = g.D.Disk.holds c.args.disk.now in
    let e = c.in_err-take_area.field-0.0 in
    let stops = takes_more tree c.args.self.now.taken c.take_area.new.self (Err e) (IsIn c.args.area) (IsIn c.args.area) (λ q at. at) c.in_err-take_area.ensures.goes in
    subst (λ r. IfErr r (λ e. IfSome tree (λ t. IsPartial t c.args.self.now → IsReasonAgainstPart t e))) (sym (returned c.from_residual.result e c.from_residual.ensures))
    (if_stopped tree c.args.self.now e stops)
