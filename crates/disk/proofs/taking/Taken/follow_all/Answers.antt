use Rattle.std.proofs.Common.{Bool, Ok, Err, sym, ap, subst, ◌∙◌}
use Rattle.link_tree.proofs.Stops.{returned}
use Rattle.disk.specs.Capturing.{IsNoPath}
use Rattle.disk.proofs.Going.{GoesFor, GoesOn}
use Rattle.disk.proofs.Followed.{one_turn_more, turn_ended}
use Rattle.disk.proofs.taking.Taken.follow_all.Goals as goal

pub returns-in_err-more-clause-goes : goal.returns-in_err-more-clause-goes
returns-in_err-more-clause-goes g c asked =
    let tree = g.D.Disk.holds c.args.disk.now in
    let first = c.args.self.now in
    let before = c.links.self in
    let after = c.follow_last.new.self in
    let e = c.in_err-more.field-0.0 in
    subst (λ r. GoesOn tree asked first.found first.wanted.items after.found after.wanted.items r IsNoPath) (sym (returned c.from_residual.result e c.from_residual.ensures))
    (turn_ended tree asked first.found before.found after.found first.wanted.items before.wanted.items after.wanted.items e (c.links.invariant.0 asked)
    (subst (λ tree. GoesFor {A = Bool} tree asked before.found before.wanted.items after.found after.wanted.items (Err e) IsNoPath) c.links.invariant.2 (c.in_err-more.ensures.goes asked)))

pub links-preserved : goal.links-preserved
links-preserved g c = (
  λ asked.
      let tree = g.D.Disk.holds c.args.disk.now in
      let first = c.args.self.now in
      let before = c.links.self in
      let after = c.follow_last.new.self in
      one_turn_more tree asked first.found before.found after.found first.wanted.items before.wanted.items after.wanted.items c.in_ok-more.more (c.links.invariant.0 asked)
      (subst (λ tree. GoesFor tree asked before.found before.wanted.items after.found after.wanted.items (Ok c.in_ok-more.more) IsNoPath) c.links.invariant.2 (c.in_ok-more.ensures.goes asked)),
  λ none. c.in_ok-more.ensures.end (ap (λ b. Ok b) none),
  c.in_ok-more.ensures.kept ∙ c.links.invariant.2,
  c.in_ok-more.ensures.counted ∙ c.links.invariant.3,
)
