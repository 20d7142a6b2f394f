use Rattle.std.proofs.Common.{◌∙◌, Ok, Err, subst, sym}
use Rattle.link_tree.proofs.Stops.{returned}
use Rattle.disk.specs.Capturing.{AtSome, IsSlotIn}
use Rattle.disk.proofs.Going.{GoesOn, one_turn, all_turns, ended}
use Rattle.disk.proofs.taking.Taken.take_directories.Goals as goal

pub returns-in_err-take_if_directory-clause-goes : goal.returns-in_err-take_if_directory-clause-goes
returns-in_err-take_if_directory-clause-goes g c asked =
    let tree = g.D.Disk.holds c.args.disk.now in
    let e = c.in_err-take_if_directory.field-0.0 in
    let goes = subst (λ tree. GoesOn tree asked c.loop-directory.self.found c.loop-directory.self.wanted.items c.take_if_directory.new.self.found c.take_if_directory.new.self.wanted.items (Err e) (IsSlotIn c.directory-item.result)) c.loop-directory.invariant.1 (c.in_err-take_if_directory.ensures.goes asked) in
    subst (λ r. GoesOn tree asked c.args.self.now.found c.args.self.now.wanted.items c.take_if_directory.new.self.found c.take_if_directory.new.self.wanted.items r (AtSome c.args.directories.now IsSlotIn)) (sym (returned c.from_residual.result e c.from_residual.ensures))
    (ended c.args.directories.now IsSlotIn tree asked c.args.self.now.found c.loop-directory.self.found c.take_if_directory.new.self.found c.args.self.now.wanted.items c.loop-directory.self.wanted.items c.take_if_directory.new.self.wanted.items e (AtSome c.args.directories.now IsSlotIn) c.directory-item.result c.loop-directory.directory-index (c.loop-directory.invariant.0 asked) goes)

pub loop-directory-preserved : goal.loop-directory-preserved
loop-directory-preserved g c = (
  λ asked.
      let goes = subst (λ tree. GoesOn tree asked c.loop-directory.self.found c.loop-directory.self.wanted.items c.take_if_directory.new.self.found c.take_if_directory.new.self.wanted.items (Ok tt) (IsSlotIn c.directory-item.result)) c.loop-directory.invariant.1 (c.in_ok-take_if_directory.ensures.goes asked) in
      one_turn c.args.directories.now IsSlotIn (g.D.Disk.holds c.args.disk.now) asked c.args.self.now.found c.loop-directory.self.found c.take_if_directory.new.self.found c.args.self.now.wanted.items c.loop-directory.self.wanted.items c.take_if_directory.new.self.wanted.items (Ok tt) c.loop-directory.directory-index c.directory-item.result c.directory-item.is c.loop-directory-test.true (c.loop-directory.invariant.0 asked) goes,
  c.in_ok-take_if_directory.ensures.kept ∙ c.loop-directory.invariant.1,
  c.in_ok-take_if_directory.ensures.counted ∙ c.loop-directory.invariant.2,
)

pub returns-clause-goes : goal.returns-clause-goes
returns-clause-goes g c asked =
    all_turns c.args.directories.now IsSlotIn (g.D.Disk.holds c.args.disk.now) asked c.args.self.now.found c.loop-directory.self.found c.args.self.now.wanted.items c.loop-directory.self.wanted.items c.loop-directory.directory-index c.loop-directory-test.false (c.loop-directory.invariant.0 asked)
