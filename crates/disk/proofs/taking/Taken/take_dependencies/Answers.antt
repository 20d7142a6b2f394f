use Rattle.std.proofs.Common.{ℕ, List, Option, Some, None, sym, subst, ◌⊎◌}
use Rattle.std.specs.Prelude.{IfSome}
use Rattle.link_tree.proofs.Stops.{returned}
use Rattle.unit_paths.specs.Places.{unit_directory}
use Rattle.disk.specs.Disks.{Held, Stands, ListsAll}
use Rattle.disk.specs.Capturing.{AtSome, IsSlotIn}
use Rattle.disk.specs.declared.disk.Listing.TheVariants as listings
use Rattle.disk.specs.Partials.{IsDependencySlotOf}
use Rattle.disk.proofs.Going.{GoesOn}
use Rattle.disk.proofs.Covering.{covers, refused}
use Rattle.disk.proofs.DependencyDirectories.{dependency_slots_listed}
use Rattle.disk.proofs.taking.Taken.take_dependencies.Goals as goal

pub returns-in_err-paths-clause-goes : goal.returns-in_err-paths-clause-goes
returns-in_err-paths-clause-goes g c asked =
    let tree = g.D.Disk.holds c.args.disk.now in
    let e = c.in_err-paths.field-0.0 in
    subst (λ r. GoesOn tree asked c.args.self.now.found c.args.self.now.wanted.items c.args.self.now.found c.args.self.now.wanted.items r (IsDependencySlotOf c.args.place)) (sym (returned c.from_residual-in_err-paths.result e c.from_residual-in_err-paths.ensures))
    (refused tree asked c.args.self.now.found c.args.self.now.found c.args.self.now.wanted.items c.args.self.now.wanted.items e (IsDependencySlotOf c.args.place) c.in_err-paths.ensures.reason)

pub returns-clause-goes : goal.returns-clause-goes
returns-clause-goes g c asked =
    let tree = g.D.Disk.holds c.args.disk.now in
    let paths = c.in_ok-paths.paths in
    let goes = subst (λ tree. GoesOn tree asked c.args.self.now.found c.args.self.now.wanted.items c.take_directories.new.self.found c.take_directories.new.self.wanted.items c.take_directories.result (AtSome paths.items IsSlotIn)) c.in_ok-paths.ensures.kept
    (subst (λ xs. GoesOn (g.D.Disk.holds c.listed.new.disk) asked c.args.self.now.found c.args.self.now.wanted.items c.take_directories.new.self.found c.take_directories.new.self.wanted.items c.take_directories.result (AtSome xs IsSlotIn)) c.deref.ensures.value (c.take_directories.ensures.goes asked)) in
    covers tree asked c.args.self.now.found c.take_directories.new.self.found c.args.self.now.wanted.items c.take_directories.new.self.wanted.items c.take_directories.result (AtSome paths.items IsSlotIn) (IsDependencySlotOf c.args.place) (by_tree tree c.in_ok-paths.ensures.listed) goes
  where
    by_tree : (tree : Option Held) → IfSome tree (λ t. ListsAll t c.in_ok-directory.directory (listings.Paths c.in_ok-paths.paths)) → IfSome tree (λ t. (q : List ℕ) → IsDependencySlotOf c.args.place q → AtSome c.in_ok-paths.paths.items IsSlotIn q ⊎ Stands t q None)
    by_tree None listed = tt
    by_tree (Some t) listed = dependency_slots_listed t (unit_directory c.args.place) c.in_ok-paths.paths.items (subst (λ dir. ListsAll t dir (listings.Paths c.in_ok-paths.paths)) c.in_ok-directory.ensures listed)
