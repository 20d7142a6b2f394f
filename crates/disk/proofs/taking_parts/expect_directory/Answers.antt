use Rattle.std.proofs.Common.{◌≡◌, true, None, sym, ap, ◌∙◌}
use Rattle.unit_paths.specs.Kinds.{is_dependency}
use Rattle.unit_paths.specs.Paths.{parent, parent_of}
use Rattle.unit_paths.specs.Slots.{slot_of}
use Rattle.disk.specs.Partials.{IsNoneOrDirectory}
use Rattle.disk.proofs.DependencyDirectories.{dependency_is_slot, slot_not_in_root}
use Rattle.disk.proofs.Going.{if_all}
use Rattle.disk.proofs.taking_parts.expect_directory.Goals as goal

pub returns-in_default-clause-directory : goal.returns-in_default-clause-directory
returns-in_default-clause-directory g c =
    let path = c.args.path.now in
    let root : parent_of path ≡ None = ap parent_of (sym c.in_ok-copy.ensures) ∙ sym c.into_parent.ensures.parent ∙ c.in_default.is in
    if_all (g.D.Disk.holds c.args.disk.now) (λ t. is_dependency (slot_of path) ≡ true → IsNoneOrDirectory t (parent path))
    (λ t dependency. absurd (slot_not_in_root path (dependency_is_slot (slot_of path) dependency) root))
