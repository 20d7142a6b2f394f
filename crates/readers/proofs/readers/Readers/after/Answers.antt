use Rattle.std.proofs.Common.{◌&&◌, subst, List, ℕ}
use Rattle.unit_paths.specs.Slots.{slot_of}
use Rattle.unit_paths.specs.Kinds.{is_preset, is_dependency}
use Rattle.readers.specs.Numbers.{has, lists, IsNext}
use Rattle.readers.specs.Readers.{is_marked_in}
use Rattle.readers.proofs.readers.Readers.after.Goals as goal

pub returns : goal.returns
returns c =
    let r = c.args.self.now in
    let change = c.args.change.now in
    let n = c.args.n in
    let cell = subst (λ (path : List ℕ). IsNext (lists r.cells path) n c.after-cell.result) c.text.ensures.text c.after-cell.ensures in
    let last = c.sooner.ensures (λ i. is_preset (slot_of change.path) && has r.presets i) (λ i. is_dependency (slot_of change.path) && has r.links i) n c.presets_after-presets.ensures c.links_after-links.ensures in
    let third = c.sooner-2.ensures (is_marked_in r change.path change.after) _ n c.marked_after-after.ensures last in
    let second = c.sooner-3.ensures (is_marked_in r change.path change.before) _ n c.marked_after-before.ensures third in
    c.sooner-4.ensures (lists r.cells change.path) _ n cell second
