use Rattle.std.proofs.Common.{◌≡◌, false, sym, ◌∙◌}
use Rattle.std.specs.List.{list_any}
use Rattle.tree_access.specs.Keys.{touches}
use Rattle.tree_access.proofs.Merged.{as_before}
use Rattle.tree_access.proofs.reading.Observation.before.Goals as goal

pub returns-then-not-is_touched : goal.returns-then-not-is_touched
returns-then-not-is_touched c =
    let free : list_any (λ change. touches change c.args.self.key) c.args.changes.now ≡ false = sym c.is_touched.ensures ∙ c.if-not-is_touched.true in
    as_before c.args.tree.now c.args.changes.now c.args.self c.requires.from c.requires.holds free
