use Rattle.std.proofs.Common.{◌≡◌, ◌∙◌, sym, ap, false, length, rules, tests}
use Rattle.std.specs.Prelude.{◌==◌}
use Rattle.unit_paths.specs.Paths.{is_path, is_root, parent}
use Rattle.unit_paths.proofs.Slashes.{parent_path, parent_shorter, not_root}
use Rattle.unit_paths.proofs.path.TreePath.into_parent.Goals as goal

pub invariant_of-result : goal.invariant_of-result
invariant_of-result c =
    let is : c.truncate.new.self.items ≡ parent c.self.inside.text.items = c.truncate.ensures.items ∙ (rw c.deref.ensures.value at c.parent_len-end.ensures.len) in
    let some : (length c.truncate.new.self.items == 0) ≡ false = search (rules, tests) in
    ap is_path is ∙ parent_path c.self.inside.text.items c.self.invariant (sym (ap is_root is) ∙ not_root c.truncate.new.self.items some)

pub returns-else-is_empty-clause-shorter : goal.returns-else-is_empty-clause-shorter
returns-else-is_empty-clause-shorter c =
    let is : c.truncate.new.self.items ≡ parent c.self.inside.text.items = c.truncate.ensures.items ∙ (rw c.deref.ensures.value at c.parent_len-end.ensures.len) in
    rw (is, ← c.self.view_is) (parent_shorter c.self.inside.text.items c.self.invariant)
