use Rattle.std.proofs.Common.{◌≡◌, ◌++◌, drop}
use Rattle.std.specs.List.{flat_map}
use Rattle.link_tree.specs.Trees.{inverse_of}
use Rattle.unit_script.specs.Texts.{change_text}
use Rattle.unit_script.proofs.reply.push_inverse.Given as goal

-- the text so far, and that of the rest
abbrev pub invariant-loop-change : goal.invariant-loop-change
invariant-loop-change l = l.out.items ++ flat_map change_text (inverse_of (drop l.change-index l.changes)) ≡ l.fn.out.items ++ flat_map change_text (inverse_of l.changes)
