use Rattle.std.proofs.Common.{◌≡◌, ◌++◌, drop}
use Rattle.std.specs.List.{flat_map}
use Rattle.unit_script.specs.Texts.{change_text}
use Rattle.unit_script.proofs.reply.push_each_change.Given as goal

-- the text so far, and that of the rest
abbrev pub invariant-loop-change : goal.invariant-loop-change
invariant-loop-change l = l.out.items ++ flat_map change_text (drop l.change-index l.changes) ≡ l.fn.out.items ++ flat_map change_text l.changes
