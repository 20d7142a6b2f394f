use Rattle.std.proofs.Common.{◌≡◌, ◌++◌, drop}
use Rattle.std.specs.List.{flat_map}
use Rattle.unit_script.specs.Texts.{name_line}
use Rattle.unit_script.proofs.reply.push_name_lines.Given as goal

-- the text so far, and that of the rest
abbrev pub invariant-loop-name : goal.invariant-loop-name
invariant-loop-name l = l.out.items ++ flat_map name_line (drop l.name-index l.names) ≡ l.fn.out.items ++ flat_map name_line l.names
