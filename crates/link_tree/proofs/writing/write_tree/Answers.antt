use Rattle.std.specs.Prelude.{◌++◌, codes}
use Rattle.std.specs.FinMap as map
use Rattle.std.specs.List.{flat_map}
use Rattle.std.proofs.Common.{refl}
use Rattle.link_tree.specs.Trees.{entry_line, inventory_text}
use Rattle.byte_streams.proofs.Writes.{fails, last_is_written, more_is_written, none_is_written}
use Rattle.link_tree.proofs.writing.write_tree.Goals as goal

pub returns-in_err-write-clause-writes : goal.returns-in_err-write-clause-writes
returns-in_err-write-clause-writes g c =
    let all = inventory_text c.args.tree.now in
    let none = none_is_written (g.K.Sink.written c.args.sink.now) c.args.writer.now all all refl in
    fails _ _ _ _ _ c.write.new.self all (codes "unitadm-inventory 1\n") (flat_map entry_line (map.entries c.args.tree.now) ++ codes "end\n") none _ c.in_err-write.ensures.writes _ c.from_residual.ensures

pub returns-in_err-write_lines-clause-writes : goal.returns-in_err-write_lines-clause-writes
returns-in_err-write_lines-clause-writes g c =
    let all = inventory_text c.args.tree.now in
    let none = none_is_written (g.K.Sink.written c.args.sink.now) c.args.writer.now all all refl in
    let header = more_is_written _ _ _ _ _ c.write.new.self all (codes "unitadm-inventory 1\n") (flat_map entry_line (map.entries c.args.tree.now) ++ codes "end\n") none c.in_ok-write.ensures.writes in
    fails _ _ _ _ _ c.write_lines.new.writer all (flat_map entry_line (map.entries c.args.tree.now)) (codes "end\n") header _ c.in_err-write_lines.ensures.writes _ c.from_residual-in_err-write_lines.ensures

pub returns-clause-writes : goal.returns-clause-writes
returns-clause-writes g c =
    let all = inventory_text c.args.tree.now in
    let none = none_is_written (g.K.Sink.written c.args.sink.now) c.args.writer.now all all refl in
    let header = more_is_written _ _ _ _ _ c.write.new.self all (codes "unitadm-inventory 1\n") (flat_map entry_line (map.entries c.args.tree.now) ++ codes "end\n") none c.in_ok-write.ensures.writes in
    let lines = more_is_written _ _ _ _ _ c.write_lines.new.writer all (flat_map entry_line (map.entries c.args.tree.now)) (codes "end\n") header c.in_ok-write_lines.ensures.writes in
    last_is_written _ _ _ _ _ _ all (codes "end\n") lines _ c.write-2.ensures.writes
