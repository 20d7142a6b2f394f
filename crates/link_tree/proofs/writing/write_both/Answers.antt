use Rattle.std.specs.Prelude.{◌++◌, []}
use Rattle.std.proofs.Common.{Ok, Err, refl}
use Rattle.link_tree.specs.Trees.{inventory_text}
use Rattle.byte_streams.proofs.Writes.{last_is_written, more_is_written, none_is_written, nothing_is_written, write_stops, whole_fails}
use Rattle.link_tree.proofs.writing.write_both.Goals as goal

pub returns-in_err-write-clause-written : goal.returns-in_err-write-clause-written
returns-in_err-write-clause-written g c =
    let all = c.args.text.now ++ inventory_text c.args.tree.now in
    let none = none_is_written (g.K.Sink.written c.args.sink.now) c.args.writer all all refl in
    let start = nothing_is_written (g.K.Sink.written c.args.sink.now) c.args.writer c.requires.buffer c.requires.sent in
    let stops = write_stops _ _ _ _ _ c.write.new.self all c.args.text.now (inventory_text c.args.tree.now) none c.in_err-write.field-0.0 c.in_err-write.ensures.writes in
    whole_fails _ _ all _ _ c.from_residual.ensures (stops _ [] start c.requires.counted)

pub returns-in_err-write_tree-clause-written : goal.returns-in_err-write_tree-clause-written
returns-in_err-write_tree-clause-written g c =
    let all = c.args.text.now ++ inventory_text c.args.tree.now in
    let none = none_is_written (g.K.Sink.written c.args.sink.now) c.args.writer all all refl in
    let start = nothing_is_written (g.K.Sink.written c.args.sink.now) c.args.writer c.requires.buffer c.requires.sent in
    let first = more_is_written _ _ _ _ _ c.write.new.self all c.args.text.now (inventory_text c.args.tree.now) none c.in_ok-write.ensures.writes in
    let stops = last_is_written _ _ (g.K.Sink.written c.write_tree.new.sink) _ _ c.write_tree.new.writer all (inventory_text c.args.tree.now) first (Err c.in_err-write_tree.field-0.0) c.in_err-write_tree.ensures.writes in
    whole_fails _ _ all _ _ c.from_residual-in_err-write_tree.ensures (stops _ [] start c.requires.counted)

pub returns-clause-written : goal.returns-clause-written
returns-clause-written g c =
    let all = c.args.text.now ++ inventory_text c.args.tree.now in
    let none = none_is_written (g.K.Sink.written c.args.sink.now) c.args.writer all all refl in
    let start = nothing_is_written (g.K.Sink.written c.args.sink.now) c.args.writer c.requires.buffer c.requires.sent in
    let first = more_is_written _ _ _ _ _ c.write.new.self all c.args.text.now (inventory_text c.args.tree.now) none c.in_ok-write.ensures.writes in
    let both = last_is_written _ _ (g.K.Sink.written c.write_tree.new.sink) _ _ c.write_tree.new.writer all (inventory_text c.args.tree.now) first (Ok tt) c.in_ok-write_tree.ensures.writes in
    c.finish.ensures.writes _ all (both _ [] start c.requires.counted) c.requires.counted
