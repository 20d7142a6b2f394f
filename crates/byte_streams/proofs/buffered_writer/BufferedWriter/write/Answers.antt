use Rattle.std.proofs.Common.{arith}
use Rattle.std.proofs.lemmas.List.{length-append}
use Rattle.byte_streams.proofs.Writes.{counts_on}
use Rattle.byte_streams.proofs.buffered_writer.BufferedWriter.write.Goals as goal

pub returns-then-bytes-gt-BUFFER_ROOM-clause-writes : goal.returns-then-bytes-gt-BUFFER_ROOM-clause-writes
returns-then-bytes-gt-BUFFER_ROOM-clause-writes g c before text has_written small =
    let sent = c.in_ok-write_buffer.ensures in
    let has_written_now = sent.writes before text has_written (omega (arith, small, length-append text c.args.bytes.now)) in
    counts_on before _ c.write_buffer.new.self text has_written_now sent.buffer _ _ _ c.args.bytes.now c.write_counted.ensures.counts small
