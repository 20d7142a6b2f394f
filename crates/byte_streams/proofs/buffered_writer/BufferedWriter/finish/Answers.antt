use Rattle.byte_streams.proofs.Writes.{flush_ends}
use Rattle.byte_streams.proofs.buffered_writer.BufferedWriter.finish.Goals as goal

pub returns-clause-writes : goal.returns-clause-writes
returns-clause-writes g c before text has_written small =
    let sent = c.in_ok-write_buffer.ensures in
    flush_ends before _ c.write_buffer.new.self text (sent.writes before text has_written small) sent.buffer _ c.flush.ensures.bytes _ c.flush.ensures.fault
