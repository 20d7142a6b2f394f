use Rattle.std.proofs.Common.{◌≡◌, ◌+◌, length, arith}
use Rattle.std.proofs.lemmas.List.{length-append}
use Rattle.byte_streams.proofs.Writes.{stops_behind}
use Rattle.byte_streams.proofs.buffered_writer.write_counted.Goals as goal

pub returns-in-Err-clause-counts : goal.returns-in-Err-clause-counts
returns-in-Err-clause-counts g c before text same out small =
    let fault = c.in-Err.ensures.fault in
    let is : c.saturating_add-in-Err.result ≡ length text + c.in-Err.field-0.0 =
    omega (arith, c.saturating_add-in-Err.ensures, same, small, fault.0, length-append text c.args.bytes.now) in
    stops_behind before _ _ text c.args.bytes.now c.in-Err.field-0.0 _ out fault is
