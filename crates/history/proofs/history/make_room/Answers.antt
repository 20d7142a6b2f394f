use Rattle.std.proofs.Common.{◌≡◌, ◌+◌, arith, length, sym, ap, ◌∙◌}
use Rattle.std.specs.Prelude.{is_some}
use Rattle.readers.specs.Readers.{reads, is_read}
use Rattle.history.specs.Rows.{command_of}
use Rattle.history.proofs.Indexed.{taken_back, same_number}
use Rattle.history.proofs.history.make_room.Goals as goal

pub returns-in-Err-clause-unlisted : goal.returns-in-Err-clause-unlisted
returns-in-Err-clause-unlisted g c = λ k i.
    let n = length c.args.rows.now.items + 1 in
    let outcome = c.args.outcome.now in
    taken_back (reads c.args.readers.now k i) _ _ (is_some (command_of g.O.Operation.asks c.args.operation.now outcome.answer)) (is_read outcome.reading k) _
    (c.in_ok-list.ensures.ok k i) (c.remove.ensures k i)
    (λ at. let count : c.len.result + 1 ≡ n = omega (arith, c.len.ensures, ap length c.in_ok-reserve.ensures.rows, c.reserve.new.rows.ok.0) in
    ap (reads c.args.readers.now k) (sym (same_number _ i at) ∙ count) ∙ c.requires.fresh k)
