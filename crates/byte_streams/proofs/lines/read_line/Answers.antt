use Rattle.std.proofs.Common.{◌+◌, ◌-◌, ◌≤◌, ℕ, List, ◌++◌, refl, ap, length, take, drop, arith}
use Rattle.std.proofs.lemmas.List.{length-take}
use Rattle.byte_streams.proofs.Blocks.{front_size, given_in_front}
use Rattle.byte_streams.proofs.Pieces.{reached_end, reached_line_end, reached_limit, stopped_long, stopped_open}
use Rattle.byte_streams.proofs.Taken.{stops_failed}
use Rattle.byte_streams.proofs.lines.read_line.Goals as goal

pub returns-in_err-count-clause-taken : goal.returns-in_err-count-clause-taken
returns-in_err-count-clause-taken g c =
    let few : length c.loop-text.text.items ≤ c.args.limit = omega (arith, c.loop-text.text.ok.0, c.loop-text.invariant.within) in
    stops_failed _ _ _ _ c.from_residual-in_err-count.ensures (stopped_open _ _ _ _ _ c.loop-text.invariant.bytes c.loop-text.invariant.clean few c.in_err-count.ensures.kept)

pub returns-then-count-eq0-clause-line : goal.returns-then-count-eq0-clause-line
returns-then-count-eq0-clause-line g c bytes e =
    let few : length c.loop-text.text.items ≤ c.args.limit = omega (arith, c.loop-text.text.ok.0, c.loop-text.invariant.within) in
    let none = ap (λ n. take n c.read_some_of_line.new.room) c.if-count-eq0.true in
    let found = reached_end _ _ _ _ _ c.loop-text.invariant.bytes c.loop-text.invariant.clean few _ c.in_ok-count.ensures.given none bytes e in
    rw found.1 (refl {A = List ℕ}, found.0)

pub returns-in-Whole-clause-line : goal.returns-in-Whole-clause-line
returns-in-Whole-clause-line g c bytes e =
    let few : length c.loop-text.text.items ≤ c.args.limit = omega (arith, c.loop-text.text.ok.0, c.loop-text.invariant.within) in
    let long : length c.push_piece.new.text.items ≤ c.args.limit = omega (arith, c.push_piece.new.text.ok.0, c.push_piece.ensures.within) in
    let given = given_in_front _ _ _ _ _ c.in_ok-count.ensures.count c.in_ok-count.ensures.given in
    let found = reached_line_end _ _ _ _ _ c.loop-text.invariant.bytes c.loop-text.invariant.clean few _ given _ _ c.in_ok-push_piece.ensures.line c.in-Whole.is long bytes e in
    rw found.2 (refl {A = List ℕ}, found.1)

pub returns-in-TooLong-clause-line : goal.returns-in-TooLong-clause-line
returns-in-TooLong-clause-line g c bytes e =
    let few : length c.loop-text.text.items ≤ c.args.limit = omega (arith, c.loop-text.text.ok.0, c.loop-text.invariant.within) in
    let given = given_in_front _ _ _ _ _ c.in_ok-count.ensures.count c.in_ok-count.ensures.given in
    (refl, reached_limit _ _ _ _ _ c.loop-text.invariant.bytes c.loop-text.invariant.clean few _ given _ _ c.in_ok-push_piece.ensures.line c.in-TooLong.is bytes e)

pub returns-in-TooLong-clause-taken : goal.returns-in-TooLong-clause-taken
returns-in-TooLong-clause-taken g c =
    let few : length c.loop-text.text.items ≤ c.args.limit = omega (arith, c.loop-text.text.ok.0, c.loop-text.invariant.within) in
    let size = front_size c.read_some_of_line.new.room (drop (c.min-most.result + 1) c.loop-text.room) c.in_ok-count.count c.in_ok-count.ensures.count in
    let short : length (take c.in_ok-count.count (c.read_some_of_line.new.room ++ drop (c.min-most.result + 1) c.loop-text.room)) ≤ c.args.limit - length c.loop-text.text.items + 1 =
    omega (arith, size, length-take (c.min-most.result + 1) c.loop-text.room, c.in_ok-count.ensures.count, c.read_some_of_line.auto.room, c.min-most.ensures, c.len.ensures, c.loop-text.text.ok.0) in
    let given = given_in_front _ _ _ _ _ c.in_ok-count.ensures.count c.in_ok-count.ensures.given in
    stopped_long _ _ _ _ _ c.loop-text.invariant.bytes c.loop-text.invariant.clean few _ given _ _ c.in_ok-push_piece.ensures.line c.in-TooLong.is short
