use Rattle.std.proofs.Common.{rules}
use Rattle.byte_streams.proofs.Prefixes.{all_found, ended, differs, goes_on}
use Rattle.byte_streams.proofs.Taken.{on_err, prefix_kept, prefix_ended, prefix_differs, prefix_goes_on}
use Rattle.byte_streams.proofs.reading.skip_prefix.Goals as goal

pub returns-in-None-clause-prefix : goal.returns-in-None-clause-prefix
returns-in-None-clause-prefix g c bytes e = ended _ _ _ _ _ c.loop-expected.invariant.header bytes e c.loop-expected-test.true _ c.in_ok-read_byte.ensures.next c.in-None.is

pub returns-then-byte-expected-clause-prefix : goal.returns-then-byte-expected-clause-prefix
returns-then-byte-expected-clause-prefix g c bytes e = differs _ _ _ _ _ c.loop-expected.invariant.header bytes e c.loop-expected-test.true _ c.in_ok-read_byte.ensures.next _ c.in-Some.is c.if-byte-expected.true

pub loop-expected-preserved : goal.loop-expected-preserved
loop-expected-preserved g c = record {
  calm = search rules;
  taken = prefix_goes_on _ _ _ _ _ c.loop-expected.invariant.taken c.loop-expected-test.true _ c.in_ok-read_byte.ensures.next _ c.in-Some.is c.if-byte-expected.false;
  header = λ bytes e. goes_on _ _ _ _ _ c.loop-expected.invariant.header bytes e c.loop-expected-test.true _ c.in_ok-read_byte.ensures.next _ c.in-Some.is c.if-byte-expected.false;
}

pub returns-clause-prefix : goal.returns-clause-prefix
returns-clause-prefix g c bytes e =
    let found = all_found _ _ (g.S.Source.left c.loop-expected.source) _ _ c.loop-expected.invariant.header bytes e c.loop-expected-test.false in
    rw found.2 found.1

pub returns-in_err-read_byte-clause-taken : goal.returns-in_err-read_byte-clause-taken
returns-in_err-read_byte-clause-taken g c = on_err _ _ (prefix_kept _ _ _ _ _ c.loop-expected.invariant.taken c.loop-expected-test.true c.in_err-read_byte.ensures.kept)

pub returns-in-None-clause-missed : goal.returns-in-None-clause-missed
returns-in-None-clause-missed g c e = prefix_ended _ _ _ _ _ c.loop-expected.invariant.taken c.loop-expected-test.true _ c.in_ok-read_byte.ensures.next c.in-None.is

pub returns-then-byte-expected-clause-missed : goal.returns-then-byte-expected-clause-missed
returns-then-byte-expected-clause-missed g c e = prefix_differs _ _ _ _ _ c.loop-expected.invariant.taken c.loop-expected-test.true _ c.in_ok-read_byte.ensures.next _ c.in-Some.is
