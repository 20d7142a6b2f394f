use Rattle.std.proofs.Common.{◌≡◌, ◌++◌, false}
use Rattle.std.specs.Vec.Iter.{into_iter_items}
use Rattle.sessions.specs.Fed.{AreOf, jobs_of}
use Rattle.sessions.proofs.feeding.feed_all.Given as goal

-- the remaining requests are of the operators; a job was issued for each of the others
abbrev pub invariant-loop-ask : goal.invariant-loop-ask
invariant-loop-ask g l = record {
  left : AreOf l.fn.operators (into_iter_items l.ask-iterator);
  issued : l.desk.issued ++ jobs_of (into_iter_items l.ask-iterator) ≡ jobs_of l.fn.feed.asks;
  is_open : l.desk.is_shut ≡ false;
}
