use Rattle.std.proofs.Common.{◌<◌, List, ◌++◌, sym, ap, subst, ◌∙◌}
use Rattle.std.specs.Vec.Iter.{into_iter_items}
use Rattle.std.proofs.lemmas.Bool.{true≢false}
use Rattle.std.proofs.lemmas.List.{nil_from_length}
use Rattle.sessions.specs.declared.asks.Ask.{Ask}
use Rattle.sessions.specs.Desks.{Jobs}
use Rattle.sessions.specs.Fed.{AreOf, jobs_of}
use Rattle.sessions.proofs.Feeds.{next_is_of, left_of, issued_one, is_open, all_issued}
use Rattle.sessions.proofs.feeding.feed_all.Goals as goal

pub loop-ask-init : goal.loop-ask-init
loop-ask-init g c =
    let all = c.into_iter-ask-iterator.ensures.into_iter_gives.0 ∙ c.into_vec-ask-items.ensures in record {
      left = subst (λ (asks : List (Ask g.row.O.Denot)). AreOf c.args.operators.now asks) (sym all) c.requires.asks;
      issued = ap (λ (jobs : Jobs). jobs.issued ++ jobs_of (into_iter_items c.into_iter-ask-iterator.result)) c.new-desk.ensures ∙ ap (λ (asks : List (Ask g.row.O.Denot)). jobs_of asks) all;
      is_open = ap (λ (jobs : Jobs). jobs.is_shut) c.new-desk.ensures;
    }

pub place_of-place-requires : goal.place_of-place-requires
place_of-place-requires g c = next_is_of c.args.operators.now (into_iter_items c.loop-ask.ask-iterator) c.in-Some.ask (into_iter_items c.next.new.self) c.in-Some.ensures.steps.0 c.loop-ask.invariant.left

pub index-requires : goal.index-requires
index-requires g c = subst (λ n. c.place_of-place.result < n) (sym c.requires.workers) c.place_of-place.ensures.within

pub loop-ask-preserved : goal.loop-ask-preserved
loop-ask-preserved g c = record {
  left = left_of c.args.operators.now (into_iter_items c.loop-ask.ask-iterator) c.in-Some.ask (into_iter_items c.next.new.self) c.in-Some.ensures.steps.0 c.loop-ask.invariant.left;
  issued = issued_one c.loop-ask.desk c.issue.new.self c.args.feed.asks (into_iter_items c.loop-ask.ask-iterator) c.in-Some.ask (into_iter_items c.next.new.self) c.in-Ok.ensures.issued c.in-Some.ensures.steps.0 c.loop-ask.invariant.issued;
  is_open = is_open c.issue.new.self _ c.in-Ok.ensures.issued;
}

pub returns-in-Err-Disconnected-clause-issued : goal.returns-in-Err-Disconnected-clause-issued
returns-in-Err-Disconnected-clause-issued g c = λ shut. absurd (true≢false (sym shut ∙ ap (λ (jobs : Jobs). jobs.is_shut) c.unserved.ensures.desk ∙ is_open c.issue.new.self _ c.in-Ok.ensures.issued))

pub returns-clause-issued : goal.returns-clause-issued
returns-clause-issued g c = λ shut.
    let left = c.loop-ask.ask-iterator in
    let none = nil_from_length (into_iter_items left) (sym left.rest.ok.0 ∙ c.in-None.ensures.steps.0) in
    ap (λ (jobs : Jobs). jobs.issued) (c.unserved-2.ensures.desk ∙ c.shut.ensures) ∙ all_issued c.loop-ask.desk c.args.feed.asks (into_iter_items left) none c.loop-ask.invariant.issued
