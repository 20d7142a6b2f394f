use Rattle.std.proofs.Common.{◌≡◌, sym, ap, ◌∙◌}
use Rattle.std.proofs.lemmas.Bool.{false≢true}
use Rattle.std.proofs.lemmas.Option.{none-some, same_Some}
use Rattle.shared_admin.specs.declared.log.LogEntry.{LogEntry}
use Rattle.link_tree.proofs.Rows.{index_found, past_none}
use Rattle.sessions.proofs.checking.asks_at.Goals as goal

pub returns-in-Some-clause-yes : goal.returns-in-Some-clause-yes
returns-in-Some-clause-yes g c = λ is. (
  c.in-Some.entry.now,
  index_found c.args.entries.now c.args.place c.in-Some.entry.now c.in-Some.entry.now c.in-Some.ensures.lookup.3.0 (sym (c.in-Some.ensures.lookup.3.1 c.in-Some.entry.now)),
  c.same.ensures.0 is,
)

pub returns-in-Some-clause-no : goal.returns-in-Some-clause-no
returns-in-Some-clause-no g c = λ is entry at asked.
    let found = index_found c.args.entries.now c.args.place c.in-Some.entry.now c.in-Some.entry.now c.in-Some.ensures.lookup.3.0 (sym (c.in-Some.ensures.lookup.3.1 c.in-Some.entry.now)) in
    let one : c.in-Some.entry.now ≡ entry = same_Some c.in-Some.entry.now entry (sym found ∙ at) in
    false≢true (sym is ∙ c.same.ensures.1 (ap (λ (e : LogEntry g.row.O.Denot). e.request) one ∙ asked))

pub returns-in-None-clause-yes : goal.returns-in-None-clause-yes
returns-in-None-clause-yes g c = λ never. absurd (false≢true never)

pub returns-in-None-clause-no : goal.returns-in-None-clause-no
returns-in-None-clause-no g c = λ is entry at asked. none-some entry (sym (past_none c.args.entries.now c.args.place c.in-None.ensures.lookup.3) ∙ at)
