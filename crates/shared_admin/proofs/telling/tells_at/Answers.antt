use Rattle.std.proofs.Common.{length, refl, sym, subst, ◌∙◌}
use Rattle.std.proofs.lemmas.Bool.{false≢true}
use Rattle.std.proofs.lemmas.Option.{none-some, same_Some, slice_get_past, slice_get_read}
use Rattle.shared_admin.specs.Closing.{Tells}
use Rattle.shared_admin.specs.declared.log.LogEntry.{LogEntry}
use Rattle.shared_admin.proofs.telling.tells_at.Goals as goal

pub returns-in-Some-clause-yes : goal.returns-in-Some-clause-yes
returns-in-Some-clause-yes g c = λ told.
    let entries = c.args.entries.now in
    let entry = c.in-Some.entry.now in
    let found = c.in-Some.ensures.lookup in
    (entry, slice_get_read entries (length entries) c.args.place entry refl found.3.0 found.1, c.tells.ensures.yes told)

pub returns-in-Some-clause-no : goal.returns-in-Some-clause-no
returns-in-Some-clause-no g c = λ untold other there tells.
    let entries = c.args.entries.now in
    let entry = c.in-Some.entry.now in
    let found = c.in-Some.ensures.lookup in
    let same = same_Some other entry (sym there ∙ slice_get_read entries (length entries) c.args.place entry refl found.3.0 found.1) in
    c.tells.ensures.no untold (subst (λ (e : LogEntry g.row.O.Denot). Tells e (c.args.number, c.args.row.now)) same tells)

pub returns-in-None-clause-yes : goal.returns-in-None-clause-yes
returns-in-None-clause-yes g c = λ told. absurd (false≢true told)

pub returns-in-None-clause-no : goal.returns-in-None-clause-no
returns-in-None-clause-no g c = λ untold entry there. absurd (none-some entry (sym (slice_get_past c.args.entries.now c.args.place c.in-None.ensures.lookup.3) ∙ there))
