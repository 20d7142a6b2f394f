use Rattle.std.proofs.Common.{sym, ap, map as list_map, ◌∙◌}
use Rattle.unit_script.specs.Machine.{asked}
use Rattle.kept_runs.specs.Texts.{requested}
use Rattle.kept_runs.proofs.Told.{says_calls, calls_said}
use Rattle.kept_runs.proofs.saying.is_input_of.Goals as goal

pub returns-clause-yes : goal.returns-clause-yes
returns-clause-yes c = λ yes text is.
    says_calls text c.args.history.now.first c.args.input.now.tree c.args.input.now.calls.items c.args.history.now.rows is (c.are_same.ensures.yes c.if-not-are_same.false ∙ c.first.ensures)
    (ap (list_map requested) (sym c.rows.ensures.rows) ∙ c.are_calls_of.ensures.yes yes ∙ ap (list_map asked) c.deref.ensures.value) c.rows.ensures.legal

pub returns-clause-no : goal.returns-clause-no
returns-clause-no c = λ text is says.
    let said = calls_said text c.args.history.now.first c.args.input.now.tree c.args.input.now.calls.items c.args.history.now.rows is says in
    c.are_calls_of.ensures.no (ap (list_map requested) c.rows.ensures.rows ∙ said.1 ∙ ap (list_map asked) (sym c.deref.ensures.value))

pub returns-then-not-are_same-clause-no : goal.returns-then-not-are_same-clause-no
returns-then-not-are_same-clause-no c = λ text is says.
    let said = calls_said text c.args.history.now.first c.args.input.now.tree c.args.input.now.calls.items c.args.history.now.rows is says in
    cc (c.are_same.ensures.no (said.0 ∙ sym c.first.ensures), c.if-not-are_same.true)
