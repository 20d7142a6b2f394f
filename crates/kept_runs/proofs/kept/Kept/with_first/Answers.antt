use Rattle.std.proofs.Common.{subst, ◌∙◌}
use Rattle.kept_runs.specs.Moves.{text_with}
use Rattle.kept_runs.specs.Readings.{IsInputFault}
use Rattle.kept_runs.proofs.Moving.{too_many_rows, no_such_rows}
use Rattle.kept_runs.proofs.kept.Kept.with_first.Goals as goal

pub returns-in-Err-Input-clause-none : goal.returns-in-Err-Input-clause-none
returns-in-Err-Input-clause-none c = λ none alike.
    let text = text_with c.args.self.now.text c.args.first.now in
    no_such_rows text c.args.first.now c.args.self.now.history.rows c.in-Err-Input.field-0-0
    (subst (λ e. IsInputFault e text) c.in-Err-Input.field-0-is (subst (IsInputFault c.in-Err-Input.field-0) (c.bytes.ensures ∙ c.in_ok-text.ensures.0) c.in-Err-Input.ensures.fault)) alike

pub returns-in-Err-Full-clause-none : goal.returns-in-Err-Full-clause-none
returns-in-Err-Full-clause-none c = λ none alike.
    let text = text_with c.args.self.now.text c.args.first.now in
    too_many_rows text c.args.first.now c.args.self.now.history.rows c.rows-rows.ensures.countable
    (subst (λ e. IsInputFault e text) c.in-Err-Full.field-0-is (subst (IsInputFault c.in-Err-Full.field-0) (c.bytes.ensures ∙ c.in_ok-text.ensures.0) c.in-Err-Full.ensures.fault)) alike
