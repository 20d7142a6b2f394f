use Rattle.std.proofs.Common.{sym, subst, ◌∙◌}
use Rattle.std.specs.Prelude.{IfErr}
use Rattle.link_tree.proofs.Stops.{returned}
use Rattle.kept_runs.specs.Readings.{AreOfRules, IsInputFault, IsReadFault}
use Rattle.kept_runs.specs.Texts.{Says}
use Rattle.kept_runs.proofs.Ruled.{input_is_first, IsTreeFault, tree_is_first}
use Rattle.kept_runs.proofs.kept.Kept.read.Goals as goal

pub returns-in_err-history-clause-fault : goal.returns-in_err-history-clause-fault
returns-in_err-history-clause-fault c =
    let e = c.in_err-history.field-0.0 in
    subst (λ r. IfErr r (λ e. IsReadFault c.args.rules e c.args.text.items)) (sym (returned c.from_residual-in_err-history.result e c.from_residual-in_err-history.ensures))
    (input_is_first c.args.rules e c.args.text.items
    (c.in_ok-text.text.parts, c.in_ok-text.ensures.parts, subst (AreOfRules c.args.rules) c.runs.ensures c.in_ok-check_rules.ensures.ok)
    (subst (IsInputFault e) (c.bytes.ensures ∙ c.in_ok-text.ensures.bytes) c.in_err-history.ensures.fault))

pub returns-in_err-check_tree-clause-fault : goal.returns-in_err-check_tree-clause-fault
returns-in_err-check_tree-clause-fault c =
    let e = c.in_err-check_tree.field-0.0 in
    let first = c.in_ok-history.history.first in
    let rows = c.in_ok-history.history.rows in
    subst (λ r. IfErr r (λ e. IsReadFault c.args.rules e c.args.text.items)) (sym (returned c.from_residual-in_err-check_tree.result e c.from_residual-in_err-check_tree.ensures))
    (tree_is_first c.args.rules e c.args.text.items c.in_ok-text.text.parts c.in_ok-text.ensures.parts (subst (AreOfRules c.args.rules) c.runs.ensures c.in_ok-check_rules.ensures.ok) first rows
    (subst (λ text. Says text first rows) (c.bytes.ensures ∙ c.in_ok-text.ensures.bytes) c.in_ok-history.ensures.says)
    (subst (IsTreeFault e first rows) c.runs-2.ensures c.in_err-check_tree.ensures.err))
