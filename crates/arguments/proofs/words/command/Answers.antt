use Rattle.std.proofs.Common.{rules, ◌≡◌, ◌∙◌, ap, ap₂, codes, true, false}
use Rattle.std.proofs.lemmas.Result.{IfOk-weaker}
use Rattle.clap.specs.Words.{Shape, app_of, new_app, rule_of, with_rule}
use Rattle.clap.specs.Simple.{app_of_fields, on_top}
use Rattle.arguments.specs.Commands.{sessions_flag}
use Rattle.arguments.proofs.words.command.Goals as goal

abbrev without_help : Shape → Shape
without_help s = record s { disable_help_flag = true }

abbrev without_version : Shape → Shape
without_version s = record s { disable_version_flag = true }

-- one setting after another, and then the flag
pub returns : goal.returns
returns c =
    let flag_is : rule_of c.action-sessions.result ≡ sessions_flag = search rules in
    let local : c.action-sessions.result.global ≡ false = search rules in
    let no_help : app_of c.disable_help_flag.result ≡ on_top without_help (new_app (codes "unitadm")) =
    ap app_of_fields c.disable_help_flag.ensures ∙ ap (on_top without_help) c.new-2.ensures.app in
    let no_version : app_of c.disable_version_flag.result ≡ on_top without_version (on_top without_help (new_app (codes "unitadm"))) =
    ap app_of_fields c.disable_version_flag.ensures ∙ ap (on_top without_version) no_help in
    IfOk-weaker c.arg.result _ _ (λ built added. added.shape local ∙ ap₂ with_rule no_version flag_is) c.arg.ensures
