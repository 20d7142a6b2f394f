use Rattle.std.proofs.Common.{◌∙◌, ap, sym}
use Rattle.std.proofs.lemmas.Result.{IfOk-weaker}
use Rattle.serde_json.specs.Data.{string}
use Rattle.root_json.proofs.Spelling.{valid_text, other_text}
use Rattle.root_json.proofs.texts.text_value.Goals as goal

pub returns-in-Ok : goal.returns-in-Ok
returns-in-Ok c =
    let cases = c.in-Ok.ensures.cases in
    IfOk-weaker c.try_from_str.result _ _ (λ v is. is ∙ ap string cases.0 ∙ sym (valid_text c.args.text.now cases.1)) c.try_from_str.ensures

pub returns-in-Err : goal.returns-in-Err
returns-in-Err c =
    IfOk-weaker c.bytes_value.result _ _ (λ v is. is ∙ sym (other_text c.args.text.now c.in-Err.ensures.cases.0)) c.bytes_value.ensures
