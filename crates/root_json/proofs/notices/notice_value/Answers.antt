use Rattle.std.proofs.Common.{◌∙◌, ap, rules}
use Rattle.serde_json.specs.Data.{object}
use Rattle.serde_json.proofs.Views.{view-Object}
use Rattle.root_json.proofs.Spelling.{then_put}
use Rattle.root_json.proofs.notices.notice_value.Goals as goal

pub returns : goal.returns
returns c =
    view-Object _
    ∙ ap object
    (then_put _ _ _ _ _ _ c.in_ok-put_word-2.ensures
    (then_put _ _ _ _ _ _ c.in_ok-put_text-2.ensures
    (then_put _ _ _ _ _ _ c.in_ok-put_word.ensures
    (then_put _ _ _ _ _ _ c.in_ok-put_text.ensures (search rules) (search rules)) (search rules)) (search rules)) (search rules))
