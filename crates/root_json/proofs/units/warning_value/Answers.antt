use Rattle.std.proofs.Common.{◌∙◌, ap, rules}
use Rattle.serde_json.specs.Data.{object}
use Rattle.serde_json.proofs.Views.{view-Object}
use Rattle.root_json.proofs.Spelling.{then_put}
use Rattle.root_json.proofs.units.warning_value.Goals as goal

pub returns : goal.returns
returns c = view-Object _ ∙ ap object (then_put _ _ _ _ _ _ c.in_ok-put_text.ensures (search rules) (search rules))
