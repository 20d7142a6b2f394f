use Rattle.std.proofs.Common.{sym, ap, ◌∙◌, cond, None}
use Rattle.std.specs.FinMap as map
use Rattle.preset_rules.proofs.WinnersFound.{get-presets}
use Rattle.preset_rules.proofs.file.preset_at.Goals as goal

pub returns-then-is_of_preset : goal.returns-then-is_of_preset
returns-then-is_of_preset c =
    c.get.ensures ∙ sym (get-presets c.args.presets.now c.args.path.now ∙ ap (λ b. cond b (map.get c.args.presets.now c.args.path.now) None) (sym c.is_of_preset.ensures ∙ c.if-is_of_preset.true))

pub returns-else-is_of_preset : goal.returns-else-is_of_preset
returns-else-is_of_preset c =
    sym (get-presets c.args.presets.now c.args.path.now ∙ ap (λ b. cond b (map.get c.args.presets.now c.args.path.now) None) (sym c.is_of_preset.ensures ∙ c.if-is_of_preset.false))
