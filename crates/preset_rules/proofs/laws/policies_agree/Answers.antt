use Rattle.preset_rules.proofs.Agreeing as agreeing
use Rattle.preset_rules.proofs.laws.policies_agree.Goals as goal

pub returns-clause-agree : goal.returns-clause-agree
returns-clause-agree c = agreeing.policies_agree

pub returns-clause-presets : goal.returns-clause-presets
returns-clause-presets c = agreeing.presets_decide
