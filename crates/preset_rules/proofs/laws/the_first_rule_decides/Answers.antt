use Rattle.preset_rules.proofs.Agreeing.{first_rule_decides, no_rules_enable, last_rule_decides}
use Rattle.preset_rules.proofs.Rests.{earlier_rules_decide}
use Rattle.preset_rules.proofs.laws.the_first_rule_decides.Goals as goal

pub returns-clause-first : goal.returns-clause-first
returns-clause-first c = first_rule_decides

pub returns-clause-none : goal.returns-clause-none
returns-clause-none c = no_rules_enable

pub returns-clause-last : goal.returns-clause-last
returns-clause-last c = last_rule_decides

pub returns-clause-earlier : goal.returns-clause-earlier
returns-clause-earlier c = earlier_rules_decide
