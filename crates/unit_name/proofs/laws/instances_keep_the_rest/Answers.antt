use Rattle.unit_name.proofs.Instances.{instance_set, template_shared}
use Rattle.unit_name.proofs.laws.instances_keep_the_rest.Goals as goal

pub returns-clause-set : goal.returns-clause-set
returns-clause-set c = instance_set

pub returns-clause-shared : goal.returns-clause-shared
returns-clause-shared c = template_shared
