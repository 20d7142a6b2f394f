use Rattle.unit_name.proofs.Names.{parts_read, parts_unique}
use Rattle.unit_name.proofs.laws.parts_are_read.Goals as goal

pub returns-clause-read : goal.returns-clause-read
returns-clause-read c = parts_read

pub returns-clause-unique : goal.returns-clause-unique
returns-clause-unique c = parts_unique
