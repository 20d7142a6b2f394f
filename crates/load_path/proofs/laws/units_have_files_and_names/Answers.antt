use Rattle.load_path.proofs.Files.{unit_has_file, plain_is_its_file}
use Rattle.load_path.proofs.Units.{unit_is_like_name}
use Rattle.load_path.proofs.laws.units_have_files_and_names.Goals as goal

pub returns-clause-file : goal.returns-clause-file
returns-clause-file c = unit_has_file

pub returns-clause-name : goal.returns-clause-name
returns-clause-name c = unit_is_like_name

pub returns-clause-plain : goal.returns-clause-plain
returns-clause-plain c = plain_is_its_file
