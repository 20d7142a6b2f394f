use Rattle.line_laws.proofs.PresetFiles.{preset_files}
use Rattle.line_laws.proofs.PresetRules.{preset_lines}
use Rattle.line_laws.proofs.laws.preset_lines_are_read.Goals as goal

pub returns-clause-lines : goal.returns-clause-lines
returns-clause-lines c = preset_lines

pub returns-clause-files : goal.returns-clause-files
returns-clause-files c = preset_files
