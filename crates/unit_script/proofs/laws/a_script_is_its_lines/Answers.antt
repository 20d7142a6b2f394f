use Rattle.unit_script.proofs.ScriptLines.{last_line_needs_no_end, long_line_is_told, one_line_more_is_told, script_is_lines}
use Rattle.unit_script.proofs.laws.a_script_is_its_lines.Goals as goal

pub returns-clause-lines : goal.returns-clause-lines
returns-clause-lines c = script_is_lines

pub returns-clause-last : goal.returns-clause-last
returns-clause-last c = last_line_needs_no_end

pub returns-clause-long : goal.returns-clause-long
returns-clause-long c = long_line_is_told

pub returns-clause-many : goal.returns-clause-many
returns-clause-many c = one_line_more_is_told
