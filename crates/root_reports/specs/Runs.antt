-- What the calls of a run do in all, whether it is made, and with which status it ends.
use Rattle.std.specs.Prelude.{ℕ, Bool, true, false, if◌then◌else◌, List, drop, is_some}
use Rattle.std.specs.List.{list_any}
use Rattle.history.specs.declared.row.Row.{Row}
use Rattle.root_runs.specs.declared.plan.Plan.{Plan}
use Rattle.root_runs.specs.Plans.{first_of_vendor, plan_of}
use Rattle.root_runs.specs.Statuses.{enabled_status, is_refused_row}
use Rattle.root_words.specs.declared.asked.Command.{Command}
use Rattle.root_words.specs.declared.asked.Command.TheVariants as commands
use Rattle.root_words.specs.declared.asked.How.{How}
use Rattle.unit_script.specs.declared.action.Action.{Action}
use Rattle.root_reports.specs.declared.made.Made.{Made}

-- the rows of this run, which come after those of earlier runs
abbrev pub rows_of : Made → List (Row Action)
rows_of made = drop made.before made.history.now.rows

-- whether one of its calls was refused
abbrev pub is_refused : Made → Bool
is_refused made = list_any is_refused_row (rows_of made)

-- what is done with the changes
abbrev pub plan_for : How → Made → Plan
plan_for how made = plan_of how (is_refused made) (is_some (first_of_vendor made.changes.items))

-- is-enabled, get-default and list-dependencies only ask
abbrev pub is_question : Command → Bool
is_question (commands.IsEnabled names) = true
is_question commands.GetDefault = true
is_question (commands.ListDependencies reverse unit) = true
is_question other = false

-- The status of a run that is reported: that of is-enabled is systemctl's; with others it says
-- whether a call was refused, 3 for a script and 1 for a command.
abbrev pub status_of : Command → Made → ℕ
status_of (commands.IsEnabled names) made = enabled_status (rows_of made)
status_of (commands.Run file rows) made = if is_refused made then 3 else 0
status_of other made = if is_refused made then 1 else 0
