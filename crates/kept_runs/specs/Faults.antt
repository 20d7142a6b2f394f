-- Errors that other errors become.
use Rattle.history.specs.declared.history.CallError.{CallError}
use Rattle.history.specs.declared.history.CallError.TheVariants as calls
use Rattle.kept_texts.specs.declared.faults.TextError.{TextError}
use Rattle.kept_texts.specs.declared.faults.TextError.TheVariants as texts
use Rattle.unit_script.specs.declared.run_fault.InputError.{InputError}
use Rattle.unit_script.specs.declared.run_fault.InputError.TheVariants as inputs
use Rattle.kept_runs.specs.declared.errors.KeptError.{KeptError}
use Rattle.kept_runs.specs.declared.errors.KeptError.TheVariants as keeps
use Rattle.kept_runs.specs.declared.errors.OthersError.{OthersError}
use Rattle.kept_runs.specs.declared.errors.OthersError.TheVariants as others
use Rattle.kept_runs.specs.declared.errors.LinesError.{LinesError}
use Rattle.kept_runs.specs.declared.errors.LinesError.TheVariants as lines
use Rattle.kept_runs.specs.declared.errors.MakeError.{MakeError}
use Rattle.kept_runs.specs.declared.errors.MakeError.TheVariants as makes

abbrev pub of_text : TextError → KeptError
of_text (texts.Fault line fault) = keeps.Text line fault
of_text texts.OutOfMemory = keeps.OutOfMemory

-- a text in memory never fails to be read
abbrev pub of_input : InputError → KeptError
of_input (inputs.Fault fault) = keeps.Input fault
of_input (inputs.InventoryRead n) = keeps.OutOfMemory
of_input inputs.ReadFault = keeps.OutOfMemory
of_input inputs.OutOfMemory = keeps.OutOfMemory

abbrev pub of_call : CallError → MakeError
of_call calls.Full = makes.Full
of_call calls.OutOfMemory = makes.OutOfMemory

abbrev pub others_of : MakeError → OthersError
others_of makes.TooManyLines = others.TooManyLines
others_of makes.Full = others.Full
others_of makes.OutOfMemory = others.OutOfMemory

abbrev pub lines_of : MakeError → LinesError
lines_of makes.TooManyLines = lines.TooManyLines
lines_of makes.Full = lines.Full
lines_of makes.OutOfMemory = lines.OutOfMemory
