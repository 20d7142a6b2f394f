-- The exit status of the program if it fails.
use Rattle.std.specs.Prelude.{ℕ}
use Rattle.arguments.specs.Statuses.{status_of}
use Rattle.unitadm.specs.declared.program.Failure.{Failure}
use Rattle.unitadm.specs.declared.program.Failure.TheVariants.{Arguments, Run, Sessions}

abbrev pub failure_status : Failure → ℕ
failure_status (Arguments e) = status_of e
failure_status (Run fault) = 1
failure_status (Sessions fault) = 1
