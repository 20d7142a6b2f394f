-- With which status the program ends if it fails.
use Rattle.std.specs.Prelude.{ℕ}
use Rattle.real_roots.specs.declared.trouble.Trouble.TheVariants as troubles
use Rattle.root_access.specs.declared.failure.Reason.TheVariants as reasons
use Rattle.root_access.specs.declared.failure.Failure.{Failure}
use Rattle.root_access.specs.declared.failure.Failure.TheVariants as failures

-- 2: bad arguments; 4: something else is there than was captured; 5: a part of the changes is made;
-- 6: they are made, and standard output failed; otherwise 1. But for 5 and 6 the root is as it was.
abbrev pub status_of : Failure → ℕ
status_of failures.NoRoot = 2
status_of (failures.BadWords text) = 2
status_of failures.BadOperator = 2
status_of failures.BadOperatorAround = 2
status_of failures.OutsideAsOperator = 2
status_of failures.RowsUnsaid = 2
status_of failures.NoRowsOfHistory = 2
status_of (failures.Root (troubles.Changed path)) = 4
status_of (failures.At path reasons.Changed) = 4
status_of (failures.HalfDone made steps path why) = 5
status_of (failures.NotSettled trouble steps) = 5
status_of (failures.NotSettledBack trouble) = 5
status_of (failures.ReversedUnsynced trouble step) = 5
status_of (failures.Promised why) = 5
status_of (failures.Unsynced trouble) = 5
status_of failures.OutputAfter = 6
status_of other = 1
