-- How the slots of a root change so that they are as an inventory has them.
use Rattle.std.specs.Prelude.{◌≡◌, Bool, false, ◌&&◌, not, is_some, List}
use Rattle.link_tree.specs.declared.change.Change.{Change}
use Rattle.root_access.specs.Failures.{HasReason}
use Rattle.root_access.specs.declared.failure.Failure.{Failure}
use Rattle.root_access.specs.declared.failure.Failure.TheVariants as failures
use Rattle.root_access.specs.declared.failure.Reason.TheVariants as reasons
use Rattle.root_runs.specs.Plans.{first_of_vendor}

-- whether changes are refused since one is of something of the vendor's
abbrev pub is_forbidden : (vendor : Bool) → List Change → Bool
is_forbidden vendor changes = is_some (first_of_vendor changes) && not vendor

-- They are refused so, or memory ran out.
abbrev pub IsForbidden : Failure → Type 0
IsForbidden failure = HasReason reasons.Vendor failure
