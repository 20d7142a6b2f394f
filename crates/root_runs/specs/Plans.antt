-- What a run does once its calls were made on what was captured.
use Rattle.std.specs.Prelude.{ℕ, Bool, not, ◌&&◌, if◌then◌else◌, List, Option, nat_eq, codes}
use Rattle.std.specs.List.{starts_with, find}
use Rattle.link_tree.specs.declared.change.Change.{Change}
use Rattle.root_words.specs.declared.asked.How.{How}
use Rattle.root_runs.specs.declared.plan.Plan.{Plan}
use Rattle.root_runs.specs.declared.plan.Plan.TheVariants as plans

-- Nothing is changed if a call was refused, unless the others are asked for; nor if something of
-- the vendor's would be, unless that is asked for; nor in a dry run.
abbrev pub plan_of : How → (is_refused is_vendors : Bool) → Plan
plan_of how is_refused is_vendors =
    if is_refused && not how.keep_going then plans.Leave
    else if is_vendors && not how.vendor then plans.Forbid
    else if how.dry_run then plans.Report
    else plans.Make

-- What packages own is beneath /usr, but /usr/local is the administrator's: file-hierarchy(7),
-- hier(7).
abbrev pub is_vendors : List ℕ → Bool
is_vendors path = starts_with nat_eq path (codes "/usr/") && not (starts_with nat_eq path (codes "/usr/local/"))

abbrev pub first_of_vendor : List Change → Option Change
first_of_vendor changes = find (λ change. is_vendors change.path) changes
