use Rattle.std.proofs.Common.{◌≡◌, length}
use Rattle.root_runs.specs.Roots.{without_slashes}
use Rattle.root_runs.proofs.roots.without_slashes.Given as goal

-- only slashes were cut off
abbrev pub invariant-slashes : goal.invariant-slashes
invariant-slashes l = without_slashes l.rest ≡ without_slashes l.text

abbrev pub decreases-slashes : goal.decreases-slashes
decreases-slashes l = length l.rest
