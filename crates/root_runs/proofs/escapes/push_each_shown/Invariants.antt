use Rattle.std.proofs.Common.{◌≡◌, ◌++◌, length}
use Rattle.root_runs.specs.Escapes.{shown_after}
use Rattle.root_runs.proofs.escapes.push_each_shown.Given as goal

-- the text so far, and that of what is left
abbrev pub invariant-bytes : goal.invariant-bytes
invariant-bytes l = l.out.items ++ shown_after l.kept l.rest ≡ l.fn.out.items ++ shown_after 0 l.bytes

abbrev pub decreases-bytes : goal.decreases-bytes
decreases-bytes l = length l.rest
