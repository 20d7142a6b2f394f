use Rattle.std.proofs.Common.{drop}
use Rattle.load_path.specs.Find.{first_in}
use Rattle.load_path.proofs.Steps.{Goes}
use Rattle.load_path.proofs.finding.first_in.Given as goal

abbrev pub invariant-loop-place : goal.invariant-loop-place
invariant-loop-place l = Goes l.tree l.cells (first_in (drop l.place-index l.places) l.name) l.fn.cells (first_in l.fn.places l.fn.name)
