use Rattle.std.proofs.Common.{◌≤◌, ◌-◌}
use Rattle.load_path.proofs.Steps.{Goes}
use Rattle.install_section.specs.Closure.{closed_from}
use Rattle.install_section.proofs.closing.close.Given as goal

abbrev pub invariant-loop-place : goal.invariant-loop-place
invariant-loop-place l = record {
  within : l.place ≤ 1024;
  goes : Goes l.tree l.cells (closed_from (1024 - l.place) l.place l.closed) l.fn.cells (closed_from 1024 0 l.fn.closed);
}
