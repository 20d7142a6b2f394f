use Rattle.std.proofs.Common.{◌≡◌}
use Rattle.load_path.specs.Search.{with_cells, each_once}
use Rattle.load_path.proofs.cells.Cells.each_once.Given as goal

abbrev pub invariant-loop-path : goal.invariant-loop-path
invariant-loop-path l = with_cells l.cells l.path-iterator.rest.items ≡ each_once l.fn.self
