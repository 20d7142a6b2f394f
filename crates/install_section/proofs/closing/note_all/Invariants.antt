use Rattle.std.proofs.Common.{◌≡◌}
use Rattle.load_path.specs.Search.{with_cells}
use Rattle.install_section.proofs.closing.note_all.Given as goal

abbrev pub invariant-loop-path : goal.invariant-loop-path
invariant-loop-path l = with_cells l.seen.keys l.path-iterator.rest.items ≡ with_cells l.fn.seen.keys l.fn.cells
