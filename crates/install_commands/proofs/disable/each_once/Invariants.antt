use Rattle.std.proofs.Common.{◌≡◌, drop}
use Rattle.load_path.specs.Search.{with_cells, each_once}
use Rattle.install_commands.proofs.disable.each_once.Given as goal

abbrev pub invariant-loop-name : goal.invariant-loop-name
invariant-loop-name l = with_cells l.once (drop l.name-index l.names) ≡ each_once l.fn.names
