use Rattle.std.proofs.Common.{◌≡◌, ◌++◌, drop}
use Rattle.install_commands.proofs.reenable.keep_all.Given as goal

abbrev pub invariant-loop-cell : goal.invariant-loop-cell
invariant-loop-cell l = l.kept ++ drop l.cell-index l.cells ≡ l.fn.kept ++ l.fn.cells
