-- What a call of `closure` returns.
use Rattle.std.specs.Prelude.{◌≡◌, Result, Ok, Err}
use Rattle.link_tree.specs.Trees.{Entries}
use Rattle.load_path.specs.Search.{Search, each_once}
use Rattle.install_section.specs.declared.closed.Closed.{Closed}
use Rattle.install_section.specs.declared.closed.Closure.{Closure}
use Rattle.install_section.specs.declared.closed.ClosureError.{ClosureError}
use Rattle.install_section.specs.declared.closed.ClosureError.TheVariants.{TooMany, OutOfMemory}
use Rattle.install_section.specs.declared.closed.ClosureFault.{ClosureFault}
use Rattle.install_section.specs.declared.closed.ClosureFault.TheVariants as faults

-- The units and notices that result from a search, or that there are too many, and in both cases
-- each cell once. Memory may run out.
abbrev pub Closes : Search (Result Closed ClosureFault) → Entries → Result Closure ClosureError → Type 0
Closes s t (Ok closure) = (s.conclusion t ≡ Ok (record { units = closure.units; notices = closure.notices })) × (closure.cells ≡ each_once (s.cells t))
Closes s t (Err (TooMany cells)) = (s.conclusion t ≡ Err faults.TooMany) × (cells ≡ each_once (s.cells t))
Closes s t (Err OutOfMemory) = Unit {0}
