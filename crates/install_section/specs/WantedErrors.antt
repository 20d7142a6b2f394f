-- What a call of `wanted` returns.
use Rattle.std.specs.Prelude.{◌≡◌, Result, Ok, Err}
use Rattle.install_section.specs.declared.wants.Wanted.{Wanted}
use Rattle.install_section.specs.declared.wants.WantedError.{WantedError}
use Rattle.install_section.specs.declared.wants.WantedError.TheVariants.{NeedsInstance, Clash, OutOfMemory}
use Rattle.install_section.specs.declared.wants.WantedFault.{WantedFault}
use Rattle.install_section.specs.declared.wants.WantedFault.TheVariants as faults

-- The links, or what is wrong with them. Memory may run out.
abbrev pub Gives : Result Wanted WantedFault → Result Wanted WantedError → Type 0
Gives concluded (Ok wanted) = concluded ≡ Ok wanted
Gives concluded (Err (NeedsInstance unit)) = concluded ≡ Err (faults.NeedsInstance unit)
Gives concluded (Err (Clash path)) = concluded ≡ Err (faults.Clash path)
Gives concluded (Err OutOfMemory) = Unit {0}
