use Rattle.std.proofs.Common.{◌≡◌, ℕ, List, Some, Ok}
use Rattle.unit_name.specs.Parts.{IsUnitName}
use Rattle.unit_name.proofs.Names.{no_fault_in_name}
use Rattle.install_section.specs.Words.{name_or_reason}
use Rattle.install_section.proofs.word.name_in.Goals as goal

named : (name text : List ℕ) → name ≡ text → IsUnitName text → Ok name ≡ name_or_reason (Some text)
named name text same is = rw (same, no_fault_in_name text is)

pub returns-in-Ok : goal.returns-in-Ok
returns-in-Ok c = named _ _ c.in-Ok.ensures.0 c.in-Ok.ensures.1
