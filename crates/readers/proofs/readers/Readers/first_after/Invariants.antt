use Rattle.std.proofs.Common.{take}
use Rattle.std.specs.List.{list_any}
use Rattle.readers.specs.Numbers.{IsNext}
use Rattle.readers.specs.Readers.{is_touched_in}
use Rattle.readers.proofs.readers.Readers.first_after.Given as goal

abbrev pub invariant-loop-change : goal.invariant-loop-change
invariant-loop-change l = IsNext (λ i. list_any (λ change. is_touched_in l.self change i) (take l.change-index l.changes)) l.n l.first
