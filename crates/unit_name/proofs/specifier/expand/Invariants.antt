use Rattle.std.proofs.Common.{◌≡◌, length}
use Rattle.unit_name.specs.Specifiers.{expansion, onto}
use Rattle.unit_name.proofs.specifier.expand.Given as goal

-- the part that is expanded so far, followed by the expansion of the rest, is the whole expansion
abbrev pub invariant-pieces : goal.invariant-pieces
invariant-pieces l = onto l.text.items (expansion l.name l.rest) ≡ expansion l.name l.word

abbrev pub decreases-pieces : goal.decreases-pieces
decreases-pieces l = length l.rest
