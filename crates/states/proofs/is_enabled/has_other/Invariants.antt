use Rattle.std.proofs.Common.{◌≡◌}
use Rattle.std.specs.List.{list_any}
use Rattle.states.proofs.Others.{is_other}
use Rattle.states.proofs.is_enabled.has_other.Given as goal

abbrev pub invariant-loop-path : goal.invariant-loop-path
invariant-loop-path l = list_any (is_other l.own) l.path-iterator ≡ list_any (is_other l.own) l.initial.path-iterator
