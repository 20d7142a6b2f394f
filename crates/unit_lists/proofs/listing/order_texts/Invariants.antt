use Rattle.std.proofs.Common.{◌≡◌}
use Rattle.states.specs.Dependencies.{set_of}
use Rattle.unit_lists.proofs.Texts.{with_texts}
use Rattle.unit_lists.proofs.listing.order_texts.Given as goal

-- the texts of the entries that are left join the set
abbrev pub invariant-loop-path : goal.invariant-loop-path
invariant-loop-path l = with_texts (set_of l.texts.keys) l.path-iterator ≡ with_texts (set_of l.initial.texts.keys) l.initial.path-iterator
