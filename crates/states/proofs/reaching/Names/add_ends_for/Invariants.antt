use Rattle.std.proofs.Common.{◌≡◌, drop}
use Rattle.unit_name.specs.declared.kind.Kind.TheVariants.{Instance}
use Rattle.unit_name.specs.Name.{instance_of}
use Rattle.states.specs.Dependencies.{ends_for}
use Rattle.states.specs.Reaching.{with_names}
use Rattle.states.proofs.reaching.Names.add_ends_for.Given as goal

abbrev pub invariant-loop-end : goal.invariant-loop-end
invariant-loop-end l =
    with_names l.self (ends_for l.reverse (instance_of l.name) (drop l.end-index l.ends) Instance) ≡ with_names l.fn.self (ends_for l.reverse (instance_of l.name) l.ends Instance)
