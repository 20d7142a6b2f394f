use Rattle.std.proofs.Common.{◌≡◌, ◌++◌, drop}
use Rattle.name_lists.specs.Lists.{with_path, still_with}
use Rattle.name_lists.proofs.relisting.with_path.Given as goal

-- the list so far, followed by the rest as it will be
abbrev pub invariant-loop-next : goal.invariant-loop-next
invariant-loop-next l = l.list.items ++ still_with l.placed l.path (drop l.next-index l.paths) ≡ with_path l.path l.paths
