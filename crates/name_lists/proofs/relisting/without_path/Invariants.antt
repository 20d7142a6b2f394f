use Rattle.std.proofs.Common.{◌≡◌, ◌++◌, drop}
use Rattle.name_lists.specs.Lists.{without_path}
use Rattle.name_lists.proofs.relisting.without_path.Given as goal

-- the list so far, followed by the rest as it will be
abbrev pub invariant-loop-next : goal.invariant-loop-next
invariant-loop-next l = l.list.items ++ without_path l.path (drop l.next-index l.paths) ≡ without_path l.path l.paths
