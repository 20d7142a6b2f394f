use Rattle.std.proofs.Common.{◌≡◌}
use Rattle.link_tree.specs.Trees.{Entries}
use Rattle.link_tree.specs.Differences.{differences}
use Rattle.tree_steps.specs.Walks.{made_alike}
use Rattle.tree_steps.proofs.differing.note_all.Given as goal

-- the changes noted so far, and the paths that remain
abbrev pub invariant-loop-path : goal.invariant-loop-path
invariant-loop-path l = (now : Entries) → l.fn.net ≡ differences l.old now → (later : Entries) × (l.net ≡ differences l.old later) × (made_alike l.path-iterator l.new later ≡ made_alike l.initial.path-iterator l.new now)
