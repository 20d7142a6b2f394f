-- How rules and cells are collected. Only contracts of internal functions that read files use this,
-- so it need not be trusted.
use Rattle.std.specs.Prelude.{◌≡◌, ℕ, List, ◌++◌}
use Rattle.link_tree.specs.Trees.{Entries}
use Rattle.load_path.specs.Search.{Search}
use Rattle.preset_rules.specs.declared.rule.Rule.{Rule}

-- The rules that a search results in, and its cells, have been added to those before.
abbrev pub Gathers : Entries → Search (List Rule) → (rules after_rules : List Rule) (cells after_cells : List (List ℕ)) → Type 0
Gathers t s rules after_rules cells after_cells = (after_rules ≡ rules ++ s.conclusion t) × (after_cells ≡ cells ++ s.cells t)
