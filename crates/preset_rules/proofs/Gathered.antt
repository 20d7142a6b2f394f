-- The rules of one file after another.
use Rattle.std.proofs.Common.{◌≡◌, ℕ, List, [], ◌∷◌, ◌++◌, sym, ap, ◌∙◌, append_assoc, map as list_map}
use Rattle.std.proofs.lemmas.List.{append-nil}
use Rattle.std.specs.FinMap as map
use Rattle.link_tree.specs.Trees.{Entries}
use Rattle.preset_rules.specs.declared.rule.Rule.{Rule}
use Rattle.preset_rules.specs.Files.{rules_at, rules_from}
use Rattle.preset_rules.specs.Gathering.{Gathers}

abbrev pub Named : Type 0
Named = List (List ℕ × List ℕ)

abbrev pub paths_in : Named → List (List ℕ)
paths_in left = list_map (λ e. e.1) left

-- what has been collected, together with what is left, is what there was at first together with
-- everything
abbrev pub GathersAlike : (t presets : Entries) (rules first_rules : List Rule) (cells first_cells : List (List ℕ)) (left all : Named) → Type 0
GathersAlike t presets rules first_rules cells first_cells left all =
    (rules ++ (rules_from presets (paths_in left)).conclusion t ≡ first_rules ++ (rules_from presets (paths_in all)).conclusion t)
    × (cells ++ (rules_from presets (paths_in left)).cells t ≡ first_cells ++ (rules_from presets (paths_in all)).cells t)

pub one_gathered : (t presets : Entries) (rules next first_rules : List Rule) (cells next_cells first_cells : List (List ℕ)) (e : List ℕ × List ℕ) (before left all : Named) → before ≡ e ∷ left
    → Gathers t (rules_at e.1 (map.get presets e.1)) rules next cells next_cells
    → GathersAlike t presets rules first_rules cells first_cells before all → GathersAlike t presets next first_rules next_cells first_cells left all
one_gathered t presets rules next first_rules cells next_cells first_cells e before left all is gathers alike =
    let here = rules_at e.1 (map.get presets e.1) in
    let rest = rules_from presets (paths_in left) in (
      ap (λ r. r ++ rest.conclusion t) gathers.0 ∙ append_assoc rules (here.conclusion t) (rest.conclusion t)
          ∙ ap (λ (b : Named). rules ++ (rules_from presets (paths_in b)).conclusion t) (sym is) ∙ alike.0,
      ap (λ r. r ++ rest.cells t) gathers.1 ∙ append_assoc cells (here.cells t) (rest.cells t)
          ∙ ap (λ (b : Named). cells ++ (rules_from presets (paths_in b)).cells t) (sym is) ∙ alike.1,
    )

pub all_gathered : (t presets : Entries) (rules first_rules : List Rule) (cells first_cells : List (List ℕ)) (left all : Named) (paths : List (List ℕ)) → [] ≡ left → paths_in all ≡ paths
    → GathersAlike t presets rules first_rules cells first_cells left all → Gathers t (rules_from presets paths) first_rules rules first_cells cells
all_gathered t presets rules first_rules cells first_cells left all paths none is alike = (
  sym (append-nil rules) ∙ ap (λ (b : Named). rules ++ (rules_from presets (paths_in b)).conclusion t) none ∙ alike.0 ∙ ap (λ ps. first_rules ++ (rules_from presets ps).conclusion t) is,
  sym (append-nil cells) ∙ ap (λ (b : Named). cells ++ (rules_from presets (paths_in b)).cells t) none ∙ alike.1 ∙ ap (λ ps. first_cells ++ (rules_from presets ps).cells t) is,
)
