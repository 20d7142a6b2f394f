-- What an effect says about the tree that is left.
use Rattle.std.proofs.Common.{◌≡◌, ℕ, List, Option, Ok, Err, refl, ap, ◌∙◌}
use Rattle.std.specs.FinMap as map
use Rattle.link_tree.specs.declared.entry.Entry.{Entry}
use Rattle.link_tree.specs.Trees.{Entries, after_changes}
use Rattle.footprint.specs.declared.answer.Answer.TheVariants.{Refused}
use Rattle.tree_access.specs.declared.refusal.Refusal.{Refusal}
use Rattle.tree_access.specs.Placing.{Placed, Ruling, placed_in}
use Rattle.footprint.specs.Commands.{effect}
use Rattle.slot_commands.specs.Effects.{Refuses, Leaves}
use Rattle.link_tree.proofs.Leads.{leads}
use Rattle.footprint.proofs.Turns.{left_by}

pub refuses : (t : Entries) (ruling : Ruling) (refusal : Refusal) → left_by ruling t ≡ Err refusal → Refuses (effect t map.empty ruling) refusal
refuses t (Ok placed) refusal is = cc
refuses t (Err other) refusal is = let same : other ≡ refusal = cc in (ap Refused same, refl)

-- the changes of an effect lead to the tree with everything placed
pub placed_leads : (t : Entries) (placed : List Placed) → after_changes (effect t map.empty (Ok placed)).changes t ≡ placed_in placed t
placed_leads t placed = (leads t (placed_in placed t)).to

pub leaves_tree : (t : Entries) (ruling : Ruling) (u : Entries) (there : List ℕ → Option Entry) → left_by ruling t ≡ Ok u → ((path : List ℕ) → map.get u path ≡ there path) → Leaves (effect t map.empty ruling) t there
leaves_tree t (Ok placed) u there is same = let left : placed_in placed t ≡ u = cc in (refl, λ path. ap (λ m. map.get m path) (placed_leads t placed ∙ left) ∙ same path)
leaves_tree t (Err other) u there is same = cc
