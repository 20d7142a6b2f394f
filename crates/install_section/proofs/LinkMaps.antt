-- Maps of links, and what they contain.
use Rattle.std.proofs.Common.{◌≡◌, ℕ, true, cond, List, All, Some, sym, ap, ◌∙◌, inl, inr}
use Rattle.std.specs.FinMap as map
use Rattle.std.specs.Cmp.Lexicographic.{nat_list_cmp_total}
use Rattle.std.proofs.lemmas.Bool.{cases_Bool}
use Rattle.std.proofs.lemmas.List.Elements.{All-weaker}
use Rattle.unit_paths.specs.Slots.{is_slot}
use Rattle.link_tree.specs.Trees.{path_cmp}
use Rattle.link_tree.proofs.Changed.{is_at}
use Rattle.link_tree.proofs.Maps.{none_some, all_standing}
use Rattle.link_tree.proofs.Shapes.{same_key}
use Rattle.install_section.specs.LinkSlots.{LinkMap, AreAtSlots}

-- no link is wanted
pub none_at_slots : AreAtSlots map.empty
none_at_slots path file there = none_some file (sym (map.get-empty path_cmp path) ∙ there)

-- a link is wanted at one more slot
pub one_at_slots : (links : LinkMap) (slot file : List ℕ) → is_slot slot ≡ true → AreAtSlots links → AreAtSlots (map.insert links slot file)
one_at_slots links slot file here all path other there = elim (cases_Bool (is_at path slot)) [
  | inl at ↦ ap is_slot (same_key path slot at) ∙ here
  | inr away ↦ all path other (sym (map.get-insert nat_list_cmp_total links slot file path ∙ ap (λ b. cond b (Some file) (map.get links path)) away) ∙ there)
]

-- so the listed links are at slots
pub listed_at_slots : (links : LinkMap) → AreAtSlots links → All (λ link. is_slot link.0 ≡ true) (map.entries links)
listed_at_slots links all = All-weaker (λ link. map.get links link.0 ≡ Some link.1) (λ link. is_slot link.0 ≡ true) (λ link there. all link.0 link.1 there) (map.entries links) (all_standing links)
