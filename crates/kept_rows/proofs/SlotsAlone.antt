-- The changes at slots between two trees, and what they leave at each path.
use Rattle.std.proofs.Common.{◌≡◌, ◌≢◌, ℕ, true, false, cond, List, [], ◌∷◌, Option, refl, sym, ap, ◌∙◌, subst, inl, inr}
use Rattle.std.specs.Prelude.{if◌then◌else◌}
use Rattle.std.specs.List.{AllByRecursion}
use Rattle.std.specs.Str.{bytes_eq}
use Rattle.std.specs.FinMap as map
use Rattle.std.proofs.lemmas.Bool.{cases_Bool, false≢true}
use Rattle.std.proofs.lemmas.Slice.Eq.{bytes_eq-Decides}
use Rattle.std.proofs.lemmas.List.Elements.{recursion_from_All}
use Rattle.unit_paths.specs.Slots.{is_slot}
use Rattle.link_tree.specs.declared.change.Change.{Change}
use Rattle.link_tree.specs.declared.entry.Entry.{Entry}
use Rattle.link_tree.specs.Trees.{Entries, KeepsPath, AreFrom}
use Rattle.link_tree.specs.Differences.{changes_between}
use Rattle.link_tree.proofs.Changed.{same_tree, same_bytes, after_at, after_at-kept, get-after_changes}
use Rattle.link_tree.proofs.Leads.{leads}
use Rattle.tree_steps.specs.Steps.{at_slots, slot_changes_between}
use Rattle.kept_rows.specs.Others.{with_slots_of}
use Rattle.kept_rows.specs.Laws.{SlotsAreTaken, CapturedIsReached}
use Rattle.kept_rows.proofs.Meeting.{HasPath, has_or_keeps}

-- a path that isn't a slot is kept by the changes at slots
keeps_others : (path : List ℕ) (cs : List Change) → is_slot path ≡ false → KeepsPath path (at_slots cs)
keeps_others path [] off = tt
keeps_others path (c ∷ cs) off = elim (cases_Bool (is_slot c.path)) [
  | inl here ↦ rw here (elim (cases_Bool (bytes_eq path c.path)) [
    | inl same ↦ absurd (false≢true (sym off ∙ ap is_slot (same_bytes path c.path same) ∙ here))
    | inr other ↦ (other, keeps_others path cs off)
  ])
  | inr away ↦ rw away (keeps_others path cs off)
]

-- at a slot the other changes are of no account
slot_after : (path : List ℕ) (cs : List Change) (o : Option Entry) → is_slot path ≡ true → after_at (at_slots cs) path o ≡ after_at cs path o
slot_after path [] o slot = refl
slot_after path (c ∷ cs) o slot = elim (cases_Bool (is_slot c.path)) [
  | inl here ↦ rw here (slot_after path cs (cond (bytes_eq path c.path) c.after o) slot)
  | inr away ↦ elim (cases_Bool (bytes_eq path c.path)) [
    | inl same ↦ absurd (false≢true (sym away ∙ sym (ap is_slot (same_bytes path c.path same)) ∙ slot))
    | inr other ↦ rw away (slot_after path cs o slot ∙ sym (ap (λ b. after_at cs path (cond b c.after o)) other))
  ]
]

reached : (left captured : Entries) (path : List ℕ) → map.get (with_slots_of left captured) path ≡ after_at (slot_changes_between left captured) path (map.get left path)
reached left captured path = get-after_changes (slot_changes_between left captured) left path

pub slots_are_taken : SlotsAreTaken
slots_are_taken left captured path = elim (cases_Bool (is_slot path)) [
  | inl slot ↦
      reached left captured path
      ∙ slot_after path (changes_between left captured) (map.get left path) slot
      ∙ sym (get-after_changes (changes_between left captured) left path)
      ∙ ap (λ t. map.get t path) (leads left captured).to
      ∙ sym (ap (λ b. if b then map.get captured path else map.get left path) slot)
  | inr off ↦
      reached left captured path
      ∙ after_at-kept (slot_changes_between left captured) path (map.get left path) (keeps_others path (changes_between left captured) off)
      ∙ sym (ap (λ b. if b then map.get captured path else map.get left path) off)
]

pub captured_is_reached : CapturedIsReached
captured_is_reached left captured apart = same_tree (with_slots_of left captured) captured (λ path. slots_are_taken left captured path ∙ elim (cases_Bool (is_slot path)) [
  | inl slot ↦ ap (λ b. if b then map.get captured path else map.get left path) slot
  | inr off ↦ ap (λ b. if b then map.get captured path else map.get left path) off ∙ apart path off
])

-- what holds of all changes by recursion holds of those at slots
fewer : (P : Change → Type 0) (cs : List Change) → AllByRecursion P cs → AllByRecursion P (at_slots cs)
fewer P [] all = tt
fewer P (c ∷ cs) all = elim (cases_Bool (is_slot c.path)) [
  | inl here ↦ rw here (all.0, fewer P cs all.1)
  | inr away ↦ rw away (fewer P cs all.1)
]

pub slots_real : (left captured : Entries) → AllByRecursion (λ (c : Change). c.before ≢ c.after) (slot_changes_between left captured)
slots_real left captured =
    fewer (λ (c : Change). c.before ≢ c.after) (changes_between left captured)
    (recursion_from_All (λ (c : Change). c.before ≢ c.after) (changes_between left captured) (leads left captured).real)

has_slot : (path : List ℕ) (cs : List Change) → is_slot path ≡ true → HasPath path cs → HasPath path (at_slots cs)
has_slot path [] slot none = none
has_slot path (c ∷ cs) slot (inl same) = let here : is_slot c.path ≡ true = ap is_slot same ∙ slot in rw here (inl same)
has_slot path (c ∷ cs) slot (inr later) = elim (cases_Bool (is_slot c.path)) [
  | inl here ↦ rw here (inr (has_slot path cs slot later))
  | inr away ↦ rw away (has_slot path cs slot later)
]

has_more : (path : List ℕ) (cs : List Change) → HasPath path (at_slots cs) → HasPath path cs
has_more path [] = λ none. none
has_more path (c ∷ cs) = elim (is_slot c.path) as (λ b. HasPath path (cond b (c ∷ at_slots cs) (at_slots cs)) → HasPath path (c ∷ cs)) [
  | true ↦ λ has. elim has [ inl same ↦ inl same | inr later ↦ inr (has_more path cs later) ]
  | false ↦ λ has. inr (has_more path cs has)
]

-- a slot at which the trees differ is changed
pub slot_changes : (left captured : Entries) (path : List ℕ) → is_slot path ≡ true → map.get left path ≢ map.get captured path → HasPath path (slot_changes_between left captured)
slot_changes left captured path slot differ =
    let cs : List Change = changes_between left captured in
    let way = leads left captured in
    elim (has_or_keeps path cs) [
      | inl kept ↦ absurd (differ (sym (sym (ap (λ u. map.get u path) way.to) ∙ get-after_changes cs left path ∙ after_at-kept cs path (map.get left path) kept)))
      | inr has ↦ has_slot path cs slot has
    ]

-- changes of a path leave something else there
differ_at : (cs : List Change) (t : Entries) (path : List ℕ) → AreFrom t cs → AllByRecursion (λ (c : Change). c.before ≢ c.after) cs → HasPath path cs
    → after_at cs path (map.get t path) ≡ map.get t path → ⊥
differ_at [] t path from real none same = none
differ_at (c ∷ cs) t path from real has same = elim (cases_Bool (bytes_eq path c.path)) [
  | inl here ↦ (
      let at : path ≡ c.path = same_bytes path c.path here in
      let now : after_at (c ∷ cs) path (map.get t path) ≡ c.after =
      ap (λ b. after_at cs path (cond b c.after (map.get t path))) here ∙ after_at-kept cs path c.after (subst (λ p. KeepsPath p cs) (sym at) from.1) in
      real.0 (sym from.0 ∙ sym (ap (map.get t) at) ∙ sym same ∙ now))
  | inr away ↦ (
      let later : HasPath path cs = elim has [ inl here ↦ absurd (false≢true (sym away ∙ (bytes_eq-Decides path c.path).1 (sym here))) | inr later ↦ later ] in
      differ_at cs t path from.2 real.1 later (sym (ap (λ b. after_at cs path (cond b c.after (map.get t path))) away) ∙ same))
]

-- and the trees differ where it is changed
pub changed_slots : (left captured : Entries) (path : List ℕ) → HasPath path (slot_changes_between left captured) → map.get left path ≢ map.get captured path
changed_slots left captured path has same =
    let cs : List Change = changes_between left captured in
    let way = leads left captured in
    differ_at cs left path way.from (recursion_from_All (λ (c : Change). c.before ≢ c.after) cs way.real) (has_more path cs has)
    (sym (get-after_changes cs left path) ∙ ap (λ u. map.get u path) way.to ∙ sym same)
