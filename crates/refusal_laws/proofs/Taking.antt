-- A link is refused exactly if something other than such a link is at its path.
use Rattle.std.proofs.Common.{◌≡◌, ℕ, true, List, Option, Some, None, Result, Ok, Err, refl, sym, ap, ◌∙◌, inl, inr}
use Rattle.std.specs.FinMap as map
use Rattle.std.specs.Cmp.Lexicographic.{nat_list_eq_equiv}
use Rattle.std.proofs.lemmas.Bool.{cases_Bool, false≢true}
use Rattle.unit_paths.specs.Canonical.{canonical}
use Rattle.link_tree.specs.declared.entry.Entry.{Entry}
use Rattle.link_tree.specs.declared.entry.Entry.TheVariants.{File, Link}
use Rattle.link_tree.specs.Trees.{Entries}
use Rattle.link_tree.proofs.Changed.{same_bytes}
use Rattle.tree_access.specs.declared.refusal.Refusal.{Refusal}
use Rattle.tree_access.specs.declared.refusal.Refusal.TheVariants.{Exists}
use Rattle.tree_access.specs.Rules.{is_same_path, leads_alike, link_at}
use Rattle.footprint.specs.Steps.{ruled}
use Rattle.refusal_laws.specs.Reasons.{LeadsThere, IsTaken}
use Rattle.refusal_laws.proofs.Rulings.{rule_refused, refused_rule}

same_end : (one other : Option (List ℕ)) → is_same_path one other ≡ true → (end : List ℕ) × (one ≡ Some end) × (other ≡ Some end)
same_end (Some one) (Some other) h = (one, refl, ap (λ path. Some path) (sym (same_bytes one other h)))
same_end (Some one) None h = absurd (false≢true h)
same_end None (Some other) h = absurd (false≢true h)
same_end None None h = absurd (false≢true h)

is_file : {P : Type 0} (contents text : List ℕ) → File contents ≡ Link text → P
is_file contents text is = cc

text_is : (one other : List ℕ) → Link one ≡ Link other → one ≡ other
text_is one other is = cc

module _ (target path : List ℕ) where
  alike_there : (text : List ℕ) → leads_alike path text target ≡ true → LeadsThere path target (Link text)
  alike_there text alike = let same = same_end (canonical path text) (canonical path target) alike in (text, same.0, refl, same.1, same.2)

  there_alike : (text : List ℕ) → LeadsThere path target (Link text) → leads_alike path text target ≡ true
  there_alike text there =
      ap (λ one. is_same_path one (canonical path target)) (ap (canonical path) (text_is text there.0 there.2) ∙ there.3)
      ∙ ap (is_same_path (Some there.1)) there.4 ∙ nat_list_eq_equiv.refl there.1

  -- what is there isn't such a link
  abbrev IsOther : Option Entry → Type 0
  IsOther there = (entry : Entry) × (there ≡ Some entry) × ¬ LeadsThere path target entry

  abbrev left : Refusal → Result (Option Entry) Refusal
  left refusal = Err refusal

  why_left : (one other : Refusal) → left one ≡ left other → one ≡ other
  why_left one other is = cc

  other_there : (there : Option Entry) (refusal : Refusal) → link_at target path there ≡ Err refusal → (refusal ≡ Exists path) × IsOther there
  other_there None refusal is = cc
  other_there (Some (File contents)) refusal is = (sym (why_left (Exists path) refusal is), (File contents, refl, λ leads. is_file contents leads.0 leads.2))
  other_there (Some (Link text)) refusal is = elim (cases_Bool (leads_alike path text target)) [
    | inl alike ↦ (let stays : Ok (Some (Link text)) ≡ left refusal = rw alike at is in cc)
    | inr apart ↦ (sym (why_left (Exists path) refusal (rw apart at is)), (Link text, refl, λ leads. false≢true (sym apart ∙ there_alike text leads)))
  ]

  entry_refused : (entry : Entry) → ¬ LeadsThere path target entry → link_at target path (Some entry) ≡ Err (Exists path)
  entry_refused (File contents) other = refl
  entry_refused (Link text) other = elim (cases_Bool (leads_alike path text target)) [
    | inl alike ↦ absurd (other (alike_there text alike))
    | inr apart ↦ rw apart refl
  ]

  module _ (t : Entries) where
    pub taken_only : (refusal : Refusal) → link_at target path (map.get t path) ≡ Err refusal → (refusal ≡ Exists path) × IsTaken t path target
    taken_only refusal is = other_there (map.get t path) refusal is

    pub taken_refused : IsTaken t path target → link_at target path (map.get t path) ≡ Err (Exists path)
    taken_refused taken = ap (link_at target path) taken.1 ∙ entry_refused taken.0 taken.2

    -- the same for the step that makes the link
    pub link_taken : (refusal : Refusal) → (ruled (link_at target) path).conclusion t ≡ Err refusal → (refusal ≡ Exists path) × IsTaken t path target
    link_taken refusal is = taken_only refusal (rule_refused path refusal (link_at target path (map.get t path)) is)

    pub taken_link : IsTaken t path target → (ruled (link_at target) path).conclusion t ≡ Err (Exists path)
    taken_link taken = refused_rule path (Exists path) (link_at target path (map.get t path)) (taken_refused taken)
