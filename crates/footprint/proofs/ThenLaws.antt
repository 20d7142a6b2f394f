-- Two operations, one after the other, obey the laws that each obeys.
use Rattle.std.proofs.Common.{◌≡◌, ◌≢◌, ℕ, Bool, true, false, ◌&&◌, cond, List, [], ◌++◌, map as list_map, All, Contains, refl, sym, ◌∙◌, ap, subst, inl, inr}
use Rattle.std.specs.List.Sorted.{IsStrictlySortedBy}
use Rattle.std.specs.FinMap as map
use Rattle.std.specs.FinMap.Entries.{same_entries}
use Rattle.std.proofs.lemmas.Bool.{cases_Bool, and_parts, false≢true}
use Rattle.std.specs.Cmp.Lexicographic.{nat_list_cmp_total}
use Rattle.std.proofs.lemmas.Map.Lookups.{exact_bytes}
use Rattle.std.proofs.lemmas.List.{append-nil}
use Rattle.std.proofs.lemmas.List.Elements.{All-nil, All-weaker, Contains-append_left, Contains-append_right}
use Rattle.link_tree.specs.declared.change.Change.{Change}
use Rattle.link_tree.specs.Trees.{path_cmp, Entries, after_changes}
use Rattle.link_tree.specs.Differences.{same, changes_between}
use Rattle.link_tree.proofs.Changed.{get-after_changes}
use Rattle.link_tree.proofs.Differences.{differences-same, same-itself, same_is}
use Rattle.link_tree.proofs.Leads.{leads, changes_at}
use Rattle.footprint.specs.declared.answer.Answer.{Answer}
use Rattle.footprint.specs.declared.answer.Answer.TheVariants.{Done, State, Name, Names, Refused}
use Rattle.tree_access.specs.declared.key.Key.{Key}
use Rattle.tree_access.specs.declared.key.Key.TheVariants.{Cell}
use Rattle.footprint.specs.Inquiry.{Inquiry, over, giving, after}
use Rattle.tree_access.proofs.KeyLaws.{is_changed, unchanged, at_changed}
use Rattle.footprint.specs.Net.{net}
use Rattle.footprint.specs.Operations.{Effect, AreChanges, OperationLaws, is_refused}
use Rattle.footprint.specs.Then.{answer_of_both, effect_of_both, followed_by}
use Rattle.footprint.proofs.NetLaws.{net_between}

-- both are refused if the second is
pub refused_of_both : (first second : Answer) → is_refused (answer_of_both first second) ≡ is_refused second
refused_of_both (Done notices) (Done more) = refl
refused_of_both (Done notices) (State word) = refl
refused_of_both (Done notices) (Name name) = refl
refused_of_both (Done notices) (Names names) = refl
refused_of_both (Done notices) (Refused refusal) = refl
refused_of_both (State word) second = refl
refused_of_both (Name name) second = refl
refused_of_both (Names names) second = refl
refused_of_both (Refused refusal) second = refl

none_in_order : IsStrictlySortedBy path_cmp []
unfolding IsStrictlySortedBy
none_in_order = tt

-- an empty list of changes is valid for every tree
pub no_changes : (t : Entries) → AreChanges t []
no_changes t = record { from = tt; real = All-nil (λ change. change.before ≢ change.after); in_order = none_in_order }

pub changes_between_are : (t u : Entries) → AreChanges t (changes_between t u)
changes_between_are t u = let these = leads t u in record { from = these.from; real = these.real; in_order = these.in_order }

-- if trees differ at a path after changes, something was changed there
changed_where : (t : Entries) (cs : List Change) (path : List ℕ) → same (map.get t path) (map.get (after_changes cs t) path) ≡ false → is_changed cs path ≡ true
changed_where t cs path differs = elim (cases_Bool (is_changed cs path)) [
  | inl here ↦ here
  | inr away ↦ absurd (false≢true (sym differs ∙ ap (same (map.get t path)) (get-after_changes cs t path ∙ unchanged cs path (map.get t path) away) ∙ same-itself (map.get t path)))
]

-- what holds for the effect of an operation, given its keys
pub record Sound (t : Entries) (keys : List Key) (e : Effect) : Type 0 where
  pub confined : All (λ change. Contains keys (Cell change.path)) e.changes
  pub changes : AreChanges t e.changes
  pub refusal : is_refused e.answer ≡ true → e.changes ≡ []

module _ (t : Entries) (first second : Effect) (before after : List Key) (one : Sound t before first) (two : Sound (after_changes first.changes t) after second) where
  abbrev u : Entries
  u = after_changes first.changes t

  abbrev v : Entries
  v = after_changes second.changes u

  net_is : net first.changes second.changes ≡ changes_between t v
  net_is = net_between t first.changes second.changes one.changes two.changes

  -- if the first tree and the last differ at a path, so do two consecutive ones, so something was
  -- changed there
  net_at : (P : List ℕ → Type 0) → All (λ change. P change.path) first.changes → All (λ change. P change.path) second.changes → All (λ change. P change.path) (changes_between t v)
  net_at P at_first at_second = changes_at t v P (λ path differs. elim (cases_Bool (same (map.get t path) (map.get u path))) [
    | inl alike ↦ at_changed P second.changes path at_second (changed_where u second.changes path (ap (λ o. same o (map.get v path)) (sym (same_is _ _ alike)) ∙ differs))
    | inr other ↦ at_changed P first.changes path at_first (changed_where t first.changes path other)
  ])

  net_confined : All (λ change. Contains (before ++ after) (Cell change.path)) (changes_between t v)
  net_confined = net_at (λ path. Contains (before ++ after) (Cell path))
      (All-weaker (λ change. Contains before (Cell change.path)) (λ change. Contains (before ++ after) (Cell change.path)) (λ change. Contains-append_left before after (Cell change.path)) first.changes one.confined)
      (All-weaker (λ change. Contains after (Cell change.path)) (λ change. Contains (before ++ after) (Cell change.path)) (λ change. Contains-append_right before after (Cell change.path)) second.changes two.confined)

  -- what holds for each path that one of them changes holds for each path of the net changes
  pub both_at : (P : List ℕ → Type 0) → All (λ change. P change.path) first.changes → All (λ change. P change.path) second.changes → All (λ change. P change.path) (effect_of_both first second).changes
  both_at P at_first at_second = by_refused (is_refused second.answer)
    where
      by_refused : (refused : Bool) → All (λ change. P change.path) (cond refused [] (net first.changes second.changes))
      by_refused true = All-nil (λ change. P change.path)
      by_refused false = subst (All (λ change. P change.path)) (sym net_is) (net_at P at_first at_second)

  by_second : (refused : Bool) → (is_refused second.answer ≡ true → refused ≡ true) → Sound t (before ++ after) (record { answer = answer_of_both first.answer second.answer; changes = cond refused [] (net first.changes second.changes) })
  by_second true h = record {
    confined = All-nil (λ change. Contains (before ++ after) (Cell change.path));
    changes = no_changes t;
    refusal = λ r. refl;
  }
  by_second false h = record {
    confined = subst (All (λ change. Contains (before ++ after) (Cell change.path))) (sym net_is) net_confined;
    changes = subst (AreChanges t) (sym net_is) (changes_between_are t v);
    refusal = λ r. absurd (false≢true (h (sym (refused_of_both first.answer second.answer) ∙ r)));
  }

  pub both_sound : Sound t (before ++ after) (effect_of_both first second)
  both_sound = by_second (is_refused second.answer) (λ h. h)

-- an empty map has no values
none_there : map.entries (map.empty {K = List ℕ} {X = Change} {R = path_cmp}) ≡ []
none_there = same_entries path_cmp nat_list_cmp_total exact_bytes (map.entries map.empty) [] (map.entries_sorted map.empty) tt (λ q. sym (map.get-entries map.empty q) ∙ map.get-empty path_cmp q)

-- the net changes are empty if both lists are
net_none : (t : Entries) → net [] [] ≡ []
unfolding changes_between
net_none t = net_between t [] [] (no_changes t) (no_changes t) ∙ ap (λ m. map.values m) (differences-same t) ∙ ap (list_map (λ e. e.1)) none_there

pub sound_of : {O : Type 0} {asks : O → Bool} {meaning : O → Inquiry Effect} → OperationLaws asks meaning → (c : O) (t : Entries) → Sound t ((meaning c).keys t) ((meaning c).conclusion t)
sound_of laws c t = record { confined = laws.confinement c t; changes = laws.changes c t; refusal = laws.refusal c t }

-- What is made of two operations, one after the other.
module _ {C A B : Type 0} {asks_first : A → Bool} {asks_second : B → Bool} {first : A → Inquiry Effect} {second : B → Inquiry Effect} (first_of : C → A) (second_of : C → B) where
  module _ (one : OperationLaws asks_first first) (two : OperationLaws asks_second second) where
    abbrev done : C → Entries → Effect
    done c t = (first (first_of c)).conclusion t

    continued_sound : (c : C) (t : Entries) (refused : Bool)
        → let next = cond refused (over (done c t)) (giving (after (done c t).changes (second (second_of c))) (effect_of_both (done c t))) in
        Sound t ((first (first_of c)).keys t ++ next.keys t) (next.conclusion t)
    continued_sound c t true = subst (λ keys. Sound t keys (done c t)) (sym (append-nil ((first (first_of c)).keys t))) (sound_of one (first_of c) t)
    continued_sound c t false =
        let u : Entries = after_changes (done c t).changes t in
        both_sound t (done c t) ((second (second_of c)).conclusion u) ((first (first_of c)).keys t) ((second (second_of c)).keys u) (sound_of one (first_of c) t) (sound_of two (second_of c) u)

    abbrev both : C → Inquiry Effect
    both c = followed_by (first (first_of c)) (second (second_of c))

    sound : (c : C) (t : Entries) → Sound t ((both c).keys t) ((both c).conclusion t)
    sound c t = continued_sound c t (is_refused (done c t).answer)

    -- a question changes nothing, nor do two of them
    none_of_both : (a b : Effect) (t : Entries) (refused : Bool) → a.changes ≡ [] → b.changes ≡ [] → cond refused [] (net a.changes b.changes) ≡ []
    none_of_both a b t true none later = refl
    none_of_both a b t false none later = (λ i. net (none i) (later i)) ∙ net_none t

    asked : (c : C) (t : Entries) (refused : Bool) → (done c t).changes ≡ [] → ((second (second_of c)).conclusion (after_changes (done c t).changes t)).changes ≡ []
        → ((cond refused (over (done c t)) (giving (after (done c t).changes (second (second_of c))) (effect_of_both (done c t)))).conclusion t).changes ≡ []
    asked c t true none later = none
    asked c t false none later =
        let b : Effect = (second (second_of c)).conclusion (after_changes (done c t).changes t) in
        none_of_both (done c t) b t (is_refused b.answer) none later

    pub laws_in_turn : OperationLaws (λ c. asks_first (first_of c) && asks_second (second_of c)) both
    laws_in_turn = record {
      confinement = λ c t. (sound c t).confined;
      changes = λ c t. (sound c t).changes;
      refusal = λ c t. (sound c t).refusal;
      question = λ c t asks.
          let each = and_parts (asks_first (first_of c)) (asks_second (second_of c)) asks in
          asked c t (is_refused (done c t).answer)
          (one.question (first_of c) t each.0) (two.question (second_of c) (after_changes (done c t).changes t) each.1);
    }
