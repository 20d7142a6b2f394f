-- The ends of steps, by the names from which they lead.
use Rattle.std.proofs.Common.{◌≡◌, ℕ, Bool, true, false, cond, List, [], ◌∷◌, ◌++◌, Option, Some, None, Contains, filter_map, refl, sym, ap, subst, ◌∙◌, if◌then◌else◌}
use Rattle.std.specs.Prelude.{IsPermutation}
use Rattle.std.specs.Cmp.Lexicographic.{nat_list_cmp_total, nat_list_eq_equiv}
use Rattle.std.specs.FinMap as map
use Rattle.std.specs.BTreeMap.{is_at}
use Rattle.std.specs.Map.{lookup}
use Rattle.std.specs.Option.{option_map}
use Rattle.std.specs.Str.{bytes_eq}
use Rattle.std.proofs.lemmas.List.{append-nil, append_assoc}
use Rattle.std.proofs.lemmas.List.Elements.{filter_map-append}
use Rattle.std.proofs.lemmas.List.Sorted.{IsPermutation-sym, Contains-permutation}
use Rattle.link_tree.specs.declared.entry.Entry.{Entry}
use Rattle.link_tree.specs.Trees.{Entries, path_cmp}
use Rattle.link_tree.proofs.Changed.{same_bytes, at_bytes}
use Rattle.link_tree.proofs.Maps.{get_entry, one_set}
use Rattle.states.specs.declared.step.Step.{Step}
use Rattle.states.specs.Dependencies.{step_at, turned, steps_of, ends_of}
use Rattle.states.specs.Reaching.{EndMap, or_none, ends_at, with_step, AreEnds}
use Rattle.states.proofs.Members.{in_filter_map, of_filter_map}

abbrev pub Links : Type 0
Links = List (List ℕ × Entry)

-- looking a name up by byte order finds the same as by equality of bytes
lookup_same : {X : Type 0} (name : List ℕ) (es : List (List ℕ × X)) → lookup (is_at (path_cmp name)) es ≡ lookup (bytes_eq name) es
lookup_same name [] = refl
lookup_same name (e ∷ es) = (λ i. cond (at_bytes name e.0 i) (Some e.1) (lookup_same name es i))

-- what the map that the entries make has at a name
pub found_at : {X : Type 0} (es : List (List ℕ × X)) (name : List ℕ) → map.get (map.from_entries {R = path_cmp} es) name ≡ lookup (bytes_eq name) es
found_at es name = get_entry es name ∙ lookup_same name es

-- entries that differ at one name make maps that differ there
pub one_name_set : {X : Type 0} (es fs : List (List ℕ × X)) (name : List ℕ) (new : X)
    → ((q : List ℕ) → lookup (bytes_eq q) fs ≡ cond (bytes_eq name q) (Some new) (lookup (bytes_eq q) es)) → map.from_entries {R = path_cmp} fs ≡ map.insert (map.from_entries es) name new
one_name_set es fs name new h = one_set es fs name new (λ q.
    lookup_same q fs ∙ h q ∙ (λ i. cond (sym (at_bytes name q) i) (Some new) (sym (lookup_same q es) i)))

-- one more step is one more end
with_step-ends : (ends : EndMap) (step : Step) (name : List ℕ) → ends_at (with_step ends step) name ≡ ends_at ends name ++ ends_of (step ∷ []) name
unfolding ends_at with_step
with_step-ends ends step name =
    let all = or_none (map.get ends step.from) ++ step.to ∷ [] in
    ap or_none (map.get-insert nat_list_cmp_total ends step.from all name ∙ ap (λ b. cond b (Some all) (map.get ends name)) (at_bytes name step.from)) ∙ by_test (bytes_eq name step.from) refl
  where
    by_test : (b : Bool) → bytes_eq name step.from ≡ b
        → or_none (cond b (Some (or_none (map.get ends step.from) ++ step.to ∷ [])) (map.get ends name)) ≡ or_none (map.get ends name) ++ ends_of (step ∷ []) name
    by_test true at =
        let same : name ≡ step.from = same_bytes name step.from at in
        let found : bytes_eq step.from name ≡ true = nat_list_eq_equiv.symm step.from name ∙ at in
        ap (λ name. or_none (map.get ends name) ++ step.to ∷ []) (sym same) ∙ ap (λ b. or_none (map.get ends name) ++ filter_map (λ (step : Step). if b then Some step.to else None) (step ∷ [])) (sym found)
    by_test false away =
        let none : bytes_eq step.from name ≡ false = nat_list_eq_equiv.symm step.from name ∙ away in
        sym (append-nil (or_none (map.get ends name))) ∙ ap (λ b. or_none (map.get ends name) ++ filter_map (λ (step : Step). if b then Some step.to else None) (step ∷ [])) (sym none)

-- Each end is in the map, or a remaining link leads to it.
abbrev pub AreEndsOf : (reverse : Bool) → EndMap → (left all : Links) → Type 0
AreEndsOf reverse ends left all = (name : List ℕ) → ends_at ends name ++ ends_of (steps_of reverse left) name ≡ ends_of (steps_of reverse all) name

pub none_ended : (reverse : Bool) (ends : EndMap) (all : Links) → ends ≡ map.empty → AreEndsOf reverse ends all all
unfolding ends_at
none_ended reverse ends all is name = ap (λ o. or_none o ++ ends_of (steps_of reverse all) name) (ap (λ m. map.get m name) is ∙ map.get-empty path_cmp name)

first_steps : (reverse : Bool) (path : List ℕ) (entry : Entry) (rest : Links) → steps_of reverse ((path, entry) ∷ rest) ≡ steps_of reverse ((path, entry) ∷ []) ++ steps_of reverse rest
unfolding steps_of
first_steps reverse path entry rest = filter_map-append (λ link. option_map (turned reverse) (step_at link.0 link.1)) ((path, entry) ∷ []) rest

one_step : (reverse : Bool) (path : List ℕ) (entry : Entry) (step : Step) → step_at path entry ≡ Some step → steps_of reverse ((path, entry) ∷ []) ≡ turned reverse step ∷ []
unfolding steps_of
one_step reverse path entry step is = rw is refl

no_step : (reverse : Bool) (path : List ℕ) (entry : Entry) → step_at path entry ≡ None → steps_of reverse ((path, entry) ∷ []) ≡ []
unfolding steps_of
no_step reverse path entry is = rw is refl

-- a link leads to an end
pub one_ended : (reverse : Bool) (ends grown : EndMap) (left rest all : Links) (path : List ℕ) (entry : Entry) (step : Step)
    → left ≡ (path, entry) ∷ rest → step_at path entry ≡ Some step → grown ≡ with_step ends (turned reverse step) → AreEndsOf reverse ends left all → AreEndsOf reverse grown rest all
one_ended reverse ends grown left rest all path entry step first is add before name =
    let new = turned reverse step in
    ap (λ m. ends_at m name ++ ends_of (steps_of reverse rest) name) add
    ∙ ap (λ xs. xs ++ ends_of (steps_of reverse rest) name) (with_step-ends ends new name)
    ∙ append_assoc (ends_at ends name) (ends_of (new ∷ []) name) (ends_of (steps_of reverse rest) name)
    ∙ ap (λ xs. ends_at ends name ++ xs) (sym (filter_map-append (λ (step : Step). if bytes_eq step.from name then Some step.to else None) (new ∷ []) (steps_of reverse rest)))
    ∙ ap (λ steps. ends_at ends name ++ ends_of (steps ++ steps_of reverse rest) name) (sym (one_step reverse path entry step is))
    ∙ ap (λ steps. ends_at ends name ++ ends_of steps name) (sym (first_steps reverse path entry rest))
    ∙ ap (λ links. ends_at ends name ++ ends_of (steps_of reverse links) name) (sym first)
    ∙ before name

-- an entry is no such link
pub other_ended : (reverse : Bool) (ends : EndMap) (left rest all : Links) (path : List ℕ) (entry : Entry)
    → left ≡ (path, entry) ∷ rest → step_at path entry ≡ None → AreEndsOf reverse ends left all → AreEndsOf reverse ends rest all
other_ended reverse ends left rest all path entry first is before name =
    ap (λ steps. ends_at ends name ++ ends_of (steps ++ steps_of reverse rest) name) (sym (no_step reverse path entry is))
    ∙ ap (λ steps. ends_at ends name ++ ends_of steps name) (sym (first_steps reverse path entry rest))
    ∙ ap (λ links. ends_at ends name ++ ends_of (steps_of reverse links) name) (sym first)
    ∙ before name

kept_by : {X Y : Type 0} (h : X → Option Y) (xs ys : List X) → ((x : X) → Contains xs x → Contains ys x) → (y : Y) → Contains (filter_map h xs) y → Contains (filter_map h ys) y
kept_by h xs ys all y here = let found = of_filter_map h xs y here in in_filter_map h ys found.0 y (all found.0 found.1) found.2

-- the same links in any order lead to the same ends
ends_kept : (reverse : Bool) (links others : Links) → ((link : List ℕ × Entry) → Contains links link → Contains others link) → (name end : List ℕ)
    → Contains (ends_of (steps_of reverse links) name) end → Contains (ends_of (steps_of reverse others) name) end
unfolding steps_of
ends_kept reverse links others all name end here =
    kept_by (λ (step : Step). if bytes_eq step.from name then Some step.to else None) (steps_of reverse links) (steps_of reverse others)
    (kept_by (λ link. option_map (turned reverse) (step_at link.0 link.1)) links others all) end here

-- all links of a tree have been processed
pub all_ended : (reverse : Bool) (ends : EndMap) (left all : Links) (links : Entries) → left ≡ [] → IsPermutation all (map.entries links) → AreEndsOf reverse ends left all → AreEnds ends (steps_of reverse (map.entries links))
unfolding steps_of
all_ended reverse ends left all links none same past name end =
    let whole : ends_at ends name ≡ ends_of (steps_of reverse all) name = sym (append-nil (ends_at ends name)) ∙ ap (λ links. ends_at ends name ++ ends_of (steps_of reverse links) name) (sym none) ∙ past name in (
      λ here. ends_kept reverse all (map.entries links) (λ link there. Contains-permutation all (map.entries links) link same there) name end (subst (λ xs. Contains xs end) whole here),
      λ here. subst (λ xs. Contains xs end) (sym whole) (ends_kept reverse (map.entries links) all (λ link there. Contains-permutation (map.entries links) all link (IsPermutation-sym all (map.entries links) same) there) name end here),
    )
