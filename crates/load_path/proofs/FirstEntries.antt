-- What a name is found to be, by its first entry.
use Rattle.std.proofs.Common.{◌≡◌, ℕ, true, List, [], ◌∷◌, All, Option, Some, None, is_some, refl, sym, ap, subst, ◌∙◌, ◌⊎◌, inl, inr}
use Rattle.std.specs.FinMap as map
use Rattle.std.proofs.lemmas.Bool.{false≢true}
use Rattle.std.proofs.lemmas.List.Elements.{All-nil, All-cons, All-head, All-tail}
use Rattle.unit_paths.specs.Paths.{name_at}
use Rattle.unit_paths.specs.declared.place.Place.{Place}
use Rattle.link_tree.specs.Trees.{Entries}
use Rattle.link_tree.specs.declared.entry.Entry.{Entry}
use Rattle.load_path.specs.declared.finding.Found.{Found}
use Rattle.load_path.specs.declared.finding.Found.TheVariants as founds
use Rattle.load_path.specs.declared.following.ChainEnd.{ChainEnd}
use Rattle.load_path.specs.declared.following.ChainEnd.TheVariants.{Null, File, Dangling}
use Rattle.load_path.specs.declared.following.End.TheVariants as ends
use Rattle.load_path.specs.Follow.{chain_from, end_of, followed, follow}
use Rattle.load_path.specs.Chains.{LeadsTo}
use Rattle.load_path.specs.Find.{Standing, unit_at, found_at, found_from, find}
use Rattle.load_path.specs.RealNames.{real_name}
use Rattle.load_path.specs.Laws.{candidates, IsFirstEntry, IsLastLink, LeadsToForeign, NamesAreFoundByFirstEntry}
use Rattle.load_path.proofs.Chains.{follow_is_chain}
use Rattle.load_path.proofs.LastLinks.{last_to, last_from}
use Rattle.load_path.proofs.Candidates.{Slot, or_later, found, found_to, found_at as found_among, first_entry-is}

module _ (t : Entries) where
  abbrev Empty : List Slot → Type 0
  Empty slots = All (λ slot. map.get t slot.1 ≡ None) slots

  none_by : (slot : Slot) (rest : List Slot) (o : Option Entry) → map.get t slot.1 ≡ o → or_later t slot o (found t rest) ≡ None → (found t rest ≡ None → Empty rest) → Empty (slot ∷ rest)
  none_by slot rest None at h next = All-cons (λ (s : Slot). map.get t s.1 ≡ None) slot rest at (next h)
  none_by slot rest (Some entry) at h next = cc

  none_to : (slots : List Slot) → found t slots ≡ None → Empty slots
  unfolding found
  none_to [] h = All-nil (λ (s : Slot). map.get t s.1 ≡ None)
  none_to (slot ∷ rest) h = none_by slot rest (map.get t slot.1) refl h (λ later. none_to rest later)

  none_from : (slots : List Slot) → Empty slots → found t slots ≡ None
  unfolding found
  none_from [] h = refl
  none_from (slot ∷ rest) h =
      ap (λ o. or_later t slot o (found t rest)) (All-head (λ (s : Slot). map.get t s.1 ≡ None) slot rest h) ∙ none_from rest (All-tail (λ (s : Slot). map.get t s.1 ≡ None) slot rest h)

  module _ (name : List ℕ) where
    abbrev answer : Option Standing → Found
    answer first = (found_from name first).conclusion t

    find-answer : (find name).conclusion t ≡ answer (found t (candidates name))
    unfolding find
    find-answer = ap answer (first_entry-is t name).1

    followed-end : (path : List ℕ) (entry : Entry) → map.get t path ≡ Some entry → (follow path).conclusion t ≡ end_of ((chain_from path entry).conclusion t)
    unfolding follow
    followed-end path entry at = ap (λ o. (followed path o).conclusion t) at

    -- the result for a name whose first entry is at this slot
    abbrev FoundAt : Place → List ℕ → Type 0
    FoundAt place path = (end : ChainEnd) × ((find name).conclusion t ≡ found_at name place end) × ((follow path).conclusion t ≡ end_of end)
        × (entry : Entry) × (map.get t path ≡ Some entry) × ((chain_from path entry).conclusion t ≡ end)

    found_with : (slot : Slot) → (entry : Entry) → found t (candidates name) ≡ Some (slot.0, slot.1, entry) → map.get t slot.1 ≡ Some entry → FoundAt slot.0 slot.1
    found_with slot entry is at = ((chain_from slot.1 entry).conclusion t, find-answer ∙ ap answer is, followed-end slot.1 entry at, entry, at, refl)

    at_entry : (slot : Slot) → IsFirstEntry t name slot → (o : Option Entry) → map.get t slot.1 ≡ o → is_some o ≡ true → FoundAt slot.0 slot.1
    at_entry slot first None at some = absurd (false≢true some)
    at_entry slot first (Some entry) at some =
        let is = first.0 in
        found_with slot entry (ap (found t) is.2 ∙ found_among t is.0 slot is.1 entry is.3 at) at

    at_first : (slot : Slot) → IsFirstEntry t name slot → FoundAt slot.0 slot.1
    at_first slot first = at_entry slot first (map.get t slot.1) refl first.1

    -- either nothing is found, or the result is that of a first entry
    abbrev Cases : Type 0
    Cases = (((find name).conclusion t ≡ founds.Missing) × Empty (candidates name)) ⊎ ((slot : Slot) × IsFirstEntry t name slot × FoundAt slot.0 slot.1)

    by_first : (o : Option Standing) → found t (candidates name) ≡ o → Cases
    by_first None is = inl (find-answer ∙ ap answer is, none_to (candidates name) is)
    by_first (Some first) is =
        let entry = found_to t (candidates name) first is in
        let slot : Slot = (first.0, first.1) in
        inr (slot, (entry.0, ap is_some entry.1), found_with slot first.2 is entry.1)

    cases : Cases
    cases = by_first (found t (candidates name)) refl

    not_missing : (place : Place) (end : ChainEnd) → found_at name place end ≡ founds.Missing → ⊥
    not_missing place Null h = cc
    not_missing place (File file link) h = by_real (real_name name (name_at file)) h
      where
        by_real : (o : Option (List ℕ)) → unit_at file link place o ≡ founds.Missing → ⊥
        by_real None h = cc
        by_real (Some real) h = cc
    not_missing place (Dangling link) h = cc

    masked_end : (own place : Place) (end : ChainEnd) → found_at name own end ≡ founds.Masked place → (own ≡ place) × (end_of end ≡ ends.Null)
    masked_end own place Null h = (cc, refl)
    masked_end own place (File file link) h = by_real (real_name name (name_at file)) h
      where
        by_real : (o : Option (List ℕ)) → unit_at file link own o ≡ founds.Masked place → (own ≡ place) × (ends.File file ≡ ends.Null)
        by_real None h = cc
        by_real (Some real) h = cc
    masked_end own place (Dangling link) h = cc

    null_end : (place : Place) (end : ChainEnd) → end_of end ≡ ends.Null → found_at name place end ≡ founds.Masked place
    null_end place Null h = refl
    null_end place (File file link) h = cc
    null_end place (Dangling link) h = cc

    unit_end : (own place : Place) (real file : List ℕ) (end : ChainEnd) → found_at name own end ≡ founds.Unit real file place
        → (own ≡ place) × (end_of end ≡ ends.File file) × (real_name name (name_at file) ≡ Some real)
    unit_end own place real file Null h = cc
    unit_end own place real file (File at link) h = by_real (real_name name (name_at at)) refl h
      where
        by_real : (o : Option (List ℕ)) → real_name name (name_at at) ≡ o → unit_at at link own o ≡ founds.Unit real file place
            → (own ≡ place) × (ends.File at ≡ ends.File file) × (real_name name (name_at file) ≡ Some real)
        by_real None is h = cc
        by_real (Some found) is h =
            let same_file : at ≡ file = cc in
            let same_real : found ≡ real = cc in
            (cc, ap ends.File same_file, ap (λ f. real_name name (name_at f)) (sym same_file) ∙ is ∙ ap Some same_real)
    unit_end own place real file (Dangling link) h = cc

    file_end : (place : Place) (real file : List ℕ) (end : ChainEnd) → end_of end ≡ ends.File file → real_name name (name_at file) ≡ Some real → found_at name place end ≡ founds.Unit real file place
    file_end place real file Null h is = cc
    file_end place real file (File at link) h is =
        let same : at ≡ file = cc in
        ap (unit_at at link place) (ap (λ f. real_name name (name_at f)) same ∙ is) ∙ ap (λ f. founds.Unit real f place) same
    file_end place real file (Dangling link) h is = cc

    dangling_end : (place : Place) (link : List ℕ) (end : ChainEnd) → end_of end ≡ ends.Dangling link → found_at name place end ≡ founds.Dangling link
    dangling_end place link Null h = cc
    dangling_end place link (File file last) h = cc
    dangling_end place link (Dangling last) h = let same : last ≡ link = cc in ap founds.Dangling same

    leads : (path : List ℕ) (end : ends.the_data) → (follow path).conclusion t ≡ end → LeadsTo t 8 path end
    leads path end h = (follow_is_chain path end t).0 h

    missing_to : (find name).conclusion t ≡ founds.Missing → Empty (candidates name)
    missing_to h = elim cases [
      | inl none ↦ none.1
      | inr (slot, first, (end, is, at, entry, there, chained)) ↦ absurd (not_missing slot.0 end (sym is ∙ h))
    ]

    masked_to : (place : Place) → (find name).conclusion t ≡ founds.Masked place → (path : List ℕ) × IsFirstEntry t name (place, path) × LeadsTo t 8 path ends.Null
    masked_to place h = elim cases [
      | inl none ↦ (let never : founds.Missing ≡ founds.Masked place = sym none.0 ∙ h in cc)
      | inr (slot, first, (end, is, at, entry, there, chained)) ↦ (let found = masked_end slot.0 place end (sym is ∙ h) in
          (slot.1, subst (λ p. IsFirstEntry t name (p, slot.1)) found.0 first, leads slot.1 ends.Null (at ∙ found.1)))
    ]

    masked_from : (place : Place) → (path : List ℕ) × IsFirstEntry t name (place, path) × LeadsTo t 8 path ends.Null → (find name).conclusion t ≡ founds.Masked place
    masked_from place (path, first, led) =
        let here = at_first (place, path) first in
        here.1 ∙ null_end place here.0 (sym here.2 ∙ (follow_is_chain path ends.Null t).1 led)

    unit_to : (real file : List ℕ) (place : Place) → (find name).conclusion t ≡ founds.Unit real file place
        → (path : List ℕ) × IsFirstEntry t name (place, path) × LeadsTo t 8 path (ends.File file) × (real_name name (name_at file) ≡ Some real)
    unit_to real file place h = elim cases [
      | inl none ↦ (let never : founds.Missing ≡ founds.Unit real file place = sym none.0 ∙ h in cc)
      | inr (slot, first, (end, is, at, entry, there, chained)) ↦ (let found = unit_end slot.0 place real file end (sym is ∙ h) in
          (slot.1, subst (λ p. IsFirstEntry t name (p, slot.1)) found.0 first, leads slot.1 (ends.File file) (at ∙ found.1), found.2))
    ]

    unit_from : (real file : List ℕ) (place : Place) → (path : List ℕ) × IsFirstEntry t name (place, path) × LeadsTo t 8 path (ends.File file) × (real_name name (name_at file) ≡ Some real)
        → (find name).conclusion t ≡ founds.Unit real file place
    unit_from real file place (path, first, led, is) =
        let here = at_first (place, path) first in
        here.1 ∙ file_end place real file here.0 (sym here.2 ∙ (follow_is_chain path (ends.File file) t).1 led) is

    -- a link dangles, or a file isn't right for this name
    abbrev Nowhere : List ℕ → List ℕ → Type 0
    Nowhere path link = LeadsTo t 8 path (ends.Dangling link) ⊎ LeadsToForeign t name path link

    nowhere_to : (own : Place) (path link : List ℕ) (entry : Entry) (end : ChainEnd) → map.get t path ≡ Some entry → (chain_from path entry).conclusion t ≡ end → (follow path).conclusion t ≡ end_of end
        → found_at name own end ≡ founds.Dangling link → Nowhere path link
    nowhere_to own path link entry Null there chained at h = cc
    nowhere_to own path link entry (Dangling last) there chained at h = let same : last ≡ link = cc in inl (leads path (ends.Dangling link) (at ∙ ap ends.Dangling same))
    nowhere_to own path link entry (File file last) there chained at h = by_real (real_name name (name_at file)) refl h
      where
        by_real : (o : Option (List ℕ)) → real_name name (name_at file) ≡ o → unit_at file last own o ≡ founds.Dangling link → Nowhere path link
        by_real None none h =
            let same : last ≡ link = cc in
            let foreign = last_to t last file path entry there chained in
            inr (file, foreign.0, subst (λ l. IsLastLink t path l file) same foreign.1, none)
        by_real (Some real) is h = cc

    dangling_to : (link : List ℕ) → (find name).conclusion t ≡ founds.Dangling link → (place : Place) × (path : List ℕ) × IsFirstEntry t name (place, path) × Nowhere path link
    dangling_to link h = elim cases [
      | inl none ↦ (let never : founds.Missing ≡ founds.Dangling link = sym none.0 ∙ h in cc)
      | inr (slot, first, (end, is, at, entry, there, chained)) ↦ (slot.0, slot.1, first, nowhere_to slot.0 slot.1 link entry end there chained at (sym is ∙ h))
    ]

    dangling_from : (link : List ℕ) → (place : Place) × (path : List ℕ) × IsFirstEntry t name (place, path) × Nowhere path link → (find name).conclusion t ≡ founds.Dangling link
    dangling_from link (place, path, first, inl led) =
        let here = at_first (place, path) first in
        here.1 ∙ dangling_end place link here.0 (sym here.2 ∙ (follow_is_chain path (ends.Dangling link) t).1 led)
    dangling_from link (place, path, first, inr (file, stands, last, none)) =
        let here = at_first (place, path) first in
        here.1 ∙ ap (found_at name place) (sym here.5 ∙ last_from t link file path here.3 here.4 stands last) ∙ ap (unit_at file link place) none

pub names_are_found_by_first_entry : NamesAreFoundByFirstEntry
names_are_found_by_first_entry name t = record {
  missing = (missing_to t name, λ none. find-answer t name ∙ ap (answer t name) (none_from t (candidates name) none));
  masked = λ place. (masked_to t name place, masked_from t name place);
  dangling = λ link. (dangling_to t name link, dangling_from t name link);
  unit = λ real file place. (unit_to t name real file place, unit_from t name real file place);
}
