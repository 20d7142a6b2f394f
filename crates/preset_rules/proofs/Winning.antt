-- Which slot wins a file name.
use Rattle.std.proofs.Common.{◌≡◌, ℕ, Bool, true, cond, List, Contains, Option, Some, None, refl, sym, ap, ◌∙◌, inl, inr}
use Rattle.std.specs.Prelude.{is_some}
use Rattle.std.specs.Option.{option_or}
use Rattle.std.specs.Str.{bytes_eq}
use Rattle.std.specs.FinMap as map
use Rattle.std.proofs.lemmas.Bool.{and_parts}
use Rattle.std.proofs.lemmas.List.Elements.{All-contains, All-weaker, All-map}
use Rattle.link_tree.specs.declared.entry.Entry.{Entry}
use Rattle.link_tree.specs.Trees.{path_cmp, Entries}
use Rattle.link_tree.proofs.Maps.{all_standing, all_listed}
use Rattle.unit_paths.specs.declared.place.Place.{Place}
use Rattle.unit_paths.specs.declared.place.Place.TheVariants.{Etc, Run, Vendor}
use Rattle.unit_paths.specs.Places.{preset_directory}
use Rattle.unit_paths.specs.Paths.{parent}
use Rattle.unit_paths.specs.Slots.{slot_of}
use Rattle.preset_rules.specs.Files.{presets_of, named_in, winners}
use Rattle.unit_paths.specs.Kinds.{is_preset}
use Rattle.preset_rules.specs.FileLaws.{Stands, NoneStands, IsWinner, FirstDirectoryWins}
use Rattle.preset_rules.proofs.WinnersFound.{Standing, found_is, found_if, get-presets, get-winners, has_path, only_some}

some_at : (o : Option Entry) → is_some o ≡ true → (e : Entry) × (o ≡ Some e)
some_at None none = absurd (cc)
some_at (Some e) some = (e, refl)

module _ (t : Entries) (name : List ℕ) where
  abbrev at : Place → Option (List ℕ)
  at place = map.find path_cmp name (named_in place (map.keys (presets_of t)))

  listed_stands : (x : Standing) → map.get (presets_of t) x.0 ≡ Some x.1 → is_some (map.get t x.0) ≡ true
  listed_stands x stands = ap (λ (o : Option Entry). is_some o) (only_some (is_preset (slot_of x.0)) (map.get t x.0) x.1 (sym (get-presets t x.0) ∙ stands))

  key_stands : (path : List ℕ) → Contains (map.keys (presets_of t)) path → is_some (map.get t path) ≡ true
  key_stands path here =
      All-contains (λ (p : List ℕ). is_some (map.get t p) ≡ true) (map.keys (presets_of t)) path
      (All-map (λ (p : List ℕ). is_some (map.get t p) ≡ true) (λ (x : Standing). x.0) (map.entries (presets_of t))
      (All-weaker (λ x. map.get (presets_of t) x.0 ≡ Some x.1) (λ (x : Standing). is_some (map.get t x.0) ≡ true) listed_stands (map.entries (presets_of t)) (all_standing (presets_of t)))) here

  found_stands : (place : Place) (path : List ℕ) → at place ≡ Some path → Stands place t name path
  found_stands place path is = let facts = found_is place name (map.keys (presets_of t)) path is in (facts.1, facts.2, key_stands path facts.0)

  stands_found : (place : Place) (path : List ℕ) → Stands place t name path → at place ≡ Some path
  stands_found place path stands =
      let slot = (and_parts (bytes_eq (parent path) (preset_directory place)) (is_preset (slot_of path)) stands.0).1 in
      let entry = some_at (map.get t path) stands.2 in
      let there : map.get (presets_of t) path ≡ Some entry.0 = get-presets t path ∙ ap (λ (b : Bool). cond b (map.get t path) None) slot ∙ entry.1 in
      found_if place name (map.keys (presets_of t)) path (has_path (map.entries (presets_of t)) path entry.0 (all_listed (presets_of t) path entry.0 there)) stands.0 stands.1

  none_found : (place : Place) → at place ≡ None → NoneStands place t name
  none_found place none path stands = let some = stands_found place path stands in cc

  none_is : (place : Place) → NoneStands place t name → (o : Option (List ℕ)) → at place ≡ o → at place ≡ None
  none_is place none None is = is
  none_is place none (Some path) is = absurd (none path (found_stands place path is))

  forward : (path : List ℕ) (e r v : Option (List ℕ)) → at Etc ≡ e → at Run ≡ r → at Vendor ≡ v → option_or (option_or e r) v ≡ Some path → IsWinner t name path
  forward path (Some p) r v etc run vendor is = inl (found_stands Etc path (etc ∙ is))
  forward path None (Some p) v etc run vendor is = inr (inl (none_found Etc etc, found_stands Run path (run ∙ is)))
  forward path None None v etc run vendor is = inr (inr (none_found Etc etc, none_found Run run, found_stands Vendor path (vendor ∙ is)))

  all_at : (e r v : Option (List ℕ)) → at Etc ≡ e → at Run ≡ r → at Vendor ≡ v → map.get (winners (presets_of t)) name ≡ option_or (option_or e r) v
  all_at e r v etc run vendor =
      get-winners (presets_of t) name
      ∙ ap (λ (o : Option (List ℕ)). option_or (option_or o (at Run)) (at Vendor)) etc
      ∙ ap (λ (o : Option (List ℕ)). option_or (option_or e o) (at Vendor)) run
      ∙ ap (λ (o : Option (List ℕ)). option_or (option_or e r) o) vendor

  backward : (path : List ℕ) → IsWinner t name path → map.get (winners (presets_of t)) name ≡ Some path
  backward path (inl stands) = all_at (Some path) (at Run) (at Vendor) (stands_found Etc path stands) refl refl
  backward path (inr (inl (none, stands))) = all_at None (Some path) (at Vendor) (none_is Etc none (at Etc) refl) (stands_found Run path stands) refl
  backward path (inr (inr (none, more, stands))) = all_at None None (Some path) (none_is Etc none (at Etc) refl) (none_is Run more (at Run) refl) (stands_found Vendor path stands)

pub first_directory_wins : FirstDirectoryWins
first_directory_wins t name path = (
  λ is. forward t name path (at t name Etc) (at t name Run) (at t name Vendor) refl refl refl (sym (all_at t name (at t name Etc) (at t name Run) (at t name Vendor) refl refl refl) ∙ is),
  λ wins. backward t name path wins,
)
