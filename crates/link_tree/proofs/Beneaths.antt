-- The entries beneath a path: in byte order, from the first path that can be beneath it.
use Rattle.std.proofs.Common.{◌≡◌, refl, ℕ, Bool, true, false, T, ◌||◌, List, [], ◌∷◌, ◌++◌, Option, Some, None, sym, ◌∙◌, ap, inl, inr, codes, append_assoc}
use Rattle.std.specs.List.{list_any, filter}
use Rattle.std.specs.Option.{option_map_or}
use Rattle.std.specs.Map.{keys_of}
use Rattle.std.specs.FinMap as map
use Rattle.std.specs.FinMap.{is_sorted}
use Rattle.std.specs.FinMap.Entries.{below_all}
use Rattle.std.specs.Ordering.{eq_by_cmp, is_le}
use Rattle.std.proofs.lemmas.Bool.{cases_Bool, false≢true, false_from_ne_true}
use Rattle.unit_paths.proofs.Beneaths.{beneath_between, first_at, first_path, from_first}
use Rattle.unit_paths.proofs.Shapes.{beneath-parts}
use Rattle.unit_paths.specs.Paths.{is_path, first_beneath}
use Rattle.link_tree.specs.Trees.{Entries, path_cmp}
use Rattle.link_tree.specs.Pieces.{Item, first_of}
use Rattle.link_tree.specs.Shape.{IsTree, is_crowded}
use Rattle.unit_paths.specs.Shape.{is_beneath, is_close}
use Rattle.link_tree.proofs.Aboves.{key_path, any_or}
use Rattle.link_tree.proofs.Maps.{first, second, less}
use Rattle.link_tree.proofs.Keys.{same-found, or_true, any-keys}

-- whether the first of some entries is beneath a path
abbrev pub first_is : List ℕ → Option Item → Bool
first_is path first = option_map_or (λ (e : Item). is_beneath e.0 path) first false

-- an entry is the first path that can be beneath, or comes after it
abbrev is_from : List ℕ → Item → Bool
is_from path e = is_le (path_cmp (path ++ codes "/" ++ codes "\u{1}") e.0)

none_later : (path text : List ℕ) (es : List Item) → is_le (path_cmp (path ++ codes "/" ++ codes "\u{1}") text) ≡ true → is_beneath text path ≡ false → T (below_all path_cmp text es) → list_any (λ other. is_beneath other path) (keys_of es) ≡ false
none_later path text [] from off all = refl
none_later path text (e ∷ es) from off all =
    let here = false_from_ne_true (is_beneath e.0 path) (λ beneath. false≢true (sym off ∙ beneath_between path text e.0 from (less _ (first _ _ all)) beneath)) in
    let rest = none_later path text es from off (second _ _ all) in
    rw (here, rest) refl

first_decides : (path : List ℕ) (e : Item) (es : List Item) (b : Bool) → is_beneath e.0 path ≡ b → is_le (path_cmp (path ++ codes "/" ++ codes "\u{1}") e.0) ≡ true → T (below_all path_cmp e.0 es) → (is_beneath e.0 path || list_any (λ other. is_beneath other path) (keys_of es)) ≡ is_beneath e.0 path
first_decides path e es true here from all = rw here refl
first_decides path e es false here from all = let rest = none_later path e.0 es from here all in rw (here, rest) refl

-- It depends only on the first of the entries from there on.
pub first_beneath_decides : (path : List ℕ) (es : List Item) → T (is_sorted path_cmp es) → ((key : List ℕ) → list_any (eq_by_cmp path_cmp key) (keys_of es) ≡ true → is_path key ≡ true) → first_is path (first_of (filter (is_from path) es)) ≡ list_any (λ other. is_beneath other path) (keys_of es)
first_beneath_decides path [] sorted paths = refl
first_beneath_decides path (e ∷ es) sorted paths =
    elim (cases_Bool (is_le (path_cmp (path ++ codes "/" ++ codes "\u{1}") e.0))) [
      | inl from ↦ rw from (sym (first_decides path e es (is_beneath e.0 path) refl from (first _ _ sorted)))
      | inr below ↦ (
          let off = false_from_ne_true (is_beneath e.0 path) (λ beneath. false≢true (sym below ∙ from_first path e.0 (paths e.0 (rw (same-found e.0) refl)) beneath)) in
          rw (below, off) (first_beneath_decides path es (second _ _ sorted) (λ key some. paths key (rw some (or_true (eq_by_cmp path_cmp key e.0)))))
          )
    ]

-- if no path can be beneath, none is
pub none_beneath : (path : List ℕ) (keys : List (List ℕ)) → is_path path ≡ true → first_beneath path ≡ None → ((key : List ℕ) → list_any (eq_by_cmp path_cmp key) keys ≡ true → is_path key ≡ true) → list_any (λ other. is_beneath other path) keys ≡ false
none_beneath path keys is none paths = any-keys (λ other. is_beneath other path) keys (λ key some. false_from_ne_true (is_beneath key path) (λ beneath.
    let at = beneath-parts key path beneath in
    let first = ap is_path (append_assoc path (codes "/") (codes "\u{1}")) ∙ first_path path at.0 is (sym (ap is_path at.1) ∙ paths key some) in
    let there : first_beneath path ≡ Some (path ++ codes "/" ++ codes "\u{1}") = rw first refl in
    cc))

-- It depends only on the first of a tree's entries from there on.
pub first_found : (path first : List ℕ) (m : Entries) → IsTree m → first_beneath path ≡ Some first → first_is path (first_of (filter (λ (e : Item). is_le (path_cmp first e.0)) (map.entries m))) ≡ list_any (λ other. is_beneath other path) (map.keys m)
first_found path first m tree at =
    ap (λ text. first_is path (first_of (filter (λ (e : Item). is_le (path_cmp text e.0)) (map.entries m)))) (sym (first_at path first at))
    ∙ first_beneath_decides path (map.entries m) (map.entries_sorted m) (λ key some. key_path m key tree some)

-- a path is crowded by the entries above it and by those beneath it
pub crowded_or : (m : Entries) (path : List ℕ) → is_crowded m path ≡ (list_any (is_beneath path) (map.keys m) || list_any (λ other. is_beneath other path) (map.keys m))
unfolding is_crowded is_close
crowded_or m path = any_or (is_close path) (is_beneath path) (λ other. is_beneath other path) (λ other. refl) (map.keys m)

pub found_first : (found x y : Bool) → found ≡ true → found ≡ x → found ≡ (x || y)
found_first found x y here is = here ∙ sym (ap (λ b. b || y) (sym is ∙ here))

pub found_second : (off found x y : Bool) → off ≡ false → off ≡ x → found ≡ y → found ≡ (x || y)
found_second off found x y none isnt is = is ∙ sym (ap (λ b. b || y) (sym isnt ∙ none))
