-- All names that are reached are reached within as many steps as there are names in `names_around`.
use Rattle.std.proofs.Common.{◌≡◌, ◌≤◌, ◌<◌, ◌+◌, ◌-◌, ℕ, zero, suc, false, List, [], ◌∷◌, ◌++◌, Contains, flat_map, length, length-append, refl, sym, subst, ◌∙◌, inl, inr, arith, ◌⊎◌}
use Rattle.std.specs.List.{list_any, IsDistinct}
use Rattle.std.specs.Str.{bytes_eq}
use Rattle.std.specs.Cmp.Lexicographic.{nat_list_eq_equiv}
use Rattle.std.proofs.lemmas.Bool.{cases_Bool, false≢true}
use Rattle.std.proofs.lemmas.List.Elements.{Contains-append_left, Contains-append_right}
use Rattle.std.proofs.lemmas.Map.Keys.{IsDistinct-push}
use Rattle.std.proofs.lemmas.Map.Views.{Contains-from_any, list_any-from_Contains}
use Rattle.std.proofs.lemmas.Map.Made.{length-le_from_is_member}
use Rattle.link_tree.proofs.Changed.{same_bytes}
use Rattle.install_section.proofs.Least.{first_or_later, is_first, is_later}
use Rattle.states.specs.Dependencies.{Reached, within}
use Rattle.states.specs.Reaching.{AreReached}
use Rattle.states.specs.Dependencies.Reached.{Next, Further}
use Rattle.states.proofs.Members.{none_in, in_either, in_flat_map, of_flat_map}

abbrev pub Name : Type 0
Name = List ℕ

no_names : IsDistinct bytes_eq []
unfolding IsDistinct
no_names = tt

-- every element of one list is in the other
abbrev pub Within : (names others : List Name) → Type 0
Within names others = (name : Name) → Contains names name → Contains others name

-- one step leads to no name outside
abbrev pub IsClosed : (next : Name → List Name) → (names : List Name) → Type 0
IsClosed next names = (by to : Name) → Contains names by → Contains (next by) to → Contains names to

module _ (next : Name → List Name) (from : Name) where
  abbrev W : ℕ → List Name
  W k = within k next from

  abbrev R : Name → Type 0
  R = Reached (λ by to. Contains (next by) to) from

  grows : (k : ℕ) → Within (W k) (W (suc k))
  grows zero name here = absurd (none_in name here)
  grows (suc k) name here = elim (in_either (next from) (flat_map next (W k)) name here) [
    | inl first ↦ Contains-append_left (next from) (flat_map next (W (suc k))) name first
    | inr later ↦ (let found = of_flat_map next (W k) name later in
        Contains-append_right (next from) (flat_map next (W (suc k))) name (in_flat_map next (W (suc k)) found.0 name (grows k found.0 found.1) found.2))
  ]

  -- what is within this number of steps is reached
  pub are_reached : (k : ℕ) (name : Name) → Contains (W k) name → R name
  are_reached zero name here = absurd (none_in name here)
  are_reached (suc k) name here = elim (in_either (next from) (flat_map next (W k)) name here) [
    | inl first ↦ Next name first
    | inr later ↦ (let found = of_flat_map next (W k) name later in Further found.0 name (are_reached k found.0 found.1) found.2)
  ]

  -- a list that has the first names and is closed under steps has everything that is reached
  pub reached_in : (names : List Name) → Within (next from) names → IsClosed next names → (name : Name) → R name → Contains names name
  reached_in names first closed name (Next _ leads) = first name leads
  reached_in names first closed name (Further by _ r leads) = closed by name (reached_in names first closed by r) leads

  -- one more step reaches nothing new
  abbrev IsFull : ℕ → Type 0
  IsFull k = Within (W (suc k)) (W k)

  full_closed : (k : ℕ) → IsFull k → IsClosed next (W k)
  full_closed k full by to here leads = full to (Contains-append_right (next from) (flat_map next (W k)) to (in_flat_map next (W k) by to here leads))

  full_first : (k : ℕ) → IsFull k → Within (next from) (W k)
  full_first k full name first = full name (Contains-append_left (next from) (flat_map next (W k)) name first)

  abbrev pub Wider : ℕ → Type 0
  Wider k = (names : List Name) × IsDistinct bytes_eq names × (length names ≡ k) × Within names (W k)

  -- whether a list has all elements of another, or a name that it lacks
  all_or_one : (names others : List Name) → Within names others ⊎ ((name : Name) × Contains names name × (list_any (bytes_eq name) others ≡ false))
  all_or_one [] others = inl (λ name here. absurd (none_in name here))
  all_or_one (n ∷ names) others = elim (cases_Bool (list_any (bytes_eq n) others)) [
    | inr lacks ↦ inr (n, is_first n names n refl, lacks)
    | inl has ↦ elim (all_or_one names others) [
      | inr one ↦ inr (one.0, is_later n names one.0 one.1, one.2)
      | inl all ↦ inl (λ name here. elim (first_or_later n names name here.0 here.1 here.2) [
        | inl is ↦ subst (Contains others) (sym is) (Contains-from_any same_bytes n others has)
        | inr later ↦ all name later
      ])
    ]
  ]

  wider_or_full : (k : ℕ) → ((j : ℕ) × IsFull j × (j < k)) ⊎ Wider k
  wider_or_full zero = inr ([], no_names, refl, λ name here. absurd (none_in name here))
  wider_or_full (suc k) = elim (wider_or_full k) [
    | inl full ↦ (let lt = full.2 in inl (full.0, full.1, omega (arith, lt)))
    | inr wide ↦ elim (all_or_one (W (suc k)) (W k)) [
      | inl all ↦ inl (k, all, omega arith)
      | inr one ↦ (let names = wide.0 in
          let absent : list_any (bytes_eq one.0) names ≡ false = lacking one.0 names (W k) wide.3 one.2 in
          inr (
            names ++ one.0 ∷ [],
            IsDistinct-push nat_list_eq_equiv names one.0 wide.1 absent,
            omega (arith, length-append names (one.0 ∷ []), wide.2),
            λ name here. elim (in_either names (one.0 ∷ []) name here) [
              | inl old ↦ grows k name (wide.3 name old)
              | inr new ↦ elim (first_or_later one.0 [] name new.0 new.1 new.2) [
                | inl is ↦ subst (Contains (W (suc k))) (sym is) one.1
                | inr later ↦ absurd (none_in name later)
              ]
            ],
          ))
    ]
  ]
    where
      lacking : (name : Name) (names others : List Name) → Within names others → list_any (bytes_eq name) others ≡ false → list_any (bytes_eq name) names ≡ false
      lacking name names others all absent = elim (cases_Bool (list_any (bytes_eq name) names)) [
        | inr lacks ↦ lacks
        | inl has ↦ absurd (false≢true (sym absent ∙ list_any-from_Contains nat_list_eq_equiv name others (all name (Contains-from_any same_bytes name names has))))
      ]

  -- So if all names within any number of steps are among these, more steps than there are names
  -- here reach nothing new.
  full_by : (around : List Name) → ((k : ℕ) → Within (W k) around) → (j : ℕ) × IsFull j × (j ≤ length around)
  full_by around all = elim (wider_or_full (suc (length around))) [
    | inl full ↦ (let lt = full.2 in (full.0, full.1, omega (arith, lt)))
    | inr wide ↦ (let le = length-le_from_is_member nat_list_eq_equiv wide.0 around wide.1
        (λ name here. list_any-from_Contains nat_list_eq_equiv name around (all (suc (length around)) name (wide.3 name (Contains-from_any same_bytes name wide.0 here)))) in
        absurd (omega (arith, le, wide.2)))
  ]

  more : (j m k : ℕ) → k ≡ m + j → Within (W j) (W k)
  more j zero k is name here = (let same : j ≡ k = omega (arith, is) in subst (λ k. Contains (W k) name) same here)
  more j (suc m) zero is name here = absurd (omega (arith, is))
  more j (suc m) (suc k) is name here = grows k name (more j m k (omega (arith, is)) name here)

  -- the names that are reached are those within that number of steps
  pub all_within : (around : List Name) → ((k : ℕ) → Within (W k) around) → AreReached next from (W (length around))
  all_within around all name = (
    are_reached (length around) name,
    λ r. let full = full_by around all in
        let le = full.2 in
        more full.0 (length around - full.0) (length around) (omega (arith, le)) name (reached_in (W full.0) (full_first full.0 full.1) (full_closed full.0 full.1) name r),
  )
