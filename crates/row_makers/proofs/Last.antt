-- The last row that survives and changed a path.
use Rattle.std.proofs.Common.{◌≡◌, ◌≤◌, ◌<◌, ◌+◌, ℕ, zero, suc, Bool, true, false, List, Option, Some, None, length, slice_get, sym, ap, ◌∙◌, arith, inl, inr}
use Rattle.std.proofs.lemmas.Bool.{cases_lt, false≢true}
use Rattle.std.proofs.lemmas.Option.{slice_get_within}
use Rattle.history.specs.declared.row.Row.{Row}
use Rattle.history.specs.Rows.{row_at}
use Rattle.row_makers.specs.Makers.{makes, MakesAt, IsMaker}

module _ {O : Type 0} (asks : O → Bool) (rows : List (Row O)) (path : List ℕ) where
  -- the row that made it among the first p rows
  abbrev pub UpTo : (p : ℕ) → Option ℕ → Type 0
  UpTo p None = (n : ℕ) → n ≤ p → MakesAt asks rows path n → ⊥
  UpTo p (Some m) = MakesAt asks rows path m × ((n : ℕ) → n ≤ p → MakesAt asks rows path n → n ≤ m)

  pub begun : UpTo 0 None
  begun zero within makes = cc
  begun (suc n) within makes = omega (arith, within)

  -- the row at place k is row k + 1
  at_place : (k m : ℕ) (row : Row O) → m ≡ k + 1 → slice_get rows k ≡ Some row → row_at rows m ≡ Some row
  at_place k zero row same here = absurd (omega (arith, same))
  at_place k (suc j) row same here = let one : j ≡ k = omega (arith, same) in ap (λ i. slice_get rows i) one ∙ here

  pub found_here : (p m : ℕ) (row : Row O) → m ≡ p + 1 → slice_get rows p ≡ Some row → makes asks path row ≡ true → UpTo (p + 1) (Some m)
  found_here p m row same here met = ((row, at_place p m row same here, met), λ n within makes. omega (arith, within, same))

  not_here : (p n : ℕ) (row : Row O) → n ≡ p + 1 → slice_get rows p ≡ Some row → makes asks path row ≡ false → MakesAt asks rows path n → ⊥
  not_here p n row same here not makes_it =
      let again = at_place p n row same here in
      let one : row ≡ makes_it.0 = some_is (sym again ∙ makes_it.1) in
      absurd (false≢true (sym not ∙ ap (makes asks path) one ∙ makes_it.2)) where
        some_is : {x y : Row O} → Some x ≡ Some y → x ≡ y
        some_is h = cc

  pub not_found : (p : ℕ) (row : Row O) (found : Option ℕ) → slice_get rows p ≡ Some row → makes asks path row ≡ false → UpTo p found → UpTo (p + 1) found
  not_found p row None here not so_far = λ n within makes_it. elim (cases_lt p n) [
    | inr before ↦ so_far n before makes_it
    | inl after ↦ (let same : n ≡ p + 1 = omega (arith, within, after) in not_here p n row same here not makes_it)
  ]
  not_found p row (Some m) here not so_far = (so_far.0, later) where
    later : (n : ℕ) → n ≤ p + 1 → MakesAt asks rows path n → n ≤ m
    later n within makes_it = elim (cases_lt p n) [
      | inr before ↦ so_far.1 n before makes_it
      | inl after ↦ (let same : n ≡ p + 1 = omega (arith, within, after) in absurd (not_here p n row same here not makes_it))
    ]

  within_rows : (n : ℕ) → MakesAt asks rows path n → n ≤ length rows
  within_rows zero makes_it = omega arith
  within_rows (suc k) makes_it = let within : k < length rows = slice_get_within rows k makes_it.0 makes_it.1 in omega (arith, within)

  -- among all rows
  pub is_maker : (p : ℕ) (found : Option ℕ) → p ≡ length rows → UpTo p found → IsMaker asks rows path found
  is_maker p None all so_far = λ n makes_it. let within : n ≤ length rows = within_rows n makes_it in so_far n (omega (arith, within, all)) makes_it
  is_maker p (Some m) all so_far = (so_far.0, λ n makes_it. let within : n ≤ length rows = within_rows n makes_it in so_far.1 n (omega (arith, within, all)) makes_it)
