-- Words that are read one after another, each by the same test.
use Rattle.std.proofs.Common.{◌≡◌, ◌≤◌, ℕ, ◌+◌, ◌<◌, ◌&&◌, Bool, true, false, cond, List, [], ◌∷◌, ◌++◌, map, Result, Ok, Err, refl, sym, ap, ◌∙◌, drop, get_or, length}
use Rattle.std.specs.List.{list_all}
use Rattle.std.proofs.lemmas.List.{drop_more, drop_all, append-nil, append_assoc}
use Rattle.byte_streams.specs.declared.read_error.ReadError.{ReadError}
use Rattle.byte_streams.specs.declared.read_error.ReadError.TheVariants as errors
use Rattle.unit_script.specs.declared.reason.Reason.{Reason}
use Rattle.byte_streams.specs.Reads.{IsFaultOf}

-- the rest begins with the word that is read
pub left_more : {A : Type 0} (f : A → List ℕ) (words : List A) (i : ℕ) (d : A) → i < length words → map f (drop i words) ≡ f (get_or words i d) ∷ map f (drop (i + 1) words)
left_more f words i d within = ap (map f) (drop_more words i d within)

-- a word that passes a test, or why it doesn't
abbrev pub tested : (List ℕ → Bool) → Reason → List ℕ → Result (List ℕ) Reason
tested test why word = cond (test word) (Ok word) (Err why)

-- words that all pass it
abbrev pub all_tested : (List ℕ → Bool) → Reason → List (List ℕ) → Result (List (List ℕ)) Reason
all_tested test why words = cond (list_all test words) (Ok words) (Err why)

by_test : (b : Bool) (why : Reason) (word value : List ℕ) → cond b (Ok word) (Err why) ≡ Ok value → (word ≡ value) × (b ≡ true)
by_test true why word value h = (cc, refl)
by_test false why word value h = cc

by_fault : (b : Bool) (why : Reason) (word : List ℕ) (reason : Reason) → cond b (Ok word) (Err why) ≡ Err reason → (reason ≡ why) × (b ≡ false)
by_fault true why word reason h = cc
by_fault false why word reason h = (cc, refl)

module _ (test : List ℕ → Bool) (why : Reason) where
  -- if a word fails, none is returned
  words_fail : (word : List ℕ) (words all : List (List ℕ)) (e : ReadError Reason) → IsFaultOf e (tested test why word) → list_all test (word ∷ words) ≡ list_all test all → IsFaultOf e (all_tested test why all)
  words_fail word words all (errors.Fault reason) h same =
      let fault = by_fault (test word) why word reason h in
      let none : list_all test all ≡ false = sym same ∙ ap (λ b. b && list_all test words) fault.1 in
      rw (none, fault.0) refl
  words_fail word words all errors.ReadFault h same = absurd h
  words_fail word words all errors.OutOfMemory h same = tt

  -- if all pass, they are returned
  words_end : (all values : List (List ℕ)) → values ++ [] ≡ all → list_all test [] ≡ list_all test all → all_tested test why all ≡ Ok values
  words_end all values is same = rw (← same) (ap (λ (words : List (List ℕ)). Ok words) (sym is ∙ append-nil values))

  module _ {A : Type 0} (f : A → List ℕ) (words : List A) (i : ℕ) (values : List (List ℕ))
      (so_far : (values ++ map f (drop i words) ≡ map f words) × (list_all test (map f (drop i words)) ≡ list_all test (map f words))) where
    pub reading_fails : (d : A) → i < length words → (e : ReadError Reason) → IsFaultOf e (tested test why (f (get_or words i d))) → IsFaultOf e (all_tested test why (map f words))
    reading_fails d within e h = words_fail (f (get_or words i d)) (map f (drop (i + 1) words)) (map f words) e h (sym (ap (list_all test) (left_more f words i d within)) ∙ so_far.1)

    pub reading_goes : (d : A) → i < length words → (value : List ℕ) (more : List (List ℕ)) → tested test why (f (get_or words i d)) ≡ Ok value → more ≡ values ++ value ∷ []
        → (more ++ map f (drop (i + 1) words) ≡ map f words) × (list_all test (map f (drop (i + 1) words)) ≡ list_all test (map f words))
    reading_goes d within value more h pushed =
        let word = by_test (test (f (get_or words i d))) why (f (get_or words i d)) value h in
        let rest = map f (drop (i + 1) words) in (
          ap (λ (vs : List (List ℕ)). vs ++ rest) pushed ∙ append_assoc values (value ∷ []) rest
              ∙ ap (λ (w : List ℕ). values ++ w ∷ rest) (sym word.0) ∙ ap (λ (ws : List (List ℕ)). values ++ ws) (sym (left_more f words i d within)) ∙ so_far.0,
          ap (λ b. b && list_all test rest) (sym word.1) ∙ ap (list_all test) (sym (left_more f words i d within)) ∙ so_far.1,
        )

    pub reading_ends : length words ≤ i → all_tested test why (map f words) ≡ Ok values
    reading_ends past =
        words_end (map f words) values
        (ap (λ (ws : List A). values ++ map f ws) (sym (drop_all i words past)) ∙ so_far.0)
        (ap (λ (ws : List A). list_all test (map f ws)) (sym (drop_all i words past)) ∙ so_far.1)
