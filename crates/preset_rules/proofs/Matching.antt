-- How a pattern matches, one byte of the text after another.
use Rattle.std.proofs.Common.{◌≡◌, refl, ℕ, Bool, true, false, not, ◌||◌, ◌==◌, cond, List, [], ◌∷◌, ◌++◌, Option, Some, None, ◌⊎◌, inl, inr, sym, ◌∙◌, subst}
use Rattle.std.proofs.lemmas.Bool.{eqb-true, eq-eqb}
use Rattle.preset_rules.specs.Patterns.{Set, Matches, set_behind, is_in, is_plain, is_star, by_set, after_byte}
use Rattle.preset_rules.specs.Patterns.Matches.{AtEnd, AnyBytes, AnyByte, OneOfSet, OpenBracket, Itself}
use Rattle.preset_rules.specs.Walk.{further, along, after_star, are_ended}

-- a star takes some bytes, and the rest of the pattern matches what follows
pub record StarTakes (first : ℕ) (rest text : List ℕ) : Type 0 where
  pub star : first ≡ 42
  pub bytes : List ℕ
  pub left : List ℕ
  pub cut : text ≡ bytes ++ left
  pub matches : Matches rest left

-- the first element of the pattern takes one byte
pub record ByteTaken (pattern text : List ℕ) : Type 0 where
  pub first : ℕ
  pub left : List ℕ
  pub cut : text ≡ first ∷ left
  pub rest : List ℕ
  pub after : after_byte pattern first ≡ Some rest
  pub matches : Matches rest left

none_of : (x y z : Bool) → not (x || y || z) ≡ true → (x ≡ false) × (y ≡ false) × (z ≡ false)
none_of true y z h = absurd (cc)
none_of false true z h = absurd (cc)
none_of false false true h = absurd (cc)
none_of false false false h = (refl, refl, refl)

plain_parts : (b : ℕ) → is_plain b ≡ true → ((b == 42) ≡ false) × ((b == 63) ≡ false) × ((b == 91) ≡ false)
plain_parts b plain = none_of (b == 42) (b == 63) (b == 91) plain

pub in_parts : (f : ℕ) (r t : List ℕ) → Matches (f ∷ r) t → StarTakes f r t ⊎ ByteTaken (f ∷ r) t
unfolding after_byte
in_parts f r t (AnyBytes star pattern bytes rest text is cut more) = inl (record { star = is; bytes = bytes; left = rest; cut = cut; matches = more })
in_parts f r t (AnyByte mark pattern b text is more) =
    inr (record { first = b; left = text; cut = refl; rest = pattern; after = rw is refl; matches = more })
in_parts f r t (OneOfSet bracket rest set b text is here within more) =
    inr (record { first = b; left = text; cut = refl; rest = set.after; after = rw (is, here, within) refl; matches = more })
in_parts f r t (OpenBracket bracket rest text is none more) =
    inr (record { first = bracket; left = text; cut = refl; rest = rest; after = rw (is, none) refl; matches = more })
in_parts f r t (Itself b pattern text plain more) =
    let parts = plain_parts b plain in
    inr (record { first = b; left = text; cut = refl; rest = pattern; after = rw (parts.0, parts.1, parts.2, eq-eqb b b refl) refl; matches = more })

-- the value that a test selected
pub by_test : (c : Bool) (x y : Option (List ℕ)) (p : List ℕ) → cond c x y ≡ Some p → ((c ≡ true) × (x ≡ Some p)) ⊎ ((c ≡ false) × (y ≡ Some p))
by_test true x y p is = inl (refl, is)
by_test false x y p is = inr (refl, is)

by_set_parts : (f : ℕ) (r : List ℕ) (set : Option Set) (b : ℕ) (t p : List ℕ) → f ≡ 91 → set_behind r ≡ set → by_set set r b ≡ Some p → Matches p t → Matches (f ∷ r) (b ∷ t)
by_set_parts f r None b t p bracket none is more =
    elim (by_test (b == 91) (Some r) None p is) [
      | inl h ↦
          let same : f ≡ b = bracket ∙ sym (eqb-true b 91 h.0) in
          let left : p ≡ r = cc in
          subst (λ (x : ℕ). Matches (f ∷ r) (x ∷ t)) same (OpenBracket f r t bracket none (subst (λ (q : List ℕ). Matches q t) left more))
      | inr h ↦ absurd (cc)
    ]
by_set_parts f r (Some set) b t p bracket here is more =
    elim (by_test (is_in set b) (Some set.after) None p is) [
      | inl h ↦
          let left : p ≡ set.after = cc in
          OneOfSet f r set b t bracket here h.0 (subst (λ (q : List ℕ). Matches q t) left more)
      | inr h ↦ absurd (cc)
    ]

-- The rest of a pattern after its first element, which takes one byte, whatever kind it is.
by_set_left : Option Set → List ℕ → Option (List ℕ)
by_set_left None r = Some r
by_set_left (Some set) r = Some set.after

left_of : List ℕ → Option (List ℕ)
left_of [] = None
left_of (f ∷ r) = cond (f == 91) (by_set_left (set_behind r) r) (Some r)

by_set_is : (set : Option Set) (r : List ℕ) (b : ℕ) (p : List ℕ) → by_set set r b ≡ Some p → by_set_left set r ≡ Some p
unfolding by_set_left
by_set_is None r b p is = elim (by_test (b == 91) (Some r) None p is) [ inl h ↦ h.1 | inr h ↦ absurd (cc) ]
by_set_is (Some set) r b p is = elim (by_test (is_in set b) (Some set.after) None p is) [ inl h ↦ h.1 | inr h ↦ absurd (cc) ]

-- a byte that is taken, by the kind of element that takes it
pub byte_first : (pattern : List ℕ) (b : ℕ) (t p : List ℕ) → after_byte pattern b ≡ Some p → Matches p t → Matches pattern (b ∷ t)
unfolding after_byte
byte_first [] b t p is more = absurd (cc)
byte_first (f ∷ r) b t p is more =
    elim (by_test (f == 42) None _ p is) [
      | inl star ↦ absurd (cc)
      | inr no_star ↦ elim (by_test (f == 63) (Some r) _ p no_star.1) [
        | inl mark ↦
            let left : p ≡ r = cc in
            AnyByte f r b t (eqb-true f 63 mark.0) (subst (λ (q : List ℕ). Matches q t) left more)
        | inr no_mark ↦ elim (by_test (f == 91) _ _ p no_mark.1) [
          | inl bracket ↦ by_set_parts f r (set_behind r) b t p (eqb-true f 91 bracket.0) refl bracket.1 more
          | inr no_bracket ↦ elim (by_test (f == b) (Some r) None p no_bracket.1) [
            | inl same ↦
                let left : p ≡ r = cc in
                let plain : is_plain f ≡ true = rw (no_star.0, no_mark.0, no_bracket.0) refl in
                subst (λ (x : ℕ). Matches (f ∷ r) (x ∷ t)) (eqb-true f b same.0) (Itself f r t plain (subst (λ (q : List ℕ). Matches q t) left more))
            | inr other ↦ absurd (cc)
          ]
        ]
      ]
    ]

left_is : (pattern : List ℕ) (b : ℕ) (p : List ℕ) → after_byte pattern b ≡ Some p → left_of pattern ≡ Some p
unfolding after_byte left_of
left_is [] b p is = is
left_is (f ∷ r) b p is =
    elim (by_test (f == 42) None _ p is) [
      | inl star ↦ absurd (cc)
      | inr no_star ↦ elim (by_test (f == 63) (Some r) _ p no_star.1) [
        | inl mark ↦
            let none : (f == 91) ≡ false = rw (eqb-true f 63 mark.0) refl in
            rw none mark.1
        | inr no_mark ↦ elim (by_test (f == 91) _ _ p no_mark.1) [
          | inl bracket ↦ rw bracket.0 (by_set_is (set_behind r) r b p bracket.1)
          | inr no_bracket ↦ elim (by_test (f == b) (Some r) None p no_bracket.1) [
            | inl same ↦ rw no_bracket.0 same.1
            | inr other ↦ absurd (cc)
          ]
        ]
      ]
    ]

pub same_left : (pattern : List ℕ) (b c : ℕ) (p q : List ℕ) → after_byte pattern b ≡ Some p → after_byte pattern c ≡ Some q → p ≡ q
same_left pattern b c p q one other = let first = left_is pattern b p one in let second = left_is pattern c q other in cc

-- a star takes no single byte
star_takes_none : (f : ℕ) (r : List ℕ) (b : ℕ) → f ≡ 42 → after_byte (f ∷ r) b ≡ None
unfolding after_byte
star_takes_none f r b star = rw star refl

-- a pattern whose first element takes a byte
pub byte_after : (pattern t : List ℕ) (b : ℕ) (p : List ℕ) → after_byte pattern b ≡ Some p → Matches pattern t → ByteTaken pattern t
unfolding after_byte
byte_after [] t b p is matches = absurd (cc)
byte_after (f ∷ r) t b p is matches =
    elim (in_parts f r t matches) [
      | inl star ↦ let none = star_takes_none f r b star.star in absurd (cc)
      | inr taken ↦ taken
    ]

pub next_matches : (pattern : List ℕ) (b : ℕ) (t p : List ℕ) → after_byte pattern b ≡ Some p → Matches pattern (b ∷ t) → Matches p t
next_matches pattern b t p is matches =
    let taken = byte_after pattern (b ∷ t) b p is matches in
    let left : taken.left ≡ t = let cut = taken.cut in cc in
    let same : taken.rest ≡ p = same_left pattern taken.first b taken.rest p taken.after is in
    subst (λ (x : List ℕ). Matches p x) left (subst (λ (q : List ℕ). Matches q taken.left) same taken.matches)

-- After walking along, the pattern matches as before.
further_matches : (t pattern : List ℕ) (b : ℕ) (p : Option (List ℕ)) → after_byte pattern b ≡ p
    → ((q : List ℕ) → Matches q t → Matches (along t q).0 (along t q).1)
    → Matches pattern (b ∷ t) → Matches (further (along t) (pattern, b ∷ t) p).0 (further (along t) (pattern, b ∷ t) p).1
further_matches t pattern b None is on matches = matches
further_matches t pattern b (Some p) is on matches = on p (next_matches pattern b t p is matches)

further_matched : (t pattern : List ℕ) (b : ℕ) (p : Option (List ℕ)) → after_byte pattern b ≡ p
    → ((q : List ℕ) → Matches (along t q).0 (along t q).1 → Matches q t)
    → Matches (further (along t) (pattern, b ∷ t) p).0 (further (along t) (pattern, b ∷ t) p).1 → Matches pattern (b ∷ t)
further_matched t pattern b None is on matches = matches
further_matched t pattern b (Some p) is on matches = byte_first pattern b t p is (on p matches)

pub along_matches : (t pattern : List ℕ) → Matches pattern t → Matches (along t pattern).0 (along t pattern).1
unfolding along
along_matches [] pattern matches = matches
along_matches (b ∷ t) pattern matches = further_matches t pattern b (after_byte pattern b) refl (along_matches t) matches

pub along_matched : (t pattern : List ℕ) → Matches (along t pattern).0 (along t pattern).1 → Matches pattern t
unfolding along
along_matched [] pattern matches = matches
along_matched (b ∷ t) pattern matches = further_matched t pattern b (after_byte pattern b) refl (along_matched t) matches

-- It ends where no more byte is taken.
abbrev pub AreStuck : List ℕ × List ℕ → Type 0
AreStuck (pattern, []) = Unit {0}
AreStuck (pattern, b ∷ t) = after_byte pattern b ≡ None

further_stuck : (t pattern : List ℕ) (b : ℕ) (p : Option (List ℕ)) → after_byte pattern b ≡ p → ((q : List ℕ) → AreStuck (along t q)) → AreStuck (further (along t) (pattern, b ∷ t) p)
further_stuck t pattern b None is on = is
further_stuck t pattern b (Some p) is on = on p

pub along_stuck : (t pattern : List ℕ) → AreStuck (along t pattern)
unfolding along
along_stuck [] pattern = tt
along_stuck (b ∷ t) pattern = further_stuck t pattern b (after_byte pattern b) refl (along_stuck t)

some_not_none : (o : Option (List ℕ)) (x : List ℕ) → o ≡ None → o ≡ Some x → ⊥
some_not_none o x none some = absurd (cc)

no_match_here : (pattern t : List ℕ) → AreStuck (pattern, t) → after_star pattern ≡ None → are_ended pattern t ≡ false → Matches pattern t → ⊥
no_match_here [] [] stuck star ended matches = absurd (cc)
no_match_here [] (b ∷ t) stuck star ended matches = elim matches [ ]
no_match_here (f ∷ r) [] stuck star ended matches =
    elim (in_parts f r [] matches) [
      | inl takes ↦ let is : is_star f ≡ true = eq-eqb f 42 takes.star in absurd (let some : cond (is_star f) (Some r) None ≡ Some r = rw is refl in cc)
      | inr taken ↦ let cut = taken.cut in absurd (cc)
    ]
no_match_here (f ∷ r) (b ∷ t) stuck star ended matches =
    elim (in_parts f r (b ∷ t) matches) [
      | inl takes ↦ let is : is_star f ≡ true = eq-eqb f 42 takes.star in absurd (let some : cond (is_star f) (Some r) None ≡ Some r = rw is refl in cc)
      | inr taken ↦
          let first : taken.first ≡ b = let cut = taken.cut in cc in
          some_not_none (after_byte (f ∷ r) b) taken.rest stuck (subst (λ (x : ℕ). after_byte (f ∷ r) x ≡ Some taken.rest) first taken.after)
    ]

-- if walking along ends neither at a star nor at the ends of both, the pattern doesn't match
pub stuck_matches_none : (t pattern : List ℕ) → after_star (along t pattern).0 ≡ None → are_ended (along t pattern).0 (along t pattern).1 ≡ false → Matches pattern t → ⊥
stuck_matches_none t pattern star ended matches =
    no_match_here (along t pattern).0 (along t pattern).1 (along_stuck t pattern) star ended (along_matches t pattern matches)

pub ended_matches : (pattern t : List ℕ) → are_ended pattern t ≡ true → Matches pattern t
ended_matches [] [] ended = AtEnd
ended_matches [] (b ∷ t) ended = absurd (cc)
ended_matches (f ∷ r) t ended = absurd (cc)
