-- Enough steps of trying decide whether a pattern matches.
use Rattle.std.proofs.Common.{◌≡◌, refl, ℕ, zero, suc, ◌+◌, ◌<◌, ◌≤◌, Bool, true, false, ◌==◌, ◌&&◌, ◌||◌, cond, List, [], ◌∷◌, ◌++◌, length, drop, take, length-drop, Option, Some, None, ◌⊎◌, inl, inr, sym, ap, subst, arith}
use Rattle.std.specs.Option.{option_map}
use Rattle.std.specs.List.{position}
use Rattle.std.proofs.lemmas.Bool.{eqb-true, eq-eqb}
use Rattle.preset_rules.specs.Patterns.{Set, Matches, is_star, is_in, by_set, set_from, set_behind, ends_set, after_byte, tried, goes_on, is_matched}
use Rattle.preset_rules.specs.Patterns.Matches.{AtEnd, AnyBytes}
use Rattle.preset_rules.proofs.Matching.{StarTakes, ByteTaken, in_parts, by_test, byte_first}

-- what follows a set is no longer than the text from which the set is cut
set_from_short : (turned : Bool) (rest : List ℕ) (set : Set) → set_from turned rest ≡ Some set → length set.after ≤ length rest
set_from_short turned [] set is = absurd (cc)
set_from_short turned (m ∷ rest) set is =
    let cut : Option ℕ → Option Set = option_map (λ at. record { turned = turned; members = take (at + 1) (m ∷ rest); after = drop (at + 1) rest }) in
    elim (position ends_set rest) as (λ (at : Option ℕ). cut at ≡ Some set → length set.after ≤ length (m ∷ rest)) [
      | None ↦ λ none. absurd (cc)
      | Some at ↦ λ some.
          let after : set.after ≡ drop (at + 1) rest = ap (λ (o : Option Set). elim o as (λ _. List ℕ) [ None ↦ [] | Some s ↦ s.after ]) (sym some) in
          omega (arith, ap length after, length-drop (at + 1) rest)
    ] is

set_behind_short : (rest : List ℕ) (set : Set) → set_behind rest ≡ Some set → length set.after ≤ length rest
unfolding set_behind
set_behind_short [] set is = absurd (cc)
set_behind_short (f ∷ rest) set is =
    elim (f == 33) as (λ c. cond c (set_from true rest) (set_from false (f ∷ rest)) ≡ Some set → length set.after ≤ length (f ∷ rest)) [
      | true ↦ λ turned. let short = set_from_short true rest set turned in omega arith
      | false ↦ λ plain. set_from_short false (f ∷ rest) set plain
    ] is

by_set_short : (set : Option Set) (r : List ℕ) (b : ℕ) (p : List ℕ) → set_behind r ≡ set → by_set set r b ≡ Some p → length p ≤ length r
by_set_short None r b p here is = elim (by_test (b == 91) (Some r) None p is) [ inl h ↦ (let same : p ≡ r = cc in omega (arith, ap length same)) | inr h ↦ absurd (cc) ]
by_set_short (Some set) r b p here is = elim (by_test (is_in set b) (Some set.after) None p is) [ inl h ↦ (let same : p ≡ set.after = cc in omega (arith, ap length same, set_behind_short r set here)) | inr h ↦ absurd (cc) ]

-- a pattern is shorter after it has taken a byte
pub after_short : (pattern : List ℕ) (b : ℕ) (p : List ℕ) → after_byte pattern b ≡ Some p → length p + 1 ≤ length pattern
unfolding after_byte
after_short [] b p is = absurd (cc)
after_short (f ∷ r) b p is =
    elim (by_test (f == 42) None _ p is) [
      | inl star ↦ absurd (cc)
      | inr no_star ↦ elim (by_test (f == 63) (Some r) _ p no_star.1) [
        | inl mark ↦ (let same : p ≡ r = cc in omega (arith, ap length same))
        | inr no_mark ↦ elim (by_test (f == 91) _ _ p no_mark.1) [
          | inl bracket ↦ (let short = by_set_short (set_behind r) r b p refl bracket.1 in omega arith)
          | inr no_bracket ↦ elim (by_test (f == b) (Some r) None p no_bracket.1) [
            | inl same ↦ (let left : p ≡ r = cc in omega (arith, ap length left))
            | inr other ↦ absurd (cc)
          ]
        ]
      ]
    ]

or_cases : (a b : Bool) → a || b ≡ true → (a ≡ true) ⊎ (b ≡ true)
or_cases true b is = inl refl
or_cases false b is = inr is

and_right : (a b : Bool) → a && b ≡ true → (a ≡ true) × (b ≡ true)
and_right true b is = (refl, is)
and_right false b is = absurd (cc)

or_right : (a : Bool) → a || true ≡ true
or_right true = refl
or_right false = refl

sound_on : (steps : ℕ) (pattern t : List ℕ) (b : ℕ) (p : Option (List ℕ)) → after_byte pattern b ≡ p
    → ((q : List ℕ) → tried steps q t ≡ true → Matches q t) → goes_on (λ q. tried steps q t) p ≡ true → Matches pattern (b ∷ t)
sound_on steps pattern t b None here on is = absurd (cc)
sound_on steps pattern t b (Some p) here on is = byte_first pattern b t p here (on p is)

byte_star : (f : ℕ) (r text more : List ℕ) → ByteTaken (f ∷ r) text → is_star f ≡ true → Matches (f ∷ r) more
unfolding after_byte
byte_star f r text more taken star = let after = taken.after in absurd (let none : after_byte (f ∷ r) taken.first ≡ None = rw star refl in cc)

pub tried_sound : (steps : ℕ) (pattern text : List ℕ) → tried steps pattern text ≡ true → Matches pattern text
tried_sound zero pattern text is = absurd (cc)
tried_sound (suc steps) [] [] is = AtEnd
tried_sound (suc steps) [] (b ∷ text) is = absurd (cc)
tried_sound (suc steps) (f ∷ r) [] is =
    let parts = and_right (is_star f) (tried steps r []) is in
    AnyBytes f r [] [] [] (eqb-true f 42 parts.0) refl (tried_sound steps r [] parts.1)
tried_sound (suc steps) (f ∷ r) (b ∷ text) is =
    elim (is_star f) as (λ c. is_star f ≡ c → cond c (tried steps r (b ∷ text) || tried steps (f ∷ r) text) (goes_on (λ pattern. tried steps pattern text) (after_byte (f ∷ r) b)) ≡ true → Matches (f ∷ r) (b ∷ text)) [
      | true ↦ λ star matched. elim (or_cases (tried steps r (b ∷ text)) (tried steps (f ∷ r) text) matched) [
        | inl now ↦ AnyBytes f r [] (b ∷ text) (b ∷ text) (eqb-true f 42 star) refl (tried_sound steps r (b ∷ text) now)
        | inr later ↦ elim (in_parts f r text (tried_sound steps (f ∷ r) text later)) [
          | inl takes ↦ AnyBytes f r (b ∷ takes.bytes) takes.left (b ∷ text) takes.star (ap (λ x. b ∷ x) takes.cut) takes.matches
          | inr taken ↦ byte_star f r text (b ∷ text) taken star
        ]
      ]
      | false ↦ λ star matched. sound_on steps (f ∷ r) text b (after_byte (f ∷ r) b) refl (λ q m. tried_sound steps q text m) matched
    ] refl is

nil_after : (before left : List ℕ) → [] ≡ before ++ left → left ≡ []
nil_after [] left is = sym is
nil_after (x ∷ before) left is = absurd (cc)

complete_on : (steps : ℕ) (pattern t : List ℕ) (b : ℕ) (p : Option (List ℕ)) (q : List ℕ) → after_byte pattern b ≡ p → after_byte pattern b ≡ Some q
    → tried steps q t ≡ true → goes_on (λ q. tried steps q t) p ≡ true
complete_on steps pattern t b None q here is on = absurd (cc)
complete_on steps pattern t b (Some p) q here is on = (let same : p ≡ q = cc in rw same on)

no_byte : (f : ℕ) (r : List ℕ) (b : ℕ) (p : List ℕ) → is_star f ≡ true → after_byte (f ∷ r) b ≡ Some p → ⊥
unfolding after_byte
no_byte f r b p star is = (let none : after_byte (f ∷ r) b ≡ None = rw star refl in cc)

taken_is : (f : ℕ) (r : List ℕ) (b : ℕ) (text : List ℕ) → ByteTaken (f ∷ r) (b ∷ text) → (p : List ℕ) × (after_byte (f ∷ r) b ≡ Some p) × Matches p text
taken_is f r b text taken =
    let cut = taken.cut in
    let first : taken.first ≡ b = cc in
    let left : taken.left ≡ text = cc in
    (taken.rest, subst (λ (x : ℕ). after_byte (f ∷ r) x ≡ Some taken.rest) first taken.after, subst (λ (x : List ℕ). Matches taken.rest x) left taken.matches)

not_star : (f : ℕ) (r text : List ℕ) → is_star f ≡ false → StarTakes f r text → ⊥
not_star f r text other takes = (let star : is_star f ≡ true = eq-eqb f 42 takes.star in cc)

pub tried_complete : (steps : ℕ) (pattern text : List ℕ) → length pattern + length text < steps → Matches pattern text → tried steps pattern text ≡ true
tried_complete zero pattern text enough matches = absurd (omega arith)
tried_complete (suc steps) [] [] enough matches = refl
tried_complete (suc steps) [] (b ∷ text) enough matches = elim matches [ ]
tried_complete (suc steps) (f ∷ r) [] enough matches =
    elim (in_parts f r [] matches) [
      | inl takes ↦
          let star : is_star f ≡ true = eq-eqb f 42 takes.star in
          let none : takes.left ≡ [] = nil_after takes.bytes takes.left takes.cut in
          rw (star, tried_complete steps r [] (omega arith) (subst (λ (x : List ℕ). Matches r x) none takes.matches)) refl
      | inr taken ↦ let cut = taken.cut in absurd (cc)
    ]
tried_complete (suc steps) (f ∷ r) (b ∷ text) enough matches =
    elim (in_parts f r (b ∷ text) matches) [
      | inl takes ↦
          let star : is_star f ≡ true = eq-eqb f 42 takes.star in
          rw star (elim takes.bytes as (λ (bytes : List ℕ). b ∷ text ≡ bytes ++ takes.left → tried steps r (b ∷ text) || tried steps (f ∷ r) text ≡ true) [
            | [] ↦ λ cut. rw (tried_complete steps r (b ∷ text) (omega arith) (subst (λ (x : List ℕ). Matches r x) (sym cut) takes.matches)) refl
            | x ∷ bytes ↦ λ cut.
                rw (tried_complete steps (f ∷ r) text (omega arith) (AnyBytes f r bytes takes.left text takes.star (cc) takes.matches)) (or_right (tried steps r (b ∷ text)))
          ] takes.cut)
      | inr taken ↦
          let here = taken_is f r b text taken in
          let short = after_short (f ∷ r) b here.0 here.1 in
          elim (is_star f) as (λ c. is_star f ≡ c → cond c (tried steps r (b ∷ text) || tried steps (f ∷ r) text) (goes_on (λ pattern. tried steps pattern text) (after_byte (f ∷ r) b)) ≡ true) [
            | true ↦ λ star. absurd (no_byte f r b here.0 star here.1)
            | false ↦ λ other. complete_on steps (f ∷ r) text b (after_byte (f ∷ r) b) here.0 refl here.1 (tried_complete steps here.0 text (omega arith) here.2)
          ] refl
    ]

-- A pattern matches exactly if `is_matched` says so.
pub matched_if : (pattern text : List ℕ) → is_matched pattern text ≡ true → Matches pattern text
unfolding is_matched
matched_if pattern text is = tried_sound (length pattern + length text + 1) pattern text is

pub matched_then : (pattern text : List ℕ) → Matches pattern text → is_matched pattern text ≡ true
unfolding is_matched
matched_then pattern text matches = tried_complete (length pattern + length text + 1) pattern text (omega arith) matches
