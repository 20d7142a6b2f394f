-- The steps of the matcher, as its code takes them.
use Rattle.std.proofs.Common.{◌≡◌, refl, ℕ, ◌≤◌, Bool, true, false, List, [], ◌∷◌, length, Option, Some, None, sym, ap, ◌∙◌, subst, arith}
use Rattle.std.specs.Option.{option_map}
use Rattle.preset_rules.specs.Patterns.{Matches, after_byte}
use Rattle.preset_rules.specs.Walk.{further, along, after_star, are_ended, first_taken, without_first}
use Rattle.preset_rules.proofs.Tried.{after_short}
use Rattle.preset_rules.proofs.Stars.{Starred, star_after_star, star_to_star, star_led_on, star_led_to, both_ended, star_skips, star_skipped, star_at_end}
use Rattle.preset_rules.proofs.Matching.{stuck_matches_none}

taken_from : (pattern : List ℕ) (b : ℕ) (text : List ℕ) (e : List ℕ × List ℕ) (p : Option (List ℕ)) → Some e ≡ option_map (λ left. (left, text)) p → further (along text) (pattern, b ∷ text) p ≡ along e.1 e.0
taken_from pattern b text e None is = absurd (cc)
taken_from pattern b text e (Some p) is =
    let l : e.0 ≡ p = cc in
    let r : e.1 ≡ text = cc in
    ap (along text) (sym l) ∙ ap (λ (t : List ℕ). along t e.0) (sym r)

pub along_taken : (pattern text : List ℕ) (e : List ℕ × List ℕ) → Some e ≡ first_taken pattern text → along e.1 e.0 ≡ along text pattern
unfolding along
along_taken pattern [] e is = absurd (cc)
along_taken pattern (b ∷ text) e is = sym (taken_from pattern b text e (after_byte pattern b) is)

stops_from : (pattern : List ℕ) (b : ℕ) (text : List ℕ) (p : Option (List ℕ)) → let cut : Option (List ℕ) → Option (List ℕ × List ℕ) = option_map (λ left. (left, text)) in None ≡ cut p → further (along text) (pattern, b ∷ text) p ≡ (pattern, b ∷ text)
stops_from pattern b text None is = refl
stops_from pattern b text (Some p) is = absurd (cc)

pub along_stops : (pattern text : List ℕ) → None ≡ first_taken pattern text → along text pattern ≡ (pattern, text)
unfolding along
along_stops pattern [] is = refl
along_stops pattern (b ∷ text) is = stops_from pattern b text (after_byte pattern b) is

-- what is left is no longer than what there was
pub record IsShort (pattern text left rest : List ℕ) : Type 0 where
  pub of_pattern : length left ≤ length pattern
  pub of_text : length rest ≤ length text

short_from : (pattern : List ℕ) (b : ℕ) (text : List ℕ) (p : Option (List ℕ)) → after_byte pattern b ≡ p → ((q : List ℕ) → IsShort q text (along text q).0 (along text q).1)
    → IsShort pattern (b ∷ text) (further (along text) (pattern, b ∷ text) p).0 (further (along text) (pattern, b ∷ text) p).1
short_from pattern b text None is on = record { of_pattern = omega arith; of_text = omega arith }
short_from pattern b text (Some p) is on =
    let short = after_short pattern b p is in
    let rest = on p in
    let one = rest.of_pattern in
    let two = rest.of_text in
    record { of_pattern = omega arith; of_text = omega arith }

pub along_short : (text pattern : List ℕ) → IsShort pattern text (along text pattern).0 (along text pattern).1
unfolding along
along_short [] pattern = record { of_pattern = omega arith; of_text = omega arith }
along_short (b ∷ text) pattern = short_from pattern b text (after_byte pattern b) refl (along_short text)

module _ (pattern text left rest : List ℕ) (first : left ≡ (along text pattern).0) (second : rest ≡ (along text pattern).1) where
  star_is : (behind : List ℕ) → Some behind ≡ after_star left → after_star (along text pattern).0 ≡ Some behind
  star_is behind is = ap after_star (sym first) ∙ sym is

  none_is : None ≡ after_star left → after_star (along text pattern).0 ≡ None
  none_is is = ap after_star (sym first) ∙ sym is

  ends_is : (e : Bool) → are_ended left rest ≡ e → are_ended (along text pattern).0 (along text pattern).1 ≡ e
  ends_is e is = ap (λ (p : List ℕ). are_ended p (along text pattern).1) (sym first) ∙ ap (λ (t : List ℕ). are_ended left t) (sym second) ∙ is

  pub to_star : (behind : List ℕ) → Some behind ≡ after_star left → (Starred behind rest → Starred pattern text) × (Starred pattern text → Starred behind rest)
  to_star behind is = (
    λ matches. star_to_star pattern text behind (star_is behind is) (subst (λ (t : List ℕ). Starred behind t) second matches),
    λ matches. subst (λ (t : List ℕ). Starred behind t) (sym second) (star_after_star pattern text behind (star_is behind is) matches),
  )

  pub whole_to_star : (behind : List ℕ) → Some behind ≡ after_star left → (Starred behind rest → Matches pattern text) × (Matches pattern text → Starred behind rest)
  whole_to_star behind is = (
    λ matches. star_led_on pattern text behind (star_is behind is) (subst (λ (t : List ℕ). Starred behind t) second matches),
    λ matches. subst (λ (t : List ℕ). Starred behind t) (sym second) (star_led_to pattern text behind (star_is behind is) matches),
  )

  pub to_end : are_ended left rest ≡ true → Matches pattern text
  to_end is = both_ended pattern text (ends_is true is)

  pub fails : None ≡ after_star left → are_ended left rest ≡ false → Matches pattern text → ⊥
  fails none is = stuck_matches_none text pattern (none_is none) (ends_is false is)

-- if it fails after a star, the star takes one more byte
skips_from : (pattern text later : List ℕ) → Some later ≡ without_first text → after_star (along text pattern).0 ≡ None → are_ended (along text pattern).0 (along text pattern).1 ≡ false
    → (Starred pattern later → Starred pattern text) × (Starred pattern text → Starred pattern later)
skips_from pattern [] later is star ended = absurd (cc)
skips_from pattern (b ∷ text) later is star ended =
    let same : later ≡ text = cc in (
      λ matches. star_skipped pattern b text (subst (λ (t : List ℕ). Starred pattern t) same matches),
      λ matches. subst (λ (t : List ℕ). Starred pattern t) (sym same) (star_skips pattern b text star ended matches),
    )

pub skips : (pattern text left rest later : List ℕ) → left ≡ (along text pattern).0 → rest ≡ (along text pattern).1 → None ≡ after_star left → are_ended left rest ≡ false → Some later ≡ without_first text
    → (Starred pattern later → Starred pattern text) × (Starred pattern text → Starred pattern later)
skips pattern text left rest later first second none ended is =
    skips_from pattern text later is (none_is pattern text left rest first second none) (ends_is pattern text left rest first second false ended)

ends_from : (pattern text : List ℕ) → None ≡ without_first text → after_star (along text pattern).0 ≡ None → are_ended (along text pattern).0 (along text pattern).1 ≡ false → Starred pattern text → ⊥
ends_from pattern [] is star ended matches = star_at_end pattern star ended matches
ends_from pattern (b ∷ text) is star ended matches = absurd (cc)

pub gives_up : (pattern text left rest : List ℕ) → left ≡ (along text pattern).0 → rest ≡ (along text pattern).1 → None ≡ after_star left → are_ended left rest ≡ false → None ≡ without_first text → Starred pattern text → ⊥
gives_up pattern text left rest first second none ended is =
    ends_from pattern text is (none_is pattern text left rest first second none) (ends_is pattern text left rest first second false ended)

-- two tests of the same fact
pub same_tests : (a b : Bool) → (a ≡ true → b ≡ true) → (b ≡ true → a ≡ true) → a ≡ b
same_tests true b there back = sym (there refl)
same_tests false true there back = back refl
same_tests false false there back = refl
