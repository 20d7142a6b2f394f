-- Stars: only the last one reached is tried again, since taking as little as possible leaves the
-- most.
use Rattle.std.proofs.Common.{◌≡◌, refl, ℕ, true, false, List, [], ◌∷◌, ◌++◌, Option, Some, None, inl, inr, sym, ap, ◌∙◌, subst, append_assoc}
use Rattle.std.proofs.lemmas.Bool.{eqb-true}
use Rattle.preset_rules.specs.Patterns.{Matches, is_star, after_byte}
use Rattle.preset_rules.specs.Patterns.Matches.{AnyBytes}
use Rattle.preset_rules.specs.Walk.{further, along, after_star, are_ended}
use Rattle.preset_rules.proofs.Matching.{StarTakes, in_parts, by_test, byte_after, same_left, along_matches, along_matched, stuck_matches_none, ended_matches}

-- a star and then a pattern
abbrev pub Starred : (pattern text : List ℕ) → Type 0
Starred pattern text = Matches (42 ∷ pattern) text

pub star_takes : (pattern text : List ℕ) → Starred pattern text → StarTakes 42 pattern text
unfolding after_byte
star_takes pattern text matches =
    elim (in_parts 42 pattern text matches) [
      | inl takes ↦ takes
      | inr taken ↦ let after = taken.after in absurd (cc)
    ]

-- a star can take what comes before a text that the rest of the pattern matches, or before a text
-- that the star and the rest match
pub star_before : (pattern before left text : List ℕ) → text ≡ before ++ left → Matches pattern left → Starred pattern text
star_before pattern before left text is matches = AnyBytes 42 pattern before left text refl is matches

pub star_more : (pattern before left text : List ℕ) → text ≡ before ++ left → Starred pattern left → Starred pattern text
star_more pattern before left text is matches =
    let takes = star_takes pattern left matches in
    AnyBytes 42 pattern (before ++ takes.bytes) takes.left text refl (is ∙ ap (λ x. before ++ x) takes.cut ∙ sym (append_assoc before takes.bytes takes.left)) takes.matches

star_is_first : (pattern rest : List ℕ) → after_star pattern ≡ Some rest → pattern ≡ 42 ∷ rest
star_is_first [] rest is = absurd (cc)
star_is_first (f ∷ r) rest is =
    elim (by_test (is_star f) (Some r) None rest is) [
      | inl star ↦ let first = eqb-true f 42 star.0 in cc
      | inr other ↦ absurd (cc)
    ]

-- `left` is the end of `text`, and this comes before it
pub record Behind (text left : List ℕ) : Type 0 where
  pub before : List ℕ
  pub is : text ≡ before ++ left

behind_one : (b c : ℕ) (text before left : List ℕ) → b ∷ text ≡ before ++ (c ∷ left) → Behind text left
behind_one b c text [] left is = record { before = []; is = cc }
behind_one b c text (x ∷ before) left is = record { before = before ++ c ∷ []; is = (let tails : text ≡ before ++ (c ∷ left) = cc in tails ∙ sym (append_assoc before (c ∷ []) left)) }

nil_behind : (before left : List ℕ) → [] ≡ before ++ left → left ≡ []
nil_behind [] left is = sym is
nil_behind (x ∷ before) left is = absurd (cc)

greedy_on : (t pattern rest left before : List ℕ) (b : ℕ) (p : Option (List ℕ)) → after_byte pattern b ≡ p
    → ((q more front : List ℕ) → t ≡ front ++ more → Matches q more → after_star (along t q).0 ≡ Some rest → Starred rest (along t q).1)
    → b ∷ t ≡ before ++ left → Matches pattern left
    → after_star (further (along t) (pattern, b ∷ t) p).0 ≡ Some rest → Starred rest (further (along t) (pattern, b ∷ t) p).1
greedy_on t pattern rest left before b None is on cut matches star =
    star_more rest before left (b ∷ t) cut (subst (λ (q : List ℕ). Matches q left) (star_is_first pattern rest star) matches)
greedy_on t pattern rest left before b (Some p) is on cut matches star =
    let taken = byte_after pattern left b p is matches in
    let same : taken.rest ≡ p = same_left pattern taken.first b taken.rest p taken.after is in
    let behind = behind_one b taken.first t before taken.left (cut ∙ ap (λ x. before ++ x) taken.cut) in
    on p taken.left behind.before behind.is (subst (λ (q : List ℕ). Matches q taken.left) same taken.matches) star

-- If a pattern matches the end of a text, and walking along the whole text leads to a star, this
-- star can take the rest.
greedy : (t pattern left before rest : List ℕ) → t ≡ before ++ left → Matches pattern left → after_star (along t pattern).0 ≡ Some rest → Starred rest (along t pattern).1
unfolding along
greedy [] pattern left before rest cut matches star =
    let none : left ≡ [] = nil_behind before left cut in
    subst (λ (x : List ℕ). Starred rest x) none (subst (λ (q : List ℕ). Matches q left) (star_is_first pattern rest star) matches)
greedy (b ∷ t) pattern left before rest cut matches star =
    greedy_on t pattern rest left before b (after_byte pattern b) refl (λ q more front is m s. greedy t q more front rest is m s) cut matches star

-- One step of the matcher leads to a star,
pub star_after_star : (pattern text rest : List ℕ) → after_star (along text pattern).0 ≡ Some rest → Starred pattern text → Starred rest (along text pattern).1
star_after_star pattern text rest star matches =
    let takes = star_takes pattern text matches in
    greedy text pattern takes.left takes.bytes rest takes.cut takes.matches star

pub star_led_on : (pattern text rest : List ℕ) → after_star (along text pattern).0 ≡ Some rest → Starred rest (along text pattern).1 → Matches pattern text
star_led_on pattern text rest star matches =
    along_matched text pattern (subst (λ (q : List ℕ). Matches q (along text pattern).1) (sym (star_is_first (along text pattern).0 rest star)) matches)

pub star_to_star : (pattern text rest : List ℕ) → after_star (along text pattern).0 ≡ Some rest → Starred rest (along text pattern).1 → Starred pattern text
star_to_star pattern text rest star matches = star_before pattern [] text text refl (star_led_on pattern text rest star matches)

pub star_led_to : (pattern text rest : List ℕ) → after_star (along text pattern).0 ≡ Some rest → Matches pattern text → Starred rest (along text pattern).1
star_led_to pattern text rest star matches =
    subst (λ (q : List ℕ). Matches q (along text pattern).1) (star_is_first (along text pattern).0 rest star) (along_matches text pattern matches)

-- or to the ends of both pattern and text,
pub both_ended : (pattern text : List ℕ) → are_ended (along text pattern).0 (along text pattern).1 ≡ true → Matches pattern text
both_ended pattern text ended = along_matched text pattern (ended_matches (along text pattern).0 (along text pattern).1 ended)

-- or it fails, and the next step begins one byte later.
pub star_skips : (pattern : List ℕ) (b : ℕ) (text : List ℕ) → after_star (along (b ∷ text) pattern).0 ≡ None → are_ended (along (b ∷ text) pattern).0 (along (b ∷ text) pattern).1 ≡ false → Starred pattern (b ∷ text) → Starred pattern text
star_skips pattern b text star ended matches =
    let takes = star_takes pattern (b ∷ text) matches in
    elim takes.bytes as (λ (bytes : List ℕ). b ∷ text ≡ bytes ++ takes.left → Starred pattern text) [
      | [] ↦ λ cut. absurd (stuck_matches_none (b ∷ text) pattern star ended (subst (λ (x : List ℕ). Matches pattern x) (sym cut) takes.matches))
      | x ∷ bytes ↦ λ cut. star_before pattern bytes takes.left text (cc) takes.matches
    ] takes.cut

pub star_skipped : (pattern : List ℕ) (b : ℕ) (text : List ℕ) → Starred pattern text → Starred pattern (b ∷ text)
star_skipped pattern b text matches = star_more pattern (b ∷ []) text (b ∷ text) refl matches

pub star_at_end : (pattern : List ℕ) → after_star (along [] pattern).0 ≡ None → are_ended (along [] pattern).0 (along [] pattern).1 ≡ false → Starred pattern [] → ⊥
star_at_end pattern star ended matches =
    let takes = star_takes pattern [] matches in
    stuck_matches_none [] pattern star ended (subst (λ (x : List ℕ). Matches pattern x) (nil_behind takes.bytes takes.left takes.cut) takes.matches)
