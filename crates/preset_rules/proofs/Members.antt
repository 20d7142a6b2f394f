-- The members of a set, one after another.
use Rattle.std.proofs.Common.{◌≡◌, ◌-◌, ◌<◌, ◌≤◌, refl, sym, ap, ◌∙◌, ℕ, arith, length, take, drop, get_or, Bool, true, false, ◌==◌, ◌||◌, cond, List, [], ◌∷◌, Some, None}
use Rattle.std.proofs.lemmas.Grind.{common_steps}
use Rattle.preset_rules.specs.Patterns.{is_member, is_between}
use Rattle.preset_rules.specs.Walk.{range_end, first_member}

or_false : (a : Bool) → a ≡ a || false
or_false true = refl
or_false false = refl

pub members_step : (one b : ℕ) (more : List ℕ) → is_member (one ∷ more) b ≡ (first_member one b more (range_end more)).0 || is_member (first_member one b more (range_end more)).1 b
unfolding is_member
members_step one b [] = or_false (b == one)
members_step one b (y ∷ []) =
    elim (y == 45) as (λ c. is_member (one ∷ (y ∷ [])) b ≡ (first_member one b (y ∷ []) (cond c None None)).0 || is_member (first_member one b (y ∷ []) (cond c None None)).1 b) [ true ↦ refl | false ↦ refl ]
members_step one b (y ∷ (z ∷ rest)) =
    elim (y == 45) as (λ c. cond c (is_between one z b || is_member rest b) (b == one || is_member (y ∷ (z ∷ rest)) b)
    ≡ (first_member one b (y ∷ (z ∷ rest)) (cond c (Some (z, rest)) None)).0 || is_member (first_member one b (y ∷ (z ∷ rest)) (cond c (Some (z, rest)) None)).1 b) [ true ↦ refl | false ↦ refl ]

pub no_members : (members : List ℕ) (b : ℕ) → length members < 1 → is_member members b ≡ false
unfolding is_member
no_members [] b none = refl
no_members (x ∷ xs) b none = absurd (omega arith)

-- a list with its first element split off
pub cons_parts : (xs : List ℕ) → 1 ≤ length xs → xs ≡ get_or xs 0 0 ∷ take (length xs - 1) (drop 1 xs)
cons_parts [] some = absurd (omega arith)
cons_parts (x ∷ xs) some = grind (arith, common_steps)

pub members_at : (members : List ℕ) (b : ℕ) (found : Bool) (rest more : List ℕ) → 1 ≤ length members → more ≡ take (length members - 1) (drop 1 members)
    → found ≡ (first_member (get_or members 0 0) b more (range_end more)).0 → rest ≡ (first_member (get_or members 0 0) b more (range_end more)).1
    → is_member members b ≡ found || is_member rest b
members_at members b found rest more some is one two =
    let cut : members ≡ get_or members 0 0 ∷ more = cons_parts members some ∙ ap (λ m. get_or members 0 0 ∷ m) (sym is) in
    ap (λ m. is_member m b) cut ∙ members_step (get_or members 0 0) b more ∙ sym (ap (λ (f : Bool). f || is_member rest b) one ∙ ap (λ (r : List ℕ). (first_member (get_or members 0 0) b more (range_end more)).0 || is_member r b) two)
