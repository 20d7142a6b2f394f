-- The converse of what is at the front of some bytes: which bytes have such a front.
use Rattle.std.proofs.Common.{append_assoc, append-nil, ◌≡◌, ◌≢◌, ℕ, zero, suc, ◌-◌, ◌≤◌, List, [], ◌∷◌, ◌++◌, length, Option, Some, refl, sym, ap, ◌∙◌, subst, inl, inr, arith}
use Rattle.std.specs.Prelude.{◌==◌}
use Rattle.std.proofs.lemmas.Bool.{cases_Bool, eqb-false, eqb-true}
use Rattle.std.proofs.lemmas.List.Elements.{All-cons, All-nil}
use Rattle.byte_streams.specs.Lines.{Front, Whole, Last, Long, front_line, after_byte, IsFront}
use Rattle.byte_streams.specs.Streams.{HasNoLineEnd, StopsAt, Takes}
use Rattle.byte_streams.specs.declared.lines.Line.{Line}
use Rattle.byte_streams.specs.declared.lines.Line.TheVariants as lines
use Rattle.byte_streams.proofs.Pieces.{front_line-byte, front_line-end, front_line-full, front_line-line_end, line_is_open}

-- a line without its line end, which isn't too long
pub record IsLine (limit : ℕ) (line : List ℕ) : Type 0 where
  pub clean : HasNoLineEnd line
  pub few : length line ≤ limit

no_line : (limit : ℕ) → IsLine limit []
no_line limit = record { clean = All-nil (λ b. b ≢ 10); few = omega arith }

longer : (limit b : ℕ) (line : List ℕ) → b ≢ 10 → IsLine limit line → IsLine (suc limit) (b ∷ line)
longer limit b line other is = record { clean = All-cons (λ b. b ≢ 10) b line other is.clean; few = omega (arith, is.few) }

whole_parts : {line line' rest rest' : List ℕ} → Whole line rest ≡ Whole line' rest' → (line ≡ line') × (rest ≡ rest')
whole_parts is = (cc, cc)

last_part : {line line' : List ℕ} → Last line ≡ Last line' → line ≡ line'
last_part is = cc

-- which bytes have this front
abbrev pub HasFront : ℕ → List ℕ → Front → Type 0
HasFront limit bytes (Whole line rest) = (bytes ≡ line ++ 10 ∷ rest) × IsLine limit line
HasFront limit bytes (Last line) = (bytes ≡ line) × IsLine limit line
HasFront limit bytes Long = Unit {0}

front_behind : (limit b : ℕ) (bs : List ℕ) → b ≢ 10 → (front : Front) → HasFront limit bs front → HasFront (suc limit) (b ∷ bs) (after_byte b front)
front_behind limit b bs other (Whole line rest) has = (ap (λ l. b ∷ l) has.0, longer limit b line other has.1)
front_behind limit b bs other (Last line) has = (ap (λ l. b ∷ l) has.0, longer limit b line other has.1)
front_behind limit b bs other Long has = tt

pub has_front : (limit : ℕ) (bytes : List ℕ) → HasFront limit bytes (front_line limit bytes)
has_front limit [] = subst (HasFront limit []) (sym (front_line-end limit)) (refl, no_line limit)
has_front limit (b ∷ bs) = elim (cases_Bool (b == 10)) [
  | inl ends ↦ subst (HasFront limit (b ∷ bs)) (sym (ap (λ c. front_line limit (c ∷ bs)) (eqb-true b 10 ends) ∙ front_line-line_end limit bs)) (ap (λ c. c ∷ bs) (eqb-true b 10 ends), no_line limit)
  | inr other ↦ has_more limit b bs (eqb-false b 10 other) (λ room. has_front room bs)
]
  where
    has_more : (limit b : ℕ) (bs : List ℕ) → b ≢ 10 → ((room : ℕ) → HasFront room bs (front_line room bs)) → HasFront limit (b ∷ bs) (front_line limit (b ∷ bs))
    has_more zero b bs other later = subst (HasFront zero (b ∷ bs)) (sym (front_line-full b bs other)) tt
    has_more (suc room) b bs other later =
        let less : suc room - 1 ≡ room = omega arith in
        subst (HasFront (suc room) (b ∷ bs)) (sym (front_line-byte (suc room) b bs other (omega arith) ∙ ap (λ n. after_byte b (front_line n bs)) less)) (front_behind room b bs other (front_line room bs) (later room))

pub whole_is : (limit : ℕ) (bytes line rest : List ℕ) → front_line limit bytes ≡ Whole line rest → (bytes ≡ line ++ 10 ∷ rest) × IsLine limit line
whole_is limit bytes line rest is = subst (HasFront limit bytes) is (has_front limit bytes)

pub last_is : (limit : ℕ) (bytes line : List ℕ) → front_line limit bytes ≡ Last line → (bytes ≡ line) × IsLine limit line
last_is limit bytes line is = subst (HasFront limit bytes) is (has_front limit bytes)

-- a line that was read ends with the last byte that was read, or at the end of the bytes
pub line_stops : (limit : ℕ) (old new : Option (List ℕ)) (line : Line) → ((bytes : List ℕ) → old ≡ Some bytes → IsFront line new (front_line limit bytes)) → Takes old new (StopsAt (λ taken. front_line limit taken ≡ Last taken))
line_stops limit old new line reads bytes e = stops line (front_line limit bytes) (has_front limit bytes) (reads bytes e)
  where
    stops : (line : Line) (front : Front) → HasFront limit bytes front → IsFront line new front → (taken rest : List ℕ) × (bytes ≡ taken ++ rest) × (new ≡ Some rest) × StopsAt (λ taken. front_line limit taken ≡ Last taken) taken rest
    stops (lines.Whole text) (Whole line rest) has is =
        (line ++ 10 ∷ [], rest, has.0 ∙ sym (append_assoc line (10 ∷ []) rest), is.1, inr (line, 10, refl, line_is_open limit line has.1.clean has.1.few))
    stops (lines.Whole text) (Last line) has is = absurd is
    stops (lines.Whole text) Long has is = absurd is
    stops (lines.Last text) (Whole line rest) has is = absurd is
    stops (lines.Last text) (Last line) has is = (line, [], has.0 ∙ sym (append-nil line), is.1, inl (line_is_open limit line has.1.clean has.1.few, refl))
    stops (lines.Last text) Long has is = absurd is
