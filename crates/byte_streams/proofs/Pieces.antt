-- A line, piece by piece.
use Rattle.std.proofs.Common.{◌≡◌, ◌≢◌, ℕ, zero, suc, ◌+◌, ◌-◌, ◌<◌, ◌≤◌, List, [], ◌∷◌, ◌++◌, length, Option, Some, refl, sym, ap, ◌∙◌, append_assoc, append-nil, length-append, arith, subst, inr, All}
use Rattle.std.proofs.lemmas.Grind.{common_steps}
use Rattle.std.proofs.lemmas.List.Elements.{All-head, All-tail, All-cons, All-nil, All-append}
use Rattle.std.specs.Io.KnownBytes.{Keeps}
use Rattle.byte_streams.specs.Streams.{GivesSome, HasNoLineEnd, StopsAt, Takes}
use Rattle.byte_streams.specs.Lines.{Front, Whole, Last, Long, front_line, after_byte}
use Rattle.byte_streams.specs.Pieces.{after_bytes, AddsPiece}
use Rattle.byte_streams.proofs.Given.{gave_bytes, at_end, kept_bytes}
use Rattle.byte_streams.proofs.Blocks.{Reached}
use Rattle.byte_streams.specs.declared.lines.Growth.{Growth}
use Rattle.byte_streams.specs.declared.lines.Growth.TheVariants as growths

pub front_line-end : (room : ℕ) → front_line room [] ≡ Last []
unfolding front_line
front_line-end room = refl

pub front_line-line_end : (room : ℕ) (bs : List ℕ) → front_line room (10 ∷ bs) ≡ Whole [] bs
unfolding front_line
front_line-line_end room bs = refl

pub front_line-full : (b : ℕ) (bs : List ℕ) → b ≢ 10 → front_line 0 (b ∷ bs) ≡ Long
unfolding front_line
front_line-full b bs other = grind (arith, common_steps)

pub front_line-byte : (room b : ℕ) (bs : List ℕ) → b ≢ 10 → 0 < room → front_line room (b ∷ bs) ≡ after_byte b (front_line (room - 1) bs)
unfolding front_line
front_line-byte room b bs other some = grind (arith, common_steps)

after_bytes-nil : (front : Front) → after_bytes [] front ≡ front
after_bytes-nil (Whole line rest) = refl
after_bytes-nil (Last line) = refl
after_bytes-nil Long = refl

after_bytes-cons : (b : ℕ) (bs : List ℕ) (front : Front) → after_bytes (b ∷ bs) front ≡ after_byte b (after_bytes bs front)
after_bytes-cons b bs (Whole line rest) = refl
after_bytes-cons b bs (Last line) = refl
after_bytes-cons b bs Long = refl

after_bytes-line_end : (text : List ℕ) (room : ℕ) (rest : List ℕ) → after_bytes text (front_line room (10 ∷ rest)) ≡ Whole text rest
after_bytes-line_end text room rest = ap (after_bytes text) (front_line-line_end room rest) ∙ ap (λ l. Whole l rest) (append-nil text)

-- bytes that contain no line end
front_line-append : (line rest : List ℕ) (room : ℕ) → HasNoLineEnd line → length line ≤ room → front_line room (line ++ rest) ≡ after_bytes line (front_line (room - length line) rest)
front_line-append [] rest room clean few =
    let all : room - length {A = ℕ} [] ≡ room = omega arith in
    sym (after_bytes-nil (front_line (room - length {A = ℕ} []) rest) ∙ ap (λ n. front_line n rest) all)
front_line-append (b ∷ bs) rest room clean few =
    let other : b ≢ 10 = All-head (λ b. b ≢ 10) b bs clean in
    let less : room - 1 - length bs ≡ room - length (b ∷ bs) = omega arith in
    front_line-byte room b (bs ++ rest) other (omega arith)
    ∙ ap (after_byte b) (front_line-append bs rest (room - 1) (All-tail (λ b. b ≢ 10) b bs clean) (omega arith))
    ∙ sym (after_bytes-cons b bs _) ∙ ap (λ n. after_bytes (b ∷ bs) (front_line n rest)) less

pub front_line-long : (line rest : List ℕ) (room : ℕ) → HasNoLineEnd line → room < length line → front_line room (line ++ rest) ≡ Long
front_line-long [] rest room clean many = absurd (omega arith)
front_line-long (b ∷ bs) rest zero clean many = front_line-full b (bs ++ rest) (All-head (λ b. b ≢ 10) b bs clean)
front_line-long (b ∷ bs) rest (suc room) clean many =
    let less : suc room - 1 ≡ room = omega arith in
    front_line-byte (suc room) b (bs ++ rest) (All-head (λ b. b ≢ 10) b bs clean) (omega arith)
    ∙ ap (λ n. after_byte b (front_line n (bs ++ rest))) less ∙ ap (after_byte b) (front_line-long bs rest room (All-tail (λ b. b ≢ 10) b bs clean) (omega arith))

module _ (limit : ℕ) (text : List ℕ) (clean : HasNoLineEnd text) where
  -- until a line end is read, nothing is decided
  pub line_is_open : length text ≤ limit → front_line limit text ≡ Last text
  line_is_open few =
      ap (front_line limit) (sym (append-nil text)) ∙ front_line-append text [] limit clean few
      ∙ ap (after_bytes text) (front_line-end (limit - length text)) ∙ ap (λ l. Last l) (append-nil text)

  pub line_is_whole : (rest : List ℕ) → length text ≤ limit → front_line limit (text ++ 10 ∷ rest) ≡ Whole text rest
  line_is_whole rest few = front_line-append text (10 ∷ rest) limit clean few ∙ after_bytes-line_end text (limit - length text) rest

-- a nonempty list of bytes has a last one
last_of : (xs : List ℕ) → 0 < length xs → (before : List ℕ) × (last : ℕ) × (xs ≡ before ++ last ∷ [])
last_of [] some = absurd (omega arith)
last_of (x ∷ []) some = ([], x, refl)
last_of (x ∷ y ∷ xs) some =
    let at = last_of (y ∷ xs) (omega arith) in
    (x ∷ at.0, at.1, ap (λ l. x ∷ l) at.2)

All-before : (P : ℕ → Type 0) (before : List ℕ) (last : ℕ) (xs : List ℕ) → xs ≡ before ++ last ∷ [] → All P xs → All P before
All-before P [] last xs is all = All-nil P
All-before P (b ∷ before) last [] is all = cc
All-before P (b ∷ before) last (x ∷ xs) is all =
    let same : x ≡ b = cc (is) in
    let rest : xs ≡ before ++ last ∷ [] = cc (is) in
    All-cons P b before (subst P same (All-head P x xs all)) (All-before P before last xs rest (All-tail P x xs all))

-- the byte that makes a line too long is the last one read
pub stops_too_long : (limit : ℕ) (text rest : List ℕ) → HasNoLineEnd text → length text ≡ limit + 1 → StopsAt (λ taken. front_line limit taken ≡ Last taken) text rest
stops_too_long limit text rest clean long =
    let at = last_of text (omega (arith, long)) in
    let few : length at.0 ≤ limit = omega (arith, long, ap length at.2, length-append at.0 (at.1 ∷ [])) in
    inr (at.0, at.1, at.2, line_is_open limit at.0 (All-before (λ b. b ≢ 10) at.0 at.1 text at.2 clean) few)

module _ (first mid new : Option (List ℕ)) (limit : ℕ) (text : List ℕ) (so_far : Reached first mid text) (clean : HasNoLineEnd text) (within : length text ≤ limit) where
  -- the source failed
  pub stopped_open : Keeps mid new → Takes first new (λ taken rest. front_line limit taken ≡ Last taken)
  stopped_open kept bytes e =
      let at = so_far bytes e in
      (text, at.0, sym at.2, kept_bytes mid new kept at.0 at.1, line_is_open limit text clean within)

  module _ (piece : List ℕ) (gives : GivesSome mid new piece) where
    pub reached_end : piece ≡ [] → (bytes : List ℕ) → first ≡ Some bytes → (new ≡ Some []) × (front_line limit bytes ≡ Last text)
    reached_end none bytes e =
        let at = so_far bytes e in
        let gave = gave_bytes mid new piece gives.0 at.0 at.1 in
        let left : at.0 ≡ [] = at_end mid (gives.1 none) at.0 at.1 in
        let over : gave.0 ≡ [] = ap (λ p. p ++ gave.0) (sym none) ∙ sym gave.2 ∙ left in
        let all : bytes ≡ text = sym at.2 ∙ ap (λ l. text ++ l) left ∙ append-nil text in
        (gave.1 ∙ ap (λ l. Some l) over, ap (front_line limit) all ∙ line_is_open limit text clean within)

    module _ (text' : List ℕ) (made : Growth) (adds : AddsPiece limit text text' piece made) where
      pub reached_line_end : made ≡ growths.Whole → length text' ≤ limit → (bytes : List ℕ) → first ≡ Some bytes → (rest : List ℕ) × (new ≡ Some rest) × (front_line limit bytes ≡ Whole text' rest)
      reached_line_end whole few bytes e =
          let ended : AddsPiece limit text text' piece growths.Whole = subst (λ m. AddsPiece limit text text' piece m) whole adds in
          let at = so_far bytes e in
          let gave = gave_bytes mid new piece gives.0 at.0 at.1 in
          let all : bytes ≡ text' ++ 10 ∷ gave.0 =
          sym at.2 ∙ ap (λ l. text ++ l) (gave.2 ∙ ap (λ p. p ++ gave.0) ended.2 ∙ append_assoc ended.0 (10 ∷ []) gave.0)
          ∙ sym (append_assoc text ended.0 (10 ∷ gave.0)) ∙ ap (λ l. l ++ 10 ∷ gave.0) (sym ended.3) in
          let both : HasNoLineEnd text' = subst HasNoLineEnd (sym ended.3) (All-append (λ b. b ≢ 10) text ended.0 clean ended.1) in
          (gave.0, gave.1, ap (front_line limit) all ∙ line_is_whole limit text' both gave.0 few)

      module _ (long : made ≡ growths.TooLong) where
        too_long : AddsPiece limit text text' piece growths.TooLong
        too_long = subst (λ m. AddsPiece limit text text' piece m) long adds

        both_clean : HasNoLineEnd (text ++ piece)
        both_clean = All-append (λ b. b ≢ 10) text piece clean too_long.0

        pub reached_limit : (bytes : List ℕ) → first ≡ Some bytes → front_line limit bytes ≡ Long
        reached_limit bytes e =
            let at = so_far bytes e in
            let gave = gave_bytes mid new piece gives.0 at.0 at.1 in
            ap (front_line limit) (sym at.2 ∙ ap (λ l. text ++ l) gave.2 ∙ sym (append_assoc text piece gave.0))
            ∙ front_line-long (text ++ piece) gave.0 limit both_clean (omega (arith, length-append text piece, too_long.1))

        pub stopped_long : length piece ≤ limit - length text + 1 → Takes first new (StopsAt (λ taken. front_line limit taken ≡ Last taken))
        stopped_long short bytes e =
            let at = so_far bytes e in
            let gave = gave_bytes mid new piece gives.0 at.0 at.1 in
            (text ++ piece, gave.0, sym at.2 ∙ ap (λ l. text ++ l) gave.2 ∙ sym (append_assoc text piece gave.0), gave.1, stops_too_long limit (text ++ piece) gave.0 both_clean (omega (arith, length-append text piece, too_long.1, short, within)))
