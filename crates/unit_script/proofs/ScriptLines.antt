-- A script that is built from lines is read as their calls, followed by those of its tail.
use Rattle.std.proofs.Common.{◌≡◌, ◌≢◌, ◌<◌, ◌≤◌, ◌+◌, ◌-◌, ℕ, zero, suc, true, false, not, ◌==◌, cond, List, [], ◌∷◌, ◌++◌, length, Option, None, Some, Result, Ok, Err, refl, sym, ap, ◌∙◌, arith, inl, inr}
use Rattle.std.specs.Prelude.{codes, nat_le}
use Rattle.std.specs.List.{list_all}
use Rattle.std.specs.Option.{option_map_or}
use Rattle.std.proofs.lemmas.Bool.{cases_Bool, and_parts, leb-true, eqb-true, eq-eqb, false≢true}
use Rattle.std.proofs.lemmas.List.{append-nil, append_assoc}
use Rattle.byte_streams.specs.Lines.{Front, Whole, Last, front_line}
use Rattle.byte_streams.specs.Streams.{HasNoLineEnd}
use Rattle.std.proofs.lemmas.List.Elements.{All-cons, All-nil}
use Rattle.byte_streams.proofs.Pieces.{front_line-end, front_line-line_end, front_line-full, front_line-long, line_is_open, line_is_whole}
use Rattle.link_tree.specs.Inventory.{◌>>=◌}
use Rattle.unit_script.specs.declared.call.Call.{Call}
use Rattle.unit_script.specs.declared.reason.Reason.{Reason}
use Rattle.unit_script.specs.declared.reason.Reason.TheVariants.{LineTooLong, TooManyLines}
use Rattle.unit_script.specs.declared.reason.ScriptFault.{ScriptFault}
use Rattle.unit_script.specs.declared.reason.ScriptFault.TheVariants.{Bad}
use Rattle.unit_script.specs.Script.{words_of, call_of_line, call_of_front, in_line, with_call, is_no_line, calls_at, at_limit, after_calls_line, script_of}
use Rattle.script_words.specs.Words.{is_line_byte, lines_text}
use Rattle.unit_script.specs.Laws.{is_line, calls_of, ScriptIsLines, LastLineNeedsNoEnd, LongLineIsTold, OneLineMoreIsTold}
use Rattle.unit_script.proofs.Calls.{calls_at-bad, calls_at-end, calls_at-limit, calls_at-step}

-- the bytes of a line, none of which is a line end
clean_line : (line : List ℕ) → list_all is_line_byte line ≡ true → HasNoLineEnd line
clean_line [] all = All-nil (λ b. b ≢ 10)
clean_line (b ∷ bs) all =
    let parts = and_parts (is_line_byte b) (list_all is_line_byte bs) all in
    All-cons (λ b. b ≢ 10) b bs (λ same. false≢true (sym (ap not (eq-eqb b 10 same)) ∙ parts.0)) (clean_line bs parts.1)

pub empty_line : call_of_line [] ≡ Ok None
unfolding call_of_line words_of
empty_line = refl

-- if nothing remains there are no more calls
pub no_line : (more number : ℕ) (calls : List Call) → calls_at more number calls [] ≡ Ok calls
no_line zero number calls = calls_at-limit zero number calls [] refl ∙ ap (at_limit number calls) (front_line-end 0)
no_line (suc more) number calls =
    calls_at-end (suc more) number calls None [] (omega arith)
    (ap call_of_front (front_line-end 65536) ∙ ap (λ (r : Result (Option Call) Reason). r >>= λ call. Ok (call, None)) empty_line)

-- a line after which no more are allowed
no_room : (bytes : List ℕ) → bytes ≢ [] → is_no_line (front_line 0 bytes) ≡ false
no_room [] some = absurd (some refl)
no_room (b ∷ bs) some = elim (cases_Bool (b == 10)) [
  | inl end ↦ ap (λ c. is_no_line (front_line 0 (c ∷ bs))) (eqb-true b 10 end) ∙ ap is_no_line (front_line-line_end 0 bs)
  | inr other ↦ ap is_no_line (front_line-full b bs (λ same. false≢true (sym other ∙ eq-eqb b 10 same)))
]

-- a script is the line `== calls` followed by the calls of the rest
pub calls_behind : (text : List ℕ) → script_of (codes "== calls\n" ++ text) ≡ calls_at 2000000 1 [] text
calls_behind text =
    ap (λ (f : Front). after_calls_line f >>= λ rest. option_map_or (calls_at 2000000 1 []) rest (Ok []))
    (line_is_whole 8 (codes "== calls") (clean_line (codes "== calls") refl) text (omega arith))

module _ (tail : List ℕ) where
  -- the calls of the lines, followed by those of the tail
  abbrev then_tail : ℕ → ℕ → List Call → Result (List Call) ScriptFault → Result (List Call) ScriptFault
  then_tail more number calls read = read >>= λ found. calls_at more number (calls ++ found) tail

  with_call-behind : (calls found : List Call) (call : Option Call) → with_call calls call ++ found ≡ calls ++ (with_call [] call ++ found)
  with_call-behind calls found None = refl
  with_call-behind calls found (Some call) = append_assoc calls (call ∷ []) found

  further : (more number n : ℕ) (calls : List Call) (call : Option Call) (read : Result (List Call) ScriptFault)
      → then_tail (more - 1 - n) (number + 1 + n) (with_call calls call) read ≡ then_tail (more - suc n) (number + suc n) calls (read >>= λ found. Ok (with_call [] call ++ found))
  further more number n calls call (Err fault) = refl
  further more number n calls call (Ok found) =
      let fewer : more - 1 - n ≡ more - suc n = omega arith in
      let next : number + 1 + n ≡ number + suc n = omega arith in
      ap (λ k. calls_at k (number + 1 + n) (with_call calls call ++ found) tail) fewer ∙ ap (λ k. calls_at (more - suc n) k (with_call calls call ++ found) tail) next
      ∙ ap (λ cs. calls_at (more - suc n) (number + suc n) cs tail) (with_call-behind calls found call)

  front_is : (line rest : List ℕ) → is_line line ≡ true → front_line 65536 ((line ++ codes "\n") ++ rest) ≡ Whole line rest
  front_is line rest is =
      let parts = and_parts (list_all is_line_byte line) (nat_le (length line) 65536) is in
      ap (front_line 65536) (append_assoc line (codes "\n") rest) ∙ line_is_whole 65536 line (clean_line line parts.0) rest (leb-true (length line) 65536 parts.1)

  lines_then : (lines : List (List ℕ)) (more number : ℕ) (calls : List Call) → list_all is_line lines ≡ true → length lines ≤ more
      → calls_at more number calls (lines_text lines ++ tail) ≡ then_tail (more - length lines) (number + length lines) calls (calls_of number lines)
  lines_then [] more number calls all few =
      let same : more ≡ more - 0 = omega arith in
      let here : number ≡ number + 0 = omega arith in
      ap (λ k. calls_at k number calls tail) same ∙ ap (λ k. calls_at (more - 0) k calls tail) here ∙ ap (λ cs. calls_at (more - 0) (number + 0) cs tail) (sym (append-nil calls))
  lines_then (line ∷ lines) more number calls all few =
      let parts = and_parts (is_line line) (list_all is_line lines) all in
      let rest = lines_text lines ++ tail in
      let front : front_line 65536 (lines_text (line ∷ lines) ++ tail) ≡ Whole line rest = ap (front_line 65536) (append_assoc (line ++ codes "\n") (lines_text lines) tail) ∙ front_is line rest parts.0 in
      by_line (call_of_line line) refl front (λ read. lines_then lines (more - 1) (number + 1) read parts.1 (omega (arith, few)))
    where
      after_all : Result (Option Call) Reason → Result (List Call) ScriptFault
      after_all read = then_tail (more - suc (length lines)) (number + suc (length lines)) calls (in_line number read >>= λ call. (calls_of (number + 1) lines >>= λ found. Ok (with_call [] call ++ found)))

      by_line : (read : Result (Option Call) Reason) → call_of_line line ≡ read → front_line 65536 (lines_text (line ∷ lines) ++ tail) ≡ Whole line (lines_text lines ++ tail)
          → ((before : List Call) → calls_at (more - 1) (number + 1) before (lines_text lines ++ tail) ≡ then_tail (more - 1 - length lines) (number + 1 + length lines) before (calls_of (number + 1) lines))
          → calls_at more number calls (lines_text (line ∷ lines) ++ tail) ≡ then_tail (more - length (line ∷ lines)) (number + length (line ∷ lines)) calls (calls_of number (line ∷ lines))
      by_line (Ok call) is front next =
          calls_at-step more number calls call (lines_text (line ∷ lines) ++ tail) (lines_text lines ++ tail) (omega (arith, few))
          (ap call_of_front front ∙ ap (λ (r : Result (Option Call) Reason). r >>= λ c. Ok (c, Some (lines_text lines ++ tail))) is)
          ∙ next (with_call calls call)
          ∙ further more number (length lines) calls call (calls_of (number + 1) lines)
          ∙ sym (ap after_all is)
      by_line (Err reason) is front next =
          calls_at-bad more number calls (lines_text (line ∷ lines) ++ tail) reason (omega (arith, few))
          (ap call_of_front front ∙ ap (λ (r : Result (Option Call) Reason). r >>= λ c. Ok (c, Some (lines_text lines ++ tail))) is)
          ∙ sym (ap after_all is)

  script_then : (lines : List (List ℕ)) → list_all is_line lines ≡ true → length lines ≤ 2000000
      → script_of (codes "== calls\n" ++ (lines_text lines ++ tail)) ≡ then_tail (2000000 - length lines) (1 + length lines) [] (calls_of 1 lines)
  script_then lines all few = calls_behind (lines_text lines ++ tail) ∙ lines_then lines 2000000 1 [] all few

same_after : {A B : Type 0} (read : Result A ScriptFault) (f g : A → Result B ScriptFault) → ((a : A) → f a ≡ g a) → (read >>= f) ≡ (read >>= g)
same_after (Ok a) f g same = same a
same_after (Err fault) f g same = refl

nothing_more : (more number : ℕ) (read : Result (List Call) ScriptFault) → (read >>= λ found. calls_at more number ([] ++ found) []) ≡ read
nothing_more more number (Ok found) = no_line more number found
nothing_more more number (Err fault) = refl

pub script_is_lines : ScriptIsLines
script_is_lines lines all few =
    ap (λ text. script_of (codes "== calls\n" ++ text)) (sym (append-nil (lines_text lines)))
    ∙ script_then [] lines all few ∙ nothing_more (2000000 - length lines) (1 + length lines) (calls_of 1 lines)

pub long_line_is_told : LongLineIsTold
long_line_is_told lines long rest all few bytes much =
    script_then (long ++ rest) lines all (omega (arith, few))
    ∙ same_after (calls_of 1 lines) _ _ (λ found.
    calls_at-bad (2000000 - length lines) (1 + length lines) found (long ++ rest) LineTooLong (omega (arith, few)) (ap call_of_front (front_line-long long rest 65536 (clean_line long bytes) much))
    ∙ (let next : 1 + length lines ≡ length lines + 1 = omega arith in ap (λ n. Err (Bad n LineTooLong)) next))

pub one_line_more_is_told : OneLineMoreIsTold
one_line_more_is_told lines rest all many some =
    script_then rest lines all (omega (arith, many))
    ∙ same_after (calls_of 1 lines) _ _ (λ found.
    calls_at-limit (2000000 - length lines) (1 + length lines) found rest (omega (arith, many))
    ∙ (let over : 1 + length lines ≡ 2000001 = omega (arith, many) in ap (λ n. at_limit n found (front_line 0 rest)) over ∙ ap (λ b. cond b (Ok found) (Err (Bad 2000001 TooManyLines))) (no_room rest some)))

with_call-last : (calls : List Call) (call : Option Call) → with_call calls call ≡ calls ++ with_call [] call
with_call-last calls None = sym (append-nil calls)
with_call-last calls (Some call) = refl

-- one more line after all others
abbrev and_last : ℕ → Result (Option Call) Reason → Result (List Call) ScriptFault → Result (List Call) ScriptFault
and_last number read before = before >>= λ found. (in_line number read >>= λ call. Ok (found ++ with_call [] call))

before_last : (number : ℕ) (first : Option Call) (read : Result (Option Call) Reason) (later : Result (List Call) ScriptFault)
    → (and_last number read later >>= λ found. Ok (with_call [] first ++ found)) ≡ and_last number read (later >>= λ found. Ok (with_call [] first ++ found))
before_last number first read (Err fault) = refl
before_last number first (Err reason) (Ok found) = refl
before_last number first (Ok call) (Ok found) = ap (λ cs. Ok cs) (sym (append_assoc (with_call [] first) found (with_call [] call)))

only_line : (number : ℕ) (read : Result (Option Call) Reason) → (in_line number read >>= λ call. Ok (with_call [] call ++ [])) ≡ and_last (number + 0) read (Ok [])
only_line number (Ok call) = ap (λ cs. Ok cs) (append-nil (with_call [] call))
only_line number (Err reason) = let here : number ≡ number + 0 = omega arith in ap (λ n. Err (Bad n reason)) here

calls_of-last : (lines : List (List ℕ)) (last : List ℕ) (number : ℕ) → calls_of number (lines ++ last ∷ []) ≡ and_last (number + length lines) (call_of_line last) (calls_of number lines)
calls_of-last [] last number = only_line number (call_of_line last)
calls_of-last (line ∷ lines) last number = by_line (call_of_line line) refl (calls_of-last lines last (number + 1))
  where
    by_line : (read : Result (Option Call) Reason) → call_of_line line ≡ read
        → calls_of (number + 1) (lines ++ last ∷ []) ≡ and_last (number + 1 + length lines) (call_of_line last) (calls_of (number + 1) lines)
        → calls_of number (line ∷ (lines ++ last ∷ [])) ≡ and_last (number + suc (length lines)) (call_of_line last) (calls_of number (line ∷ lines))
    by_line (Err reason) is next =
        ap (λ r. in_line number r >>= λ call. (calls_of (number + 1) (lines ++ last ∷ []) >>= λ found. Ok (with_call [] call ++ found))) is
        ∙ sym (ap (λ r. and_last (number + suc (length lines)) (call_of_line last) (in_line number r >>= λ call. (calls_of (number + 1) lines >>= λ found. Ok (with_call [] call ++ found)))) is)
    by_line (Ok call) is next =
        ap (λ r. in_line number r >>= λ call. (calls_of (number + 1) (lines ++ last ∷ []) >>= λ found. Ok (with_call [] call ++ found))) is
        ∙ ap (λ r. r >>= λ found. Ok (with_call [] call ++ found)) next
        ∙ before_last (number + 1 + length lines) call (call_of_line last) (calls_of (number + 1) lines)
        ∙ (let place : number + 1 + length lines ≡ number + suc (length lines) = omega arith in
        ap (λ n. and_last n (call_of_line last) (calls_of (number + 1) lines >>= λ found. Ok (with_call [] call ++ found))) place)
        ∙ sym (ap (λ r. and_last (number + suc (length lines)) (call_of_line last) (in_line number r >>= λ call. (calls_of (number + 1) lines >>= λ found. Ok (with_call [] call ++ found)))) is)

pub last_line_needs_no_end : LastLineNeedsNoEnd
last_line_needs_no_end lines last all is few =
    script_then last lines all (omega (arith, few))
    ∙ same_after (calls_of 1 lines) _ _ (λ found. by_last found (call_of_line last) refl)
    ∙ sym (calls_of-last lines last 1)
  where
    front : front_line 65536 last ≡ Last last
    front = let parts = and_parts (list_all is_line_byte last) (nat_le (length last) 65536) is in line_is_open 65536 last (clean_line last parts.0) (leb-true (length last) 65536 parts.1)

    by_last : (found : List Call) (read : Result (Option Call) Reason) → call_of_line last ≡ read
        → calls_at (2000000 - length lines) (1 + length lines) found last ≡ (in_line (1 + length lines) (call_of_line last) >>= λ call. Ok (found ++ with_call [] call))
    by_last found (Ok call) is_read =
        calls_at-end (2000000 - length lines) (1 + length lines) found call last (omega (arith, few)) (ap call_of_front front ∙ ap (λ (r : Result (Option Call) Reason). r >>= λ c. Ok (c, None)) is_read)
        ∙ ap (λ cs. Ok cs) (with_call-last found call)
        ∙ sym (ap (λ r. in_line (1 + length lines) r >>= λ c. Ok (found ++ with_call [] c)) is_read)
    by_last found (Err reason) is_read =
        calls_at-bad (2000000 - length lines) (1 + length lines) found last reason (omega (arith, few)) (ap call_of_front front ∙ ap (λ (r : Result (Option Call) Reason). r >>= λ c. Ok (c, None)) is_read)
        ∙ sym (ap (λ r. in_line (1 + length lines) r >>= λ c. Ok (found ++ with_call [] c)) is_read)
