-- Escaped texts: their bytes one after another, and reading bytes back after they are escaped.
use Rattle.std.proofs.Common.{◌≡◌, ◌≤◌, ℕ, ◌+◌, ◌<◌, Bool, true, false, cond, List, [], ◌∷◌, ◌++◌, Option, Some, None, refl, sym, ap, subst, ◌∙◌, drop, get_or, length, inl, inr}
use Rattle.std.specs.Prelude.{◌==◌, codes}
use Rattle.std.specs.List.{list_all}
use Rattle.std.specs.Option.{option_map}
use Rattle.std.proofs.lemmas.List.{drop_more, drop_all, append-nil, append_assoc}
use Rattle.std.proofs.lemmas.Bool.{cases_Bool, eqb-true}
use Rattle.script_words.specs.Escapes.{is_backslash, meant, before, unescaped, escaped, spelled}
use Rattle.script_words.specs.Laws.{EscapedIsRead, EscapedIsWord}
use Rattle.script_words.specs.Words.{is_word_byte}

-- the bytes so far with the remaining ones, if these are known
abbrev pub after : List ℕ → Option (List ℕ) → Option (List ℕ)
after bytes more = option_map (λ rest. bytes ++ rest) more

after-more : (bytes : List ℕ) (c : ℕ) (more : Option (List ℕ)) → after (bytes ++ c ∷ []) more ≡ after bytes (before (Some c) more)
after-more bytes c None = refl
after-more bytes c (Some rest) = ap (λ (bs : List ℕ). Some bs) (append_assoc bytes (c ∷ []) rest)

bad_escape : (bytes : List ℕ) (b : ℕ) (bs : List ℕ) (behind : Bool) → behind ≡ true → meant b ≡ None → after bytes (unescaped behind (b ∷ bs)) ≡ None
unfolding unescaped
bad_escape bytes b bs true is none = ap (λ (o : Option ℕ). after bytes (before o (unescaped false bs))) none
bad_escape bytes b bs false is none = cc

good_escape : (bytes : List ℕ) (b c : ℕ) (bs : List ℕ) (behind : Bool) → behind ≡ true → meant b ≡ Some c → after (bytes ++ c ∷ []) (unescaped false bs) ≡ after bytes (unescaped behind (b ∷ bs))
unfolding unescaped
good_escape bytes b c bs true is some = after-more bytes c (unescaped false bs) ∙ ap (λ (o : Option ℕ). after bytes (before o (unescaped false bs))) (sym some)
good_escape bytes b c bs false is some = cc

backslash : (bytes : List ℕ) (b : ℕ) (bs : List ℕ) (behind : Bool) → behind ≡ false → is_backslash b ≡ true → after bytes (unescaped true bs) ≡ after bytes (unescaped behind (b ∷ bs))
unfolding unescaped
backslash bytes b bs true is here = cc
backslash bytes b bs false is here = ap (λ (t : Bool). after bytes (cond t (unescaped true bs) (before (Some b) (unescaped false bs)))) (sym here)

other_byte : (bytes : List ℕ) (b : ℕ) (bs : List ℕ) (behind : Bool) → behind ≡ false → is_backslash b ≡ false → after (bytes ++ b ∷ []) (unescaped false bs) ≡ after bytes (unescaped behind (b ∷ bs))
unfolding unescaped
other_byte bytes b bs true is here = cc
other_byte bytes b bs false is here = after-more bytes b (unescaped false bs) ∙ ap (λ (t : Bool). after bytes (cond t (unescaped true bs) (before (Some b) (unescaped false bs)))) (sym here)

open_end : (bytes : List ℕ) (behind : Bool) → behind ≡ true → after bytes (unescaped behind []) ≡ None
unfolding unescaped
open_end bytes true is = refl
open_end bytes false is = cc

good_end : (bytes : List ℕ) (behind : Bool) → behind ≡ false → after bytes (unescaped behind []) ≡ Some bytes
unfolding unescaped
good_end bytes true is = cc
good_end bytes false is = ap (λ (bs : List ℕ). Some bs) (append-nil bytes)

module _ (word : List ℕ) (i : ℕ) (bytes : List ℕ) (behind : Bool) (so_far : after bytes (unescaped behind (drop i word)) ≡ unescaped false word) where
  module _ (within : i < length word) where
    here : after bytes (unescaped behind (get_or word i 0 ∷ drop (i + 1) word)) ≡ unescaped false word
    here = ap (λ (bs : List ℕ). after bytes (unescaped behind bs)) (sym (drop_more word i 0 within)) ∙ so_far

    pub reading_fails : behind ≡ true → meant (get_or word i 0) ≡ None → None ≡ unescaped false word
    reading_fails is none = sym (bad_escape bytes (get_or word i 0) (drop (i + 1) word) behind is none) ∙ here

    pub escape_read : (c : ℕ) (bytes' : List ℕ) (behind' : Bool) → behind ≡ true → meant (get_or word i 0) ≡ Some c → bytes' ≡ bytes ++ c ∷ [] → behind' ≡ false → after bytes' (unescaped behind' (drop (i + 1) word)) ≡ unescaped false word
    escape_read c bytes' behind' is some pushed closed =
        ap (λ (bs : List ℕ). after bs (unescaped behind' (drop (i + 1) word))) pushed ∙ ap (λ (t : Bool). after (bytes ++ c ∷ []) (unescaped t (drop (i + 1) word))) closed
        ∙ good_escape bytes (get_or word i 0) c (drop (i + 1) word) behind is some ∙ here

    pub backslash_read : (bytes' : List ℕ) (behind' : Bool) → behind ≡ false → is_backslash (get_or word i 0) ≡ true → bytes' ≡ bytes → behind' ≡ true → after bytes' (unescaped behind' (drop (i + 1) word)) ≡ unescaped false word
    backslash_read bytes' behind' is found same opened =
        ap (λ (bs : List ℕ). after bs (unescaped behind' (drop (i + 1) word))) same ∙ ap (λ (t : Bool). after bytes (unescaped t (drop (i + 1) word))) opened
        ∙ backslash bytes (get_or word i 0) (drop (i + 1) word) behind is found ∙ here

    pub other_read : (bytes' : List ℕ) (behind' : Bool) → behind ≡ false → is_backslash (get_or word i 0) ≡ false → bytes' ≡ bytes ++ get_or word i 0 ∷ [] → behind' ≡ false → after bytes' (unescaped behind' (drop (i + 1) word)) ≡ unescaped false word
    other_read bytes' behind' is other pushed closed =
        ap (λ (bs : List ℕ). after bs (unescaped behind' (drop (i + 1) word))) pushed ∙ ap (λ (t : Bool). after (bytes ++ get_or word i 0 ∷ []) (unescaped t (drop (i + 1) word))) closed
        ∙ other_byte bytes (get_or word i 0) (drop (i + 1) word) behind is other ∙ here

  module _ (past : length word ≤ i) where
    done : after bytes (unescaped behind []) ≡ unescaped false word
    done = ap (λ (bs : List ℕ). after bytes (unescaped behind bs)) (sym (drop_all i word past)) ∙ so_far

    pub reading_stays_open : behind ≡ true → None ≡ unescaped false word
    reading_stays_open is = sym (open_end bytes behind is) ∙ done

    pub reading_ends : behind ≡ false → Some bytes ≡ unescaped false word
    reading_ends is = sym (good_end bytes behind is) ∙ done

-- what holds for each byte that has an escape and for all others holds for each byte
by_escape : (P : ℕ → List ℕ → Type 0) → P 10 (codes "\\n") → P 9 (codes "\\t") → P 32 (codes "\\s") → P 92 (codes "\\\\")
    → ((b : ℕ) → (b == 10) ≡ false → (b == 32) ≡ false → is_backslash b ≡ false → P b (b ∷ [])) → (b : ℕ) → P b (escaped b)
by_escape P end tab space slash other b = elim (cases_Bool (b == 10)) [
  | inl is ↦ rw is (subst (λ (k : ℕ). P k (codes "\\n")) (sym (eqb-true b 10 is)) end)
  | inr no_end ↦ rw no_end (elim (cases_Bool (b == 9)) [
    | inl is ↦ rw is (subst (λ (k : ℕ). P k (codes "\\t")) (sym (eqb-true b 9 is)) tab)
    | inr no_tab ↦ rw no_tab (elim (cases_Bool (b == 32)) [
      | inl is ↦ rw is (subst (λ (k : ℕ). P k (codes "\\s")) (sym (eqb-true b 32 is)) space)
      | inr no_space ↦ rw no_space (elim (cases_Bool (is_backslash b)) [
        | inl is ↦ rw is (subst (λ (k : ℕ). P k (codes "\\\\")) (sym (eqb-true b 92 is)) slash)
        | inr no_slash ↦ rw no_slash (other b no_end no_space no_slash)
      ])
    ])
  ])
]

read_one : (more : List ℕ) (b : ℕ) → unescaped false (escaped b ++ more) ≡ before (Some b) (unescaped false more)
unfolding unescaped
read_one more b =
    by_escape (λ b word. unescaped false (word ++ more) ≡ before (Some b) (unescaped false more)) refl refl refl refl
    (λ b no_end no_space no_slash. ap (λ (t : Bool). cond t (unescaped true more) (before (Some b) (unescaped false more))) no_slash) b

pub escaped_is_read : EscapedIsRead
unfolding unescaped
escaped_is_read [] = refl
escaped_is_read (b ∷ bytes) = read_one (spelled bytes) b ∙ ap (before (Some b)) (escaped_is_read bytes)

word_one : (more : List ℕ) (b : ℕ) → list_all is_word_byte (escaped b ++ more) ≡ list_all is_word_byte more
word_one more b =
    by_escape (λ b word. list_all is_word_byte (word ++ more) ≡ list_all is_word_byte more) refl refl refl refl
    (λ b no_end no_space no_slash. rw (no_end, no_space) refl) b

pub escaped_is_word : EscapedIsWord
escaped_is_word [] = refl
escaped_is_word (b ∷ bytes) = word_one (spelled bytes) b ∙ escaped_is_word bytes
