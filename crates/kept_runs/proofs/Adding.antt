-- The calls of lines and the text of those that have one, one line after another.
use Rattle.std.proofs.Common.{◌≡◌, ℕ, zero, suc, ◌+◌, ◌<◌, ◌≤◌, Bool, cond, List, [], ◌∷◌, ◌++◌, length, take, drop, get_or, map as list_map, Option, Some, None, Result, Ok, Err, refl, sym, ap, ◌∙◌, arith}
use Rattle.std.proofs.Math.Seq.{take-suc}
use Rattle.std.proofs.lemmas.List.{append-nil, take_all}
use Rattle.std.proofs.lemmas.List.Elements.{filter-append}
use Rattle.std.specs.List.{filter}
use Rattle.link_tree.specs.Inventory.{◌>>=◌}
use Rattle.unit_script.specs.declared.call.Call.{Call}
use Rattle.unit_script.specs.declared.reason.Reason.{Reason}
use Rattle.unit_script.specs.Script.{with_call}
use Rattle.unit_script.proofs.WordLists.{left_more}
use Rattle.script_words.specs.Words.{lines_text}
use Rattle.kept_rows.proofs.LineTexts.{lines_text_append}
use Rattle.kept_runs.specs.Lines.{call_of, is_call, has_call, at_line, calls_onto}
use Rattle.kept_runs.proofs.Alike.{map-push}

pub line_adds : (calls : List Call) (number : ℕ) (line : List ℕ) (call : Option Call) → call_of line ≡ Ok call → (more : List (List ℕ))
    → calls_onto calls number (line ∷ more) ≡ calls_onto (with_call calls call) (number + 1) more
unfolding calls_onto
line_adds calls number line call h more = ap (λ r. at_line number r >>= λ call. calls_onto (with_call calls call) (number + 1) more) h

pub line_stops : (calls : List Call) (number : ℕ) (line : List ℕ) (reason : Reason) → call_of line ≡ Err reason → (more : List (List ℕ))
    → calls_onto calls number (line ∷ more) ≡ Err (number, reason)
unfolding calls_onto
line_stops calls number line reason h more = ap (λ r. at_line number r >>= λ call. calls_onto (with_call calls call) (number + 1) more) h

drop_none : {X : Type 0} (n : ℕ) (xs : List X) → length xs ≤ n → drop n xs ≡ []
drop_none zero [] short = refl
drop_none zero (x ∷ xs) short = absurd (omega (arith, short))
drop_none (suc n) [] short = refl
drop_none (suc n) (x ∷ xs) short = drop_none n xs (omega (arith, short))

no_more : (calls : List Call) (number : ℕ) → calls_onto calls number [] ≡ Ok calls
unfolding calls_onto
no_more calls number = refl

module _ {X : Type 0} (f : X → List ℕ) (xs : List X) (all : Result (List Call) (ℕ × Reason)) (i : ℕ) where
  -- The calls of the first i lines were read: what is left leads to the calls of all.
  abbrev pub LeadsToAll : List Call → Type 0
  LeadsToAll calls = calls_onto calls (i + 1) (list_map f (drop i xs)) ≡ all

  module _ (d : X) (calls : List Call) (within : i < length xs) (h : LeadsToAll calls) where
    -- with the next line in front
    pub next_line : calls_onto calls (i + 1) (f (get_or xs i d) ∷ list_map f (drop (i + 1) xs)) ≡ all
    next_line = sym (ap (calls_onto calls (i + 1)) (left_more f xs i d within)) ∙ h

    pub line_read : (new : List Call) → ((more : List (List ℕ)) → calls_onto calls (i + 1) (f (get_or xs i d) ∷ more) ≡ calls_onto new (i + 1 + 1) more)
        → calls_onto new (i + 1 + 1) (list_map f (drop (i + 1) xs)) ≡ all
    line_read new adds = sym (adds (list_map f (drop (i + 1) xs))) ∙ next_line

  pub all_read : (calls : List Call) → length xs ≤ i → LeadsToAll calls → all ≡ Ok calls
  all_read calls over h = sym h ∙ ap (λ left. calls_onto calls (i + 1) (list_map f left)) (drop_none i xs over) ∙ no_more calls (i + 1)

-- a line without a call adds nothing to the text
pub adds_none : (text line : List ℕ) → call_of line ≡ Ok None → text ≡ text ++ lines_text (filter has_call (line ∷ []))
adds_none text line none = sym (ap (λ (b : Bool). text ++ lines_text (cond b (line ∷ []) [])) (ap is_call none) ∙ append-nil text)

pub adds_line : (text new line : List ℕ) (call : Call) → call_of line ≡ Ok (Some call) → new ≡ text ++ lines_text (line ∷ []) → new ≡ text ++ lines_text (filter has_call (line ∷ []))
adds_line text new line call some is = is ∙ sym (ap (λ (b : Bool). text ++ lines_text (cond b (line ∷ []) [])) (ap is_call some))

module _ {X : Type 0} (f : X → List ℕ) (xs : List X) where
  -- This is the text of those of the first i lines that have a call.
  abbrev pub IsTextOf : ℕ → List ℕ → Type 0
  IsTextOf i text = text ≡ lines_text (filter has_call (list_map f (take i xs)))

  pub one_more_line : (i : ℕ) (d : X) (text new : List ℕ) → i < length xs → IsTextOf i text → new ≡ text ++ lines_text (filter has_call (f (get_or xs i d) ∷ [])) → IsTextOf (i + 1) new
  one_more_line i d text new within before is =
      let line : List ℕ = f (get_or xs i d) in
      let next : suc i ≡ i + 1 = omega arith in
      is ∙ ap (λ t. t ++ lines_text (filter has_call (line ∷ []))) before
      ∙ sym (lines_text_append (filter has_call (list_map f (take i xs))) (filter has_call (line ∷ [])))
      ∙ ap lines_text (sym (filter-append has_call (list_map f (take i xs)) (line ∷ [])))
      ∙ ap (λ lines. lines_text (filter has_call lines)) (sym (map-push f (take i xs) (get_or xs i d)) ∙ ap (list_map f) (sym (take-suc xs i d within) ∙ ap (λ n. take n xs) next))

  pub text_of_all : (i : ℕ) (text : List ℕ) → length xs ≤ i → IsTextOf i text → text ≡ lines_text (filter has_call (list_map f xs))
  text_of_all i text over is = is ∙ ap (λ those. lines_text (filter has_call (list_map f those))) (take_all i xs over)
