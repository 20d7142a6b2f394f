-- The form of a time, byte after byte.
use Rattle.std.proofs.Common.{◌≡◌, ◌≤◌, ◌<◌, ◌+◌, ℕ, List, [], ◌∷◌, ◌++◌, length, take, map, sym, ap, ◌∙◌, slice_index, set}
use Rattle.std.proofs.lemmas.List.{map-append, take_all, take_more, take_more_set}
use Rattle.kept_texts.specs.Values.{form_of}

module _ (form text : List ℕ) (i : ℕ) (so_far : take i form ≡ map form_of (take i text)) where
  pub form_more : (b : ℕ) → i < length form → i < length text → b ≡ form_of (slice_index text i)
      → take (i + 1) (set form i b) ≡ map form_of (take (i + 1) text)
  form_more b room within is =
      take_more_set form i b room ∙ ap (λ (l : List ℕ). l ++ b ∷ []) so_far
      ∙ ap (λ (x : ℕ). map form_of (take i text) ++ x ∷ []) is
      ∙ sym (map-append form_of (take i text) (slice_index text i ∷ []))
      ∙ ap (map form_of) (sym (take_more text i 0 within))

  pub form_is_whole : length form ≤ i → length text ≤ i → form ≡ map form_of text
  form_is_whole all_form all_text =
      sym (take_all i form all_form) ∙ so_far ∙ ap (map form_of) (take_all i text all_text)
