-- Texts that are UTF-8, and others.
use Rattle.std.proofs.Common.{◌≡◌, ℕ, List, true, false, ap, ◌∙◌, refl}
use Rattle.std.specs.Str.{IsUtf8, is_utf8}
use Rattle.std.proofs.lemmas.Str.{IsUtf8-from_is_utf8, is_utf8-from_IsUtf8}
use Rattle.serde_json.specs.Data.{Data, Members, string}
use Rattle.root_json.specs.Objects.{◌with◌being◌, bytes_data, text_data}

pub valid_text : (text : List ℕ) → IsUtf8 text → text_data text ≡ string text
valid_text text valid = rw (is_utf8-from_IsUtf8 text valid) refl

pub other_text : (text : List ℕ) → ¬ (IsUtf8 text) → text_data text ≡ bytes_data text
other_text text other =
    elim (is_utf8 text) as (λ b. is_utf8 text ≡ b → text_data text ≡ bytes_data text) [
      | true ↦ λ valid. absurd (other (IsUtf8-from_is_utf8 text valid))
      | false ↦ λ invalid. rw invalid refl
    ] refl

-- one member more, of members that are known
pub then_put : (new old want : Members) (k : List ℕ) (d e : Data) → new ≡ (old with k being d) → old ≡ want → d ≡ e → new ≡ (want with k being e)
then_put new old want k d e put same alike = put ∙ ap (λ ms. ms with k being d) same ∙ ap (λ x. want with k being x) alike
