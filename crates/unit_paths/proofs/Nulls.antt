-- Links to /dev/null.
use Rattle.std.proofs.Common.{◌≡◌, ◌≤◌, ℕ, Bool, true, false, List, ◌++◌, length, Some, None, refl, sym, ◌∙◌, ap, codes, inl, inr}
use Rattle.std.specs.Prelude.{if◌then◌else◌, nat_eq, nat_le}
use Rattle.std.specs.List.{starts_with}
use Rattle.std.specs.Option.{option_map_or}
use Rattle.std.specs.Str.{bytes_eq}
use Rattle.std.proofs.lemmas.Bool.{cases_Bool, and_parts, leb-true}
use Rattle.std.proofs.lemmas.Bool.Decides.{Decides-eqb}
use Rattle.std.proofs.lemmas.Slice.Eq.{bytes_eq-Decides, starts_is}
use Rattle.unit_paths.specs.declared.fault.TheConstants.{MAX_PATH}
use Rattle.unit_paths.specs.Paths.{is_path, is_absolute, is_text_byte, is_part, is_target}
use Rattle.unit_paths.specs.Canonical.{merged}

abbrev null : List ℕ
null = codes "/dev/null"

abbrev old_library : List ℕ
old_library = codes "/lib/systemd/"

abbrev leads_to_null : List ℕ → Bool
leads_to_null path = option_map_or (λ p. bytes_eq p null) (if is_path path then Some path else None) false

null_path : is_path null ≡ true
unfolding is_path is_absolute is_text_byte is_part
null_path = refl

other_off : (path : List ℕ) → bytes_eq path null ≡ false → leads_to_null path ≡ false
other_off path other = elim (is_path path) as (λ b. option_map_or (λ p. bytes_eq p null) (if b then Some path else None) false ≡ false) [ true ↦ other | false ↦ refl ]

-- a text that is /dev/null is a path
self_null : (path : List ℕ) → leads_to_null path ≡ bytes_eq path null
self_null path =
    elim (cases_Bool (bytes_eq path null)) [
      | inl here ↦ (let same = (bytes_eq-Decides path null).0 here in let is : is_path path ≡ true = ap is_path same ∙ null_path in rw is refl)
      | inr other ↦ other_off path other ∙ sym other
    ]

-- the walk ends at a spelling of /dev/null exactly if the canonical path is /dev/null
pub merged_null : (text : List ℕ) → leads_to_null (merged text) ≡ bytes_eq text null
unfolding merged
merged_null text =
    elim (cases_Bool (starts_with nat_eq text old_library)) [
      | inl old ↦ (
          let at = (starts_is Decides-eqb text old_library (starts_with nat_eq text old_library) refl).0 old in
          let off : bytes_eq text null ≡ false = ap (λ t. bytes_eq t null) at in
          let usr : bytes_eq (codes "/usr" ++ text) null ≡ false = refl in
          rw old (other_off (codes "/usr" ++ text) usr) ∙ sym off
          )
      | inr other ↦ rw other (self_null text)
    ]

pub short_target : (target : List ℕ) → is_target target ≡ true → length target ≤ MAX_PATH
unfolding is_target
short_target target is = leb-true (length target) MAX_PATH (and_parts (nat_le (length target) MAX_PATH) _ (and_parts _ _ is).1).0
