-- If a target ends with a part other than null, it doesn't lead to /dev/null.
use Rattle.std.proofs.Common.{◌≡◌, ℕ, Bool, true, false, List, [], ◌∷◌, ◌++◌, refl, sym, ◌∙◌, ap, codes, inl, inr}
use Rattle.std.specs.Prelude.{not}
use Rattle.std.specs.List.{list_any, slice_split}
use Rattle.std.specs.Str.{bytes_eq}
use Rattle.std.proofs.lemmas.Bool.{cases_Bool, false≢true, or_parts}
use Rattle.std.proofs.lemmas.Slice.Eq.{bytes_eq-Decides}
use Rattle.unit_paths.specs.Paths.{is_part, is_slash, parent, name_at}
use Rattle.unit_paths.specs.Canonical.{with_part, walked, start_of, begins_with_slash, is_null_target, may_end_with_null}
use Rattle.unit_paths.proofs.Slashes.{last_slash, name-none, name-seam, split-append}
use Rattle.unit_paths.proofs.Nulls.{merged_null}
use Rattle.unit_paths.proofs.Leading.{walked-last, split-one, with_part-part}

-- the last step of a walk takes the last part of the target
record LastStep (text target : List ℕ) : Type 0 where
  front : List ℕ
  is : walked text (slice_split is_slash target) ≡ with_part front (name_at target)
  none : list_any is_slash (name_at target) ≡ false

alone : (text part : List ℕ) → walked text (part ∷ []) ≡ with_part text part
unfolding walked
alone text part = refl

last_step : (text target : List ℕ) → LastStep text target
last_step text target = elim (cases_Bool (list_any is_slash target)) [
  | inl some ↦ (
      let cut = last_slash target some in
      let parts : slice_split is_slash target ≡ slice_split is_slash (parent target) ++ name_at target ∷ [] =
      ap (slice_split is_slash) cut.is ∙ split-append (parent target) (name_at target) ∙ ap (λ (ps : List (List ℕ)). slice_split is_slash (parent target) ++ ps) (split-one (name_at target) cut.none) in
      record {
        front = walked text (slice_split is_slash (parent target));
        is = ap (walked text) parts ∙ walked-last text (slice_split is_slash (parent target)) (name_at target);
        none = cut.none;
      })
  | inr none ↦ record {
    front = text;
    is = ap (walked text) (split-one target none) ∙ alone text target ∙ ap (with_part text) (sym (name-none target none));
    none = ap (list_any is_slash) (name-none target none) ∙ none;
  }
]

-- the usual spelling
spelled : (link : List ℕ) → walked (start_of link (codes "/dev/null")) (slice_split is_slash (codes "/dev/null")) ≡ codes "/dev/null"
unfolding start_of begins_with_slash walked with_part is_part
spelled link = refl

pub usual : (link target : List ℕ) → bytes_eq target (codes "/dev/null") ≡ true → is_null_target link target ≡ true
unfolding is_null_target
usual link target same =
    let at = (bytes_eq-Decides target (codes "/dev/null")).0 same in
    rw at (merged_null (walked (start_of link (codes "/dev/null")) (slice_split is_slash (codes "/dev/null"))) ∙ ap (λ t. bytes_eq t (codes "/dev/null")) (spelled link))

part_here : (b : Bool) → not b ≡ false → b ≡ true
part_here true e = refl
part_here false e = cc

name_of_null : name_at (codes "/dev/null") ≡ codes "null"
unfolding name_at
name_of_null = refl

pub other_end : (link target : List ℕ) → may_end_with_null target ≡ false → is_null_target link target ≡ false
unfolding is_null_target
other_end link target off =
    let both = or_parts (not (is_part (name_at target))) (bytes_eq (name_at target) (codes "null")) off in
    let step = last_step (start_of link target) target in
    let text : walked (start_of link target) (slice_split is_slash target) ≡ step.front ++ 47 ∷ name_at target = step.is ∙ with_part-part step.front (name_at target) (part_here _ both.0) in
    merged_null (walked (start_of link target) (slice_split is_slash target))
    ∙ ap (λ t. bytes_eq t (codes "/dev/null")) text
    ∙ elim (cases_Bool (bytes_eq (step.front ++ 47 ∷ name_at target) (codes "/dev/null"))) [
      | inl null ↦ (
          let same = (bytes_eq-Decides (step.front ++ 47 ∷ name_at target) (codes "/dev/null")).0 null in
          let name : name_at target ≡ codes "null" = sym (name-seam step.front (name_at target) step.none) ∙ ap name_at same ∙ name_of_null in
          absurd (false≢true (sym both.1 ∙ (bytes_eq-Decides (name_at target) (codes "null")).1 name)))
      | inr other ↦ other
    ]
