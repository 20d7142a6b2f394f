use Rattle.std.proofs.Common.{◌≡◌, ◌≤◌, ◌∙◌, sym, length}
use Rattle.std.specs.List.{slice_split}
use Rattle.std.specs.Str.{bytes_eq}
use Rattle.unit_paths.specs.declared.fault.TheConstants.{MAX_PATH}
use Rattle.unit_paths.specs.Paths.{is_slash}
use Rattle.unit_paths.specs.Canonical.{walked, start_of, is_null_target}
use Rattle.unit_paths.proofs.Slashes.{short_path}
use Rattle.unit_paths.proofs.Nulls.{short_target, merged_null}
use Rattle.unit_paths.proofs.canonical_form.walks_to_null.Goals as goal

pub unwrap-text-requires : goal.unwrap-text-requires
unwrap-text-requires c =
    let link : length c.text.result.now ≤ MAX_PATH = rw c.text.ensures.text (short_path c.args.link.now c.text.ensures.path) in
    let target : length c.text-2.result.now ≤ MAX_PATH = rw c.text-2.ensures.text (short_target c.args.target.now c.text-2.ensures.target) in
    c.walk_from.ensures.inline link target

pub returns : goal.returns
unfolding is_null_target
returns c =
    let text = rw c.unwrap-text.ensures at c.walk_from.ensures.text in
    let from : walked (start_of c.text.result.now c.text-2.result.now) (slice_split is_slash c.text-2.result.now) ≡ walked (start_of c.args.link.now c.args.target.now) (slice_split is_slash c.args.target.now) = λ i. walked (start_of (c.text.ensures.text i) (c.text-2.ensures.text i)) (slice_split is_slash (c.text-2.ensures.text i)) in
    let here : c.as_slice.result.now ≡ walked (start_of c.args.link.now c.args.target.now) (slice_split is_slash c.args.target.now) = c.as_slice.ensures ∙ text ∙ from in
    c.eq.ensures ∙ (λ i. bytes_eq (here i) (c.as_slice-2.ensures i)) ∙ sym (merged_null (walked (start_of c.args.link.now c.args.target.now) (slice_split is_slash c.args.target.now)))
