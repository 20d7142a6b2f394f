use Rattle.std.proofs.Common.{◌≡◌, ◌∙◌, sym, ap, true, codes}
use Rattle.std.specs.Str.{bytes_eq}
use Rattle.unit_paths.specs.Canonical.{may_end_with_null}
use Rattle.unit_paths.proofs.NullEnds.{usual, other_end}
use Rattle.unit_paths.proofs.canonical_form.is_null_target.Goals as goal

pub returns-then-eq : goal.returns-then-eq
returns-then-eq c =
    let here : bytes_eq c.args.target.now (codes "/dev/null") ≡ true = sym (c.eq.ensures ∙ λ i. bytes_eq (c.text-text.ensures.text i) (c.as_slice.ensures i)) ∙ c.if-eq.true in
    c.if-eq.true ∙ sym (usual c.args.link.now c.args.target.now here)

pub returns-else-may_end_with_null : goal.returns-else-may_end_with_null
returns-else-may_end_with_null c =
    let off = sym (c.may_end_with_null.ensures ∙ ap may_end_with_null c.text-text.ensures.text) ∙ c.if-may_end_with_null.false in
    c.if-may_end_with_null.false ∙ sym (other_end c.args.link.now c.args.target.now off)
