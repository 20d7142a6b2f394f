use Rattle.std.proofs.Common.{◌≡◌, sym, ◌∙◌, None, arith}
use Rattle.std.proofs.lemmas.Bool.{false≢true}
use Rattle.unit_paths.specs.Canonical.{cut_at_slash}
use Rattle.unit_paths.proofs.Slashes.{walk-more, walk-last}
use Rattle.unit_paths.proofs.canonical_form.walk.Goals as goal

pub parts-preserved : goal.parts-preserved
parts-preserved c = record {
  walked = rw c.in_ok-take_part.ensures.text (sym (walk-more c.parts.text.items c.parts.rest.now c.in-Some.part.now c.in-Some.after.now (sym c.in-Some.ensures.cut)) ∙ c.parts.invariant.walked);
  inline = λ whole short.
      let room = c.parts.invariant.inline whole short in
      let shorter = c.in-Some.ensures.shorter in
      ((c.in_ok-take_part.ensures.inline room.0 (omega arith)).1, omega (arith, c.in_ok-take_part.ensures.longer));
}

pub returns-clause-text : goal.returns-clause-text
returns-clause-text c =
    let none : cut_at_slash c.parts.rest.now ≡ None = sym (rw c.in_default.is at c.cut_at_slash.ensures.cut) in
    let whole = sym c.parts.invariant.walked ∙ walk-last c.parts.text.items c.parts.rest.now none in
    rw whole c.take_part-2.ensures.text

pub returns-in_err-take_part-clause-inline : goal.returns-in_err-take_part-clause-inline
returns-in_err-take_part-clause-inline c = λ whole short.
    let room = c.parts.invariant.inline whole short in
    let shorter = c.in-Some.ensures.shorter in
    absurd (false≢true (c.in_err-take_part.ensures.inline room.0 (omega arith)).0)

pub returns-clause-inline : goal.returns-clause-inline
returns-clause-inline c = λ whole short.
    let room = c.parts.invariant.inline whole short in
    (c.take_part-2.ensures.inline room.0 room.1).0
