use Rattle.std.proofs.Common.{◌≡◌, ◌∙◌, sym, ap, subst}
use Rattle.readers.specs.Numbers.{has, numbers_at, IsNext}
use Rattle.readers.proofs.Listings.{numbers_found, no_numbers}
use Rattle.readers.proofs.numbers.Listed.after.Goals as goal

pub returns-in-Some : goal.returns-in-Some
returns-in-Some c =
    let found : c.in-Some.numbers.now ≡ numbers_at c.args.self.now c.args.text.now =
    sym (ap (λ l. numbers_at l c.args.text.now) (sym c.self.view_is) ∙ numbers_found (λ k. k.items) c.self.inside.by_text.entries c.args.text.now c.in-Some.numbers.now (sym c.in-Some.ensures.value)) in
    subst (λ ns. IsNext (has ns) c.args.n c.after.result) found c.after.ensures

pub returns-in-None : goal.returns-in-None
returns-in-None c = λ i after.
    ap (λ l. has (numbers_at l c.args.text.now) i) (sym c.self.view_is) ∙ ap (λ ns. has ns i) (no_numbers (λ k. k.items) c.self.inside.by_text.entries c.args.text.now (sym c.in-None.ensures.value))
