use Rattle.std.proofs.Common.{◌++◌, ◌∷◌, [], List, ℕ, subst, sym, ◌∙◌, ap}
use Rattle.std.proofs.lemmas.List.{append_assoc, append-nil}
use Rattle.readers.specs.Numbers.{AreAllAfter}
use Rattle.readers.specs.Readers.{is_touched_in}
use Rattle.readers.proofs.readers.Readers.all.Goals as goal

pub loop-n-init : goal.loop-n-init
loop-n-init c = λ more later.
    let test = is_touched_in c.args.self.now c.args.change.now in
    subst (λ (numbers : List ℕ). AreAllAfter test 0 (numbers ++ more)) (sym c.new-numbers.ensures.items) later

-- the number that is found, and the numbers after it, are what was still to come
pub loop-n-preserved : goal.loop-n-preserved
loop-n-preserved c = λ more later.
    let test = is_touched_in c.args.self.now c.args.change.now in
    let so_far = c.loop-n.numbers.items in
    let n = c.in-Some.n in
    subst (AreAllAfter test 0) (sym (ap (λ (numbers : List ℕ). numbers ++ more) c.in_ok-push.ensures.items ∙ append_assoc so_far (n ∷ []) more)) (c.loop-n.invariant (n ∷ more) (c.in-Some.ensures, later))

pub returns : goal.returns
returns c =
    let test = is_touched_in c.args.self.now c.args.change.now in
    subst (AreAllAfter test 0) (append-nil c.loop-n.numbers.items) (c.loop-n.invariant [] c.in_default.ensures)
