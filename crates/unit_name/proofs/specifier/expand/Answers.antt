use Rattle.std.proofs.Common.{◌≡◌, sym, ◌∙◌, length, rules, tests}
use Rattle.std.proofs.lemmas.List.{nil_from_length}
use Rattle.unit_name.proofs.Expansions.{onto-end}
use Rattle.unit_name.proofs.specifier.expand.Goals as goal

pub returns-clause-text : goal.returns-clause-text
returns-clause-text c =
    let len : length c.pieces.rest.now ≡ 0 = search (rules, tests) in
    let none = nil_from_length c.pieces.rest.now len in
    sym c.pieces.invariant ∙ onto-end c.pieces.text.items c.args.name.now c.pieces.rest.now none
