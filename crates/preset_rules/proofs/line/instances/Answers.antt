use Rattle.std.proofs.Common.{not, ap, ◌∙◌, rules, tests}
use Rattle.std.specs.List.{filter}
use Rattle.std.proofs.lemmas.Iterator.Consumers.{YieldsList-end}
use Rattle.std.proofs.lemmas.Iterator.Splits.{YieldsList-from_slice_split}
use Rattle.unit_file.specs.Lines.{is_blank}
use Rattle.unit_file.specs.Install.{is_empty, words}
use Rattle.preset_rules.proofs.line.instances.Goals as goal

pub returns : goal.returns
unfolding words
returns c =
    let parts = YieldsList-from_slice_split _ is_blank c.args.text.now (cc) (cc) (cc) (λ x b q k. search (rules, tests)) in
    let all = YieldsList-end parts c.loop-word.yielded _ c.loop-word.yielded_by _ _ c.in-None.is c.next.ensures.steps in
    c.loop-word.invariant ∙ ap (λ ps. filter (λ word. not (is_empty word)) ps) all.0
