use Rattle.std.proofs.Common.{◌≡◌, map, sym, ap, ◌∙◌}
use Rattle.bstr.specs.Text.{lines_of, without_terminator}
use Rattle.unit_file.proofs.PhysicalLines.{lines_same}
use Rattle.preset_rules.specs.Lines.{rules_of}
use Rattle.preset_rules.proofs.RuleLists.{with_lines, with_lines_is}
use Rattle.preset_rules.proofs.line.push_rules.Goals as goal

pub returns : goal.returns
unfolding rules_of
returns c =
    let start : c.into_iter-line-iterator.result ≡ map without_terminator (lines_of c.args.bytes.now) = cc in
    let same = start ∙ lines_same c.args.bytes.now in
    ap (with_lines c.loop-line.rules.items) (sym c.in-None.ensures.steps.0)
    ∙ c.loop-line.invariant
    ∙ ap (with_lines c.args.rules.now.items) same
    ∙ with_lines_is c.args.rules.now.items _
