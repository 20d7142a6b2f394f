use Rattle.std.proofs.Common.{ap, ◌∙◌, sym, Err}
use Rattle.std.proofs.lemmas.Bool.{false≢true}
use Rattle.unit_paths.specs.Paths.{is_target}
use Rattle.transaction.proofs.Targets.{path_target}
use Rattle.transaction.proofs.rules.link_to.Goals as goal

pub unreachable-requires : goal.unreachable-requires
unreachable-requires c =
    false≢true (sym (c.link.ensures.bad (c.in-Err-BadTarget.is ∙ ap Err c.in-Err-BadTarget.field-0-is)) ∙ ap is_target c.text.ensures.text ∙ path_target c.args.path.now c.text.ensures.path)
