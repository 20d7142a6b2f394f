use Rattle.std.proofs.Common.{◌∙◌, sym, ap}
use Rattle.std.specs.List.{before_first}
use Rattle.unit_name.specs.Parts.{is_at}
use Rattle.unit_name.specs.Name.{prefix_of}
use Rattle.unit_name.proofs.Cuts.{before_first-none}
use Rattle.unit_name.proofs.part.prefix_in.Goals as goal

pub returns-in-None-clause-prefix : goal.returns-in-None-clause-prefix
unfolding prefix_of
returns-in-None-clause-prefix c =
    sym (before_first-none is_at 0 c.stem_in-stem.result.now c.in-None.ensures) ∙ ap (before_first is_at) c.stem_in-stem.ensures.stem
