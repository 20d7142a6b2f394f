use Rattle.std.proofs.Common.{rules, tests}
use Rattle.std.proofs.lemmas.Iterator.Search.{any_from_yields_List}
use Rattle.std.proofs.lemmas.Iterator.Splits.{YieldsList-from_slice_split}
use Rattle.unit_paths.specs.Paths.{is_slash}
use Rattle.root_runs.specs.Names.{is_upward}
use Rattle.root_runs.proofs.names.has_upward.Goals as goal

pub returns : goal.returns
returns c = any_from_yields_List is_upward _ _ _ c.any.ensures.ran
    (YieldsList-from_slice_split _ is_slash c.args.word.now c.split.ensures.rest c.split.ensures.done c.split.ensures.closure (λ x b q k. search (rules, tests)))
    (λ x b q k. search (rules, tests))
