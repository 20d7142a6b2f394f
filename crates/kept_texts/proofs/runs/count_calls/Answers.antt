use Rattle.std.proofs.Common.{rules, tests}
use Rattle.std.proofs.lemmas.Iterator.Consumers.{count_from_yields_List, YieldsList-from_filter, YieldsList-at}
use Rattle.std.proofs.lemmas.Iterator.Splits.{YieldsList-from_slice_split}
use Rattle.kept_texts.specs.Readings.{is_line_end, is_call, count_calls}
use Rattle.kept_texts.proofs.runs.count_calls.Goals as goal

pub returns : goal.returns
unfolding count_calls
returns c = count_from_yields_List c.filter.result _ c.count.ensures.ran
    (YieldsList-from_filter _ is_call (YieldsList-at c.filter.ensures.source (YieldsList-from_slice_split _ is_line_end c.args.text.now c.split.ensures.rest c.split.ensures.done c.split.ensures.closure (λ x b q k. search (rules, tests)))) c.filter.ensures.closure (λ x b q k. search (rules, tests)))
