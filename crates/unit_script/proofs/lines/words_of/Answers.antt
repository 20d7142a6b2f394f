use Rattle.std.proofs.Common.{rules, tests}
use Rattle.std.proofs.lemmas.Iterator.Consumers.{map_from_collect, YieldsList-from_filter, YieldsList-at}
use Rattle.std.proofs.lemmas.Iterator.Splits.{YieldsList-from_slice_split}
use Rattle.script_words.specs.Words.{is_word, is_space}
use Rattle.unit_script.specs.Script.{words_of}
use Rattle.unit_script.proofs.lines.words_of.Goals as goal

pub returns : goal.returns
unfolding words_of
returns c = map_from_collect _ c.collect.ensures.ran
    (YieldsList-from_filter _ is_word (YieldsList-at c.filter.ensures.source (YieldsList-from_slice_split _ is_space c.args.line.now c.split.ensures.rest c.split.ensures.done c.split.ensures.closure (λ x b q k. search (rules, tests)))) c.filter.ensures.closure (λ x b q k. search (rules, tests)))
