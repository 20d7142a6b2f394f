use Rattle.std.proofs.Common.{rules, tests}
use Rattle.std.proofs.lemmas.Iterator.Search.{any_from_yields_List}
use Rattle.std.proofs.lemmas.Iterator.Splits.{YieldsList-from_slice_split}
use Rattle.kept_texts.specs.Readings.{is_line_end}
use Rattle.kept_texts.specs.Texts.{begins_comment}
use Rattle.kept_texts.proofs.kept_text.begins_any_comment.Goals as goal

pub returns : goal.returns
returns c = any_from_yields_List begins_comment _ _ _ c.any.ensures.ran
    (YieldsList-from_slice_split _ is_line_end c.args.lines.now c.split.ensures.rest c.split.ensures.done c.split.ensures.closure (λ x b q k. search (rules, tests))) (λ x b q k. search (rules, tests))
