use Rattle.std.proofs.Common.{[], ◌∷◌, ◌++◌, map as list_map, sym, ap, ◌∙◌}
use Rattle.tree_access.specs.Readings.{observed}
use Rattle.tree_access.specs.declared.reading.Seen.TheVariants as sees
use Rattle.tree_access.proofs.KeySets.{one_in_order}
use Rattle.tree_access.proofs.reading.Reading.of_entries.Goals as goal

pub returns : goal.returns
returns c t sees_them =
    c.in_ok-push.ensures.ok
    ∙ ap (λ before. before ++ record { key = c.args.key; seen = sees.Entries c.args.entries } ∷ []) c.none-reading.ensures
    ∙ ap (λ what. record { key = c.args.key; seen = what } ∷ []) (sym sees_them)
    ∙ ap (list_map (observed t)) (sym (one_in_order c.args.key))
