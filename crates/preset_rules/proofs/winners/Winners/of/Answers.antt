use Rattle.std.proofs.Common.{ap, ◌∙◌}
use Rattle.std.specs.Option.{option_or}
use Rattle.std.specs.FinMap as map
use Rattle.link_tree.specs.Trees.{path_cmp}
use Rattle.unit_paths.specs.declared.place.Place.TheVariants.{Etc}
use Rattle.preset_rules.specs.Files.{presets_of, named_in}
use Rattle.preset_rules.proofs.WinnersFound.{winners_are}
use Rattle.preset_rules.proofs.winners.Winners.of.Goals as goal

pub returns : goal.returns
returns c =
    let ps = presets_of c.args.presets.now in
    winners_are ps c.add_all.new.self c.add_all-2.new.self c.add_all-3.new.self
    (λ name. c.in_ok-add_all.ensures name ∙ ap (λ m. option_or (map.get m name) (map.find path_cmp name (named_in Etc (map.keys ps)))) c.none-winners.ensures)
    c.in_ok-add_all-2.ensures c.in_ok-add_all-3.ensures
