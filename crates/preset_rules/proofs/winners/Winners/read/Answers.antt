use Rattle.std.proofs.Common.{sym, ap, ◌∙◌, map as list_map}
use Rattle.std.specs.FinMap as map
use Rattle.link_tree.proofs.Maps.{entries_again}
use Rattle.preset_rules.specs.Files.{presets_of}
use Rattle.preset_rules.proofs.Gathered.{one_gathered, all_gathered}
use Rattle.preset_rules.proofs.winners.Winners.read.Goals as goal

pub loop-name-preserved : goal.loop-name-preserved
loop-name-preserved c =
    one_gathered c.args.tree.now (presets_of c.args.presets.now) c.loop-name.rules.items c.read_slot.new.rules.items c.args.rules.now.items c.loop-name.cells c.read_slot.new.cells c.args.cells.now
    (c.in-Some._name, c.in-Some.path) c.loop-name._name-iterator c.next.new.self c.into_iter-name-iterator.result c.in-Some.ensures.steps c.in_ok-read_slot.ensures c.loop-name.invariant

pub returns : goal.returns
returns c =
    let gives = c.into_iter-name-iterator.ensures.into_iter_gives in
    all_gathered c.args.tree.now (presets_of c.args.presets.now) c.loop-name.rules.items c.args.rules.now.items c.loop-name.cells c.args.cells.now
    c.loop-name._name-iterator c.into_iter-name-iterator.result (map.values c.args.self)
    (sym c.in-None.ensures.steps.0)
    (ap (list_map (λ e. e.1)) (gives.0 ∙ sym (entries_again c.self.inside.by_name.entries gives.5)) ∙ ap (λ m. map.values m) c.self.view_is)
    c.loop-name.invariant
