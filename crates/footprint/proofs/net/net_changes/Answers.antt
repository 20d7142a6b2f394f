use Rattle.std.proofs.Common.{ap, ◌∙◌}
use Rattle.std.specs.FinMap as map
use Rattle.std.proofs.lemmas.Result.{IfOk-weaker}
use Rattle.footprint.specs.Net.{noted}
use Rattle.footprint.proofs.Noted.{net_noted}
use Rattle.footprint.proofs.net.net_changes.Goals as goal

pub returns : goal.returns
returns c =
    let t = c.args.tree.now in
    let first = c.in_ok-note_all.ensures ∙ (λ i. noted (c.none-net.ensures i) t (c.as_slice.ensures i)) in
    let both = c.in_ok-note_all-2.ensures ∙ (λ i. noted (first i) t (c.as_slice-2.ensures i)) in
    IfOk-weaker c.into_changes.result _ _ (λ changes same. same ∙ ap (λ m. map.values m) both ∙ net_noted t c.args.first.now c.args.second.now c.requires.first c.requires.second) c.into_changes.ensures
