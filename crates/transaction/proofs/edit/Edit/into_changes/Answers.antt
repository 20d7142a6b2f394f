use Rattle.std.proofs.Common.{ap, ◌∙◌, sym, subst, true, All, ◌≡◌}
use Rattle.std.specs.FinMap as map
use Rattle.std.proofs.lemmas.Result.{IfOk-weaker}
use Rattle.unit_paths.specs.Slots.{is_slot}
use Rattle.link_tree.specs.Trees.{Entries}
use Rattle.link_tree.specs.Differences.{changes_between}
use Rattle.link_tree.proofs.Leads.{changes_at_slots}
use Rattle.transaction.proofs.edit.Edit.into_changes.Goals as goal

pub returns : goal.returns
unfolding changes_between
returns c =
    let inside = c.self.inside in
    let now : Entries = inside.tree in
    let noted : map.values inside.changes ≡ changes_between inside.first.now now = ap (λ m. map.values m) c.self.invariant.noted in
    let seen : changes_between inside.first.now now ≡ changes_between c.args.self.0 c.args.self.1 = ap (λ pair. changes_between pair.0 pair.1) c.self.view_is in
    record {
      changes = IfOk-weaker c.into_changes.result _ _ (λ changes same. same ∙ noted ∙ seen) c.into_changes.ensures;
      slots = IfOk-weaker c.into_changes.result _ _ (λ changes same. subst (All (λ change. is_slot change.path ≡ true)) (sym (same ∙ noted)) (changes_at_slots inside.first.now now c.self.invariant.at_slots)) c.into_changes.ensures;
    }
