use Rattle.std.proofs.Common.{◌≡◌, IfOk, subst}
use Rattle.tree_steps.specs.Walks.{NotesAll}
use Rattle.tree_steps.proofs.Noted.{noted_differences, noted_changes}
use Rattle.tree_steps.proofs.differing.changes_between.Goals as goal

pub returns : goal.returns
returns c =
    let old = c.args.old.now in
    let new = c.args.new.now in
    let first = subst (λ net. NotesAll old old new net c.note_all.new.net) c.none-net.ensures c.in_ok-note_all.ensures in
    let same = noted_differences old new c.note_all.new.net c.note_all-2.new.net first c.in_ok-note_all-2.ensures in
    subst (λ list. IfOk c.into_changes.result (λ changes. changes.items ≡ list)) (noted_changes old new c.note_all-2.new.net same) c.into_changes.ensures
