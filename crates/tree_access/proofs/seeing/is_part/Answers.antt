use Rattle.std.proofs.Common.{sym, subst}
use Rattle.tree_access.specs.Seeing.{AllStand}
use Rattle.tree_access.proofs.Parts.{is_part, part_selected, part_stands, stands_in_part}
use Rattle.tree_access.proofs.seeing.is_part.Goals as goal

pub returns-then-not-all_selected-clause-no : goal.returns-then-not-all_selected-clause-no
returns-then-not-all_selected-clause-no c same = cc (c.all_selected.ensures.no (part_selected c.args.key.now c.args.tree.now c.args.entries.now same), c.if-not-all_selected.true)

pub returns-then-not-all_stand-clause-no : goal.returns-then-not-all_stand-clause-no
returns-then-not-all_stand-clause-no c same =
    cc (c.all_stand.ensures.no (subst (AllStand c.args.key.now c.args.entries.now) (sym c.entries.ensures) (part_stands c.args.key.now c.args.tree.now c.args.entries.now same)), c.if-not-all_stand.true)

pub returns-clause-yes : goal.returns-clause-yes
returns-clause-yes c h =
    is_part c.args.key.now c.args.tree.now c.args.entries.now
    (c.all_selected.ensures.yes (cc (c.if-not-all_selected.false)))
    (subst (AllStand c.args.key.now c.args.entries.now) c.entries.ensures (c.all_stand.ensures.yes (cc (c.if-not-all_stand.false))))
    (c.all_looked_at_stand.ensures.yes h)

pub returns-clause-no : goal.returns-clause-no
returns-clause-no c same = c.all_looked_at_stand.ensures.no (stands_in_part c.args.key.now c.args.tree.now c.args.entries.now same)
