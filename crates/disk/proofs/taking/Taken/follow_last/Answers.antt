use Rattle.std.proofs.Common.{◌≡◌, ◌≤◌, ◌++◌, Bool, true, false, None, inl, inr, sym, ap, subst, ◌∙◌}
use Rattle.std.specs.Prelude.{is_some}
use Rattle.std.specs.Option.{option_to_list}
use Rattle.std.specs.FinMap as map
use Rattle.std.proofs.lemmas.Bool.{false≢true}
use Rattle.unit_paths.specs.Slots.{is_slot}
use Rattle.link_tree.proofs.Stops.{returned}
use Rattle.disk.specs.Disks.{Stands, StandsOddly, Sees}
use Rattle.disk.specs.Capturing.{IsBegun, IsSettled, IsNoPath}
use Rattle.disk.proofs.Going.{GoesFor, found_captured, none_captured, no_entry, if_all, if_both}
use Rattle.disk.proofs.Followed.{settled_last, linked_last, no_room_last, entry_more}
use Rattle.disk.proofs.taking.Taken.follow_last.Goals as goal

pub returns-then-is_some-clause-goes : goal.returns-then-is_some-clause-goes
returns-then-is_some-clause-goes g c asked =
    let tree = g.D.Disk.holds c.args.disk.now in
    let found = c.args.self.now.found in
    let wanted = c.args.self.now.wanted.items in
    let rest = c.pop.new.self.items in
    let path = c.in-Some.path in
    settled_last tree asked found wanted rest path (c.pop.ensures.items ∙ ap (λ o. rest ++ option_to_list o) c.in-Some.is)
    (if_all tree (λ t. IsBegun t asked found wanted → IsSettled t found path) (λ t begun. inl (ap is_some (sym c.of.ensures) ∙ sym c.is_some.ensures ∙ c.if-is_some.true)))

pub returns-then-has-clause-goes : goal.returns-then-has-clause-goes
returns-then-has-clause-goes g c asked =
    let tree = g.D.Disk.holds c.args.disk.now in
    let found = c.args.self.now.found in
    let wanted = c.args.self.now.wanted.items in
    let rest = c.pop.new.self.items in
    let path = c.in-Some.path in
    settled_last tree asked found wanted rest path (c.pop.ensures.items ∙ ap (λ o. rest ++ option_to_list o) c.in-Some.is)
    (if_all tree (λ t. IsBegun t asked found wanted → IsSettled t found path) (λ t begun. inr (found_captured t asked found wanted path (sym c.has.ensures ∙ c.if-has.true) begun)))

pub returns-in_err-add-in-Entry-clause-goes : goal.returns-in_err-add-in-Entry-clause-goes
returns-in_err-add-in-Entry-clause-goes g c asked =
    let tree = g.D.Disk.holds c.args.disk.now in
    let found = c.args.self.now.found in
    let wanted = c.args.self.now.wanted.items in
    let rest = c.pop.new.self.items in
    let path = c.in-Some.path in
    let after = c.add.new.self in
    let e = c.in_err-add-in-Entry.field-0.0 in
    let free : map.get found path ≡ None = no_entry (map.get found path) (sym c.has.ensures ∙ c.if-has.false) in
    subst (λ r. GoesFor {A = Bool} tree asked found wanted after.found after.wanted.items r IsNoPath) (sym (returned c.from_residual-in_err-add-in-Entry.result e c.from_residual-in_err-add-in-Entry.ensures))
    (no_room_last tree asked found after.found wanted rest after.wanted.items path c.in-Entry.entry e (c.pop.ensures.items ∙ ap (λ o. rest ++ option_to_list o) c.in-Some.is) free
    (subst (Sees tree path) c.in-Entry.is c.in_ok-entry.ensures.found) c.in_err-add-in-Entry.ensures.room)

pub returns-in_ok-add-in-Entry-clause-goes : goal.returns-in_ok-add-in-Entry-clause-goes
returns-in_ok-add-in-Entry-clause-goes g c asked =
    let tree = g.D.Disk.holds c.args.disk.now in
    let found = c.args.self.now.found in
    let wanted = c.args.self.now.wanted.items in
    let rest = c.pop.new.self.items in
    let path = c.in-Some.path in
    let after = c.add.new.self in
    let free : map.get found path ≡ None = no_entry (map.get found path) (sym c.has.ensures ∙ c.if-has.false) in
    linked_last tree asked found after.found wanted rest after.wanted.items path c.in-Entry.entry (c.pop.ensures.items ∙ ap (λ o. rest ++ option_to_list o) c.in-Some.is) free
    (subst (Sees tree path) c.in-Entry.is c.in_ok-entry.ensures.found) c.in_ok-add-in-Entry.ensures.added c.in_ok-add-in-Entry.ensures.wanted

pub returns-in_ok-add-in-Entry-clause-fewer : goal.returns-in_ok-add-in-Entry-clause-fewer
returns-in_ok-add-in-Entry-clause-fewer g c more =
    let found = c.args.self.now.found in
    let wanted = c.args.self.now.wanted.items in
    let rest = c.pop.new.self.items in
    let path = c.in-Some.path in
    let after = c.add.new.self in
    let few = subst (λ n. n ≤ 65536) c.len-count.ensures.len c.len-count.ensures.within in
    entry_more found after.found rest wanted after.wanted.items path c.in-Entry.entry few (no_entry (map.get found path) (sym c.has.ensures ∙ c.if-has.false))
    (c.pop.ensures.items ∙ ap (λ o. rest ++ option_to_list o) c.in-Some.is) c.in_ok-add-in-Entry.ensures.added c.in_ok-add-in-Entry.ensures.wanted

pub returns-in-Nothing-clause-goes : goal.returns-in-Nothing-clause-goes
returns-in-Nothing-clause-goes g c asked =
    let tree = g.D.Disk.holds c.args.disk.now in
    let found = c.args.self.now.found in
    let wanted = c.args.self.now.wanted.items in
    let rest = c.pop.new.self.items in
    let path = c.in-Some.path in
    let off : is_slot path ≡ false = ap is_some (sym c.of.ensures) ∙ sym c.is_some.ensures ∙ c.if-is_some.false in
    settled_last tree asked found wanted rest path (c.pop.ensures.items ∙ ap (λ o. rest ++ option_to_list o) c.in-Some.is)
    (if_both tree (λ t. Stands t path None) (λ t. IsBegun t asked found wanted → IsSettled t found path)
    (λ t none begun. inr (none_captured t asked found wanted path none.0 (λ slot. absurd (false≢true (sym off ∙ slot))) begun))
    (subst (Sees tree path) c.in-Nothing.is c.in_ok-entry.ensures.found))

pub returns-in-Odd-clause-goes : goal.returns-in-Odd-clause-goes
returns-in-Odd-clause-goes g c asked =
    let tree = g.D.Disk.holds c.args.disk.now in
    let found = c.args.self.now.found in
    let wanted = c.args.self.now.wanted.items in
    let rest = c.pop.new.self.items in
    let path = c.in-Some.path in
    let off : is_slot path ≡ false = ap is_some (sym c.of.ensures) ∙ sym c.is_some.ensures ∙ c.if-is_some.false in
    settled_last tree asked found wanted rest path (c.pop.ensures.items ∙ ap (λ o. rest ++ option_to_list o) c.in-Some.is)
    (if_both tree (λ t. StandsOddly t path c.in-Odd.field-0) (λ t. IsBegun t asked found wanted → IsSettled t found path)
    (λ t odd begun. inr (none_captured t asked found wanted path odd.0 (λ slot. absurd (false≢true (sym off ∙ slot))) begun))
    (subst (Sees tree path) c.in-Odd.is c.in_ok-entry.ensures.found))
