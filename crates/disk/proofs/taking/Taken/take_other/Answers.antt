use Rattle.std.proofs.Common.{◌≡◌, Some, None, sym, subst, ap, ◌∙◌}
use Rattle.std.specs.Prelude.{IfSome}
use Rattle.std.specs.FinMap as map
use Rattle.disk.specs.Disks.{Stands, StandsOddly, Sees}
use Rattle.disk.specs.Partials.{TakesMoreOrStops}
use Rattle.disk.proofs.Going.{no_entry, if_both}
use Rattle.disk.proofs.Parts.{took_other, nothing_other, found_other}
use Rattle.disk.proofs.taking.Taken.take_other.Goals as goal

pub returns-then-has-clause-goes : goal.returns-then-has-clause-goes
returns-then-has-clause-goes g c = found_other (g.D.Disk.holds c.args.disk.now) c.args.self.now c.args.path.now (sym c.has.ensures ∙ c.if-has.true)

pub returns-in_ok-copy-in-Entry-clause-goes : goal.returns-in_ok-copy-in-Entry-clause-goes
returns-in_ok-copy-in-Entry-clause-goes g c =
    let tree = g.D.Disk.holds c.args.disk.now in
    let path = c.in_ok-copy-in-Entry.field-0 in
    let entry = c.in-Entry.entry in
    let same : path ≡ c.args.path.now = c.in_ok-copy-in-Entry.ensures in
    let free : map.get c.args.self.now.found path ≡ None = ap (map.get c.args.self.now.found) same ∙ no_entry (map.get c.args.self.now.found c.args.path.now) (sym c.has.ensures ∙ c.if-has.false) in
    let there : IfSome tree (λ t. map.get t.entries path ≡ Some entry) =
    subst (λ p. IfSome tree (λ t. map.get t.entries p ≡ Some entry)) (sym same) (subst (Sees tree c.args.path.now) c.in-Entry.is c.in_ok-look.ensures.found) in
    subst (λ at. TakesMoreOrStops tree c.args.self.now c.add.new.self c.add.result (λ q. q ≡ at)) same
    (took_other tree c.args.self.now c.add.new.self path entry c.add.result free there c.add.ensures.added c.add.ensures.room c.add.ensures.wanted)

pub returns-in-Nothing-clause-goes : goal.returns-in-Nothing-clause-goes
returns-in-Nothing-clause-goes g c =
    let tree = g.D.Disk.holds c.args.disk.now in
    nothing_other tree c.args.self.now c.args.path.now c.requires
    (if_both tree (λ t. Stands t c.args.path.now None) (λ t. map.get t.entries c.args.path.now ≡ None) (λ t here. here.0) (subst (Sees tree c.args.path.now) c.in-Nothing.is c.in_ok-look.ensures.found))

pub returns-in-Odd-clause-goes : goal.returns-in-Odd-clause-goes
returns-in-Odd-clause-goes g c =
    let tree = g.D.Disk.holds c.args.disk.now in
    nothing_other tree c.args.self.now c.args.path.now c.requires
    (if_both tree (λ t. StandsOddly t c.args.path.now c.in-Odd.field-0) (λ t. map.get t.entries c.args.path.now ≡ None) (λ t here. here.0) (subst (Sees tree c.args.path.now) c.in-Odd.is c.in_ok-look.ensures.found))
