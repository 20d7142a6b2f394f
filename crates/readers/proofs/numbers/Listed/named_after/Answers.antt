use Rattle.std.proofs.Common.{◌∙◌, ◌&&◌, ◌||◌, subst, sym}
use Rattle.std.specs.Prelude.{not}
use Rattle.unit_name.specs.declared.kind.Kind.{Kind}
use Rattle.link_tree.specs.Links.{is_instance}
use Rattle.readers.specs.Numbers.{lists, IsNext}
use Rattle.readers.proofs.numbers.Listed.named_after.Goals as goal

pub returns-in-Plain : goal.returns-in-Plain
returns-in-Plain c =
    let l = c.args.self.now in
    let name = c.args.name.now in
    let last = c.args.last.now in
    subst (λ (kind : Kind). IsNext (λ i. lists l name i || (not (is_instance kind) && lists l last i)) c.args.n c.sooner.result) (sym c.in-Plain.is ∙ c.kind_in.ensures)
    (c.sooner.ensures (lists l name) (lists l last) c.args.n c.after-first.ensures c.after.ensures)

pub returns-in-Template : goal.returns-in-Template
returns-in-Template c =
    let l = c.args.self.now in
    let name = c.args.name.now in
    let last = c.args.last.now in
    subst (λ (kind : Kind). IsNext (λ i. lists l name i || (not (is_instance kind) && lists l last i)) c.args.n c.sooner-in-Template.result) (sym c.in-Template.is ∙ c.kind_in.ensures)
    (c.sooner-in-Template.ensures (lists l name) (lists l last) c.args.n c.after-first.ensures c.after-in-Template.ensures)
