use Rattle.std.proofs.Common.{◌≡◌, ◌++◌, OnOk, sym, ap, subst, ◌∙◌}
use Rattle.unit_name.specs.declared.kind.Kind.TheVariants.{Instance}
use Rattle.unit_name.specs.Name.{instance_of, template_of}
use Rattle.states.specs.Dependencies.{ends_for, next_names}
use Rattle.states.specs.Reaching.{ends_at, with_names}
use Rattle.states.proofs.Walks.{with_names-append}
use Rattle.states.proofs.reaching.Names.add_next.Goals as goal

pub returns-in_ok-template-in-Instance : goal.returns-in_ok-template-in-Instance
unfolding next_names
returns-in_ok-template-in-Instance c =
    let name = c.args.name.now in
    let instance = instance_of name in
    let own = ends_at c.args.ends.now name in
    let grown =
    ap (λ names. with_names names (ends_for c.args.reverse instance c.at-in-Instance.result.now Instance)) (c.in_ok-add_all.ensures ∙ ap (with_names c.args.self.now) c.at.ensures)
    ∙ ap (λ names. with_names (with_names c.args.self.now own) (ends_for c.args.reverse instance names Instance)) (c.at-in-Instance.ensures ∙ ap (ends_at c.args.ends.now) c.in_ok-template-in-Instance.ensures)
    ∙ with_names-append c.args.self.now own (ends_for c.args.reverse instance (ends_at c.args.ends.now (template_of name)) Instance)
    ∙ ap (λ kind. with_names c.args.self.now (own ++ ends_for c.args.reverse instance (ends_at c.args.ends.now (template_of name)) kind)) (sym (sym c.kind.ensures ∙ c.in-Instance.is)) in
    subst (λ names. OnOk c.add_ends_for.result (c.add_ends_for.new.self ≡ names)) grown c.add_ends_for.ensures
