use Rattle.std.specs.Prelude.{◌≡◌, ◌++◌, IfErr}
use Rattle.std.proofs.Common.{ap, subst, ◌∙◌}
use Rattle.link_tree.specs.Trees.{inventory_text}
use Rattle.link_tree.specs.Reads.{SentBefore}
use Rattle.unit_script.specs.Texts.{text_of}
use Rattle.unit_script.proofs.running.write_history.Goals as goal

pub returns-clause-fault : goal.returns-clause-fault
returns-clause-fault g c =
    let whole : c.deref.result.now ++ inventory_text c.tree.result.now ≡ text_of c.args.history.now.first c.args.history.now.rows =
    ap (λ replies. replies ++ inventory_text c.tree.result.now) c.deref.ensures.value ∙ ap (λ t. c.in-Ok.replies.items ++ inventory_text t) c.tree.ensures.tree ∙ c.in-Ok.ensures in
    subst (λ text. IfErr c.write_before_inventory.result (λ e. SentBefore e (g.K.Sink.written c.args.sink.now) (g.K.Sink.written c.write_before_inventory.new.sink) text)) whole c.write_before_inventory.ensures.fault
