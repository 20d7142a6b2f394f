use Rattle.std.proofs.Common.{◌≡◌, ◌∙◌, [], List, All, ap, sym, subst}
use Rattle.std.specs.Prelude.{IsTrue}
use Rattle.link_tree.specs.Trees.{Entries}
use Rattle.history.specs.Rows.{run, calls_of}
use Rattle.shared_admin.specs.Sharing.{is_among}
use Rattle.sessions.specs.Fed.{AreOf, asked}
use Rattle.unit_script.specs.Actions.{asks, meaning}
use Rattle.unit_script.specs.declared.call.Call.{Call}
use Rattle.session_script.specs.Served.{operators_of, AreOfTooMany, ServeFault}
use Rattle.session_script.proofs.Owned.{each_own, asks_are_of}
use Rattle.session_script.proofs.Told.{of_desk}
use Rattle.session_script.proofs.serving.serve.Goals as goal

pub run_desk-requires-after_bounds : goal.run_desk-requires-after_bounds
run_desk-requires-after_bounds g c κs within =
    subst (AreOf c.in-Ok.operators) (sym c.in-Ok-asks_of.ensures)
    (asks_are_of c.in-Ok.operators c.args.calls.items (subst (λ (cs : List Call). All (λ operator. IsTrue (is_among c.in-Ok.operators operator)) (operators_of cs)) c.deref.ensures.value c.in-Ok.ensures.all))

pub returns-in-Ok-run_desk-clause-served : goal.returns-in-Ok-run_desk-clause-served
returns-in-Ok-run_desk-clause-served g c =
    let fed = c.in-Ok-run_desk.ensures.fed in
    let of = subst (AreOf c.in-Ok.operators) (sym c.in-Ok-asks_of.ensures)
    (asks_are_of c.in-Ok.operators c.args.calls.items (subst (λ (cs : List Call). All (λ operator. IsTrue (is_among c.in-Ok.operators operator)) (operators_of cs)) c.deref.ensures.value c.in-Ok.ensures.all)) in record {
      legal = c.in-Ok-run_desk.ensures.legal ∙ ap (λ (t : Entries). run asks meaning t [] (calls_of c.in-Ok-run_desk.history.rows)) fed.closed.same_tree;
      own = λ operator. each_own c.args.tree c.in-Ok.operators c.in-Ok-asks_of.asks c.in-Ok-run_desk.history c.in-Ok-run_desk._logs of fed operator ∙ ap (asked operator) c.in-Ok-asks_of.ensures;
    }

pub returns-in-Err-run_desk-clause-fault : goal.returns-in-Err-run_desk-clause-fault
returns-in-Err-run_desk-clause-fault g c =
    let few = subst (λ (cs : List Call). ¬ AreOfTooMany cs) c.deref.ensures.value c.in-Ok.ensures.few in
    subst (ServeFault c.args.calls.items) (sym c.fault_of.ensures) (of_desk c.args.calls.items c.in-Ok.operators c.in-Ok.ensures.share few c.in-Err-run_desk.e c.in-Err-run_desk.ensures.why)
