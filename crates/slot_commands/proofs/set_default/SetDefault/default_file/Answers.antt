use Rattle.std.proofs.Common.{ℕ, Bool, true, false, if◌then◌else◌, List, Option, Err, sym, subst}
use Rattle.unit_file.specs.Listed.{is_template_name}
use Rattle.link_tree.specs.declared.entry.Entry.{Entry}
use Rattle.link_tree.proofs.Stops.{returned}
use Rattle.tree_access.specs.declared.refusal.Refusal.TheVariants.{BadType, NeedsInstance}
use Rattle.tree_access.specs.declared.refusal.Subject.TheVariants.{Unit as OfUnit}
use Rattle.tree_access.specs.Rules.{relink_at}
use Rattle.footprint.specs.Steps.{refuse, ruled}
use Rattle.transaction.specs.Runs.{Runs, Gives, taking}
use Rattle.slot_commands.specs.SetDefault.{default_slot, default_file}
use Rattle.transaction.proofs.Running.{rule_stops}
use Rattle.slot_commands.proofs.set_default.SetDefault.default_file.Goals as goal

pub returns-in_err-entry : goal.returns-in_err-entry
unfolding default_file
returns-in_err-entry c =
    let name = c.args.self.now.unit in
    let real = c.args.real in
    let file = c.args.file.now in
    let old = c.args.txn.now in
    let mid = c.get.new.self in
    let slot = c.in_ok-slot.slot in
    let stop = c.in_err-entry.field-0.0 in
    let given = subst (λ (there : Option Entry). Gives (relink_at file slot there) (Err stop)) c.as_ref.ensures.value c.in_err-entry.ensures in
    let P : Bool → Bool → List ℕ → Type 0 =
    λ target template slot. Runs (taking (if target then (if template then refuse (NeedsInstance real) else ruled (relink_at file) slot) else refuse (BadType (OfUnit name)))) old mid (Err stop) in
    subst (Runs (taking (default_file name real file)) old mid) (sym (returned c.from_residual-in_err-entry.result stop c.from_residual-in_err-entry.ensures))
    (subst (λ (b : Bool). P b (is_template_name real) default_slot) c.if-not-is_target.ensures
    (subst (λ (b : Bool). P true b default_slot) c.if-is_template.ensures
    (subst (λ (slot : List ℕ). P true false slot) c.in_ok-slot.ensures.path (rule_stops (relink_at file) slot old mid c.in_ok-there.there stop c.in_ok-there.ensures.ok given))))
