use Rattle.std.proofs.Common.{ℕ, List, Ok, Err, map as list_map, sym, subst}
use Rattle.unit_paths.specs.declared.place.Scope.{Scope}
use Rattle.link_tree.proofs.Stops.{returned}
use Rattle.tree_access.specs.declared.key.Key.TheVariants.{Marked}
use Rattle.footprint.specs.Commands.{telling}
use Rattle.footprint.specs.Inquiry.{Inquiry, entries_of_all, giving}
use Rattle.tree_access.specs.Placing.{Wanted, cleared}
use Rattle.footprint.specs.Steps.{all_at_once}
use Rattle.transaction.specs.Runs.{Runs, asking, doing}
use Rattle.install_commands.specs.Disable.{but_at}
use Rattle.install_commands.specs.Disable as disabling
use Rattle.transaction.proofs.Running.{done_after, step_stops}
use Rattle.install_commands.proofs.disable.remove_links_but.Goals as goal

abbrev unwanted : Scope → (kept names : List (List ℕ)) → Inquiry Wanted
unwanted scope kept names = giving (entries_of_all (list_map (Marked scope) names)) (λ links. but_at (cleared links) kept)

pub returns-in_err-all_at_once : goal.returns-in_err-all_at_once
returns-in_err-all_at_once c =
    let named = c.args.named in
    let old = c.args.txn.now in
    let mid = c.collect_unwanted.new.txn in
    let new = c.all_at_once.new.self in
    let wanted = c.in_ok-wanted.wanted in
    let stop = c.in_err-all_at_once.field-0.0 in
    let q = unwanted c.args.scope c.args.kept.now in
    let asked = subst (λ names. Runs (asking (q names)) old mid (Ok wanted)) c.as_slice.ensures c.in_ok-wanted.ensures.ok in
    subst (Runs (doing (disabling.links_removed_but c.args.scope c.args.kept.now named)) old new) (sym (returned c.from_residual-in_err-all_at_once.result stop c.from_residual-in_err-all_at_once.ensures))
    (done_after (q named.names) (λ wanted. telling named.notices (all_at_once wanted)) old mid new wanted asked (Err stop) (step_stops named.notices (all_at_once wanted) mid new stop c.in_err-all_at_once.ensures))
