use Rattle.std.proofs.Common.{Ok, subst}
use Rattle.transaction.specs.Runs.{Runs, asking_for}
use Rattle.install_commands.specs.Disable.{links_removed, units_named}
use Rattle.transaction.proofs.Running.{done_unless_refused}
use Rattle.install_commands.proofs.disable.Disable.carry_out.Goals as goal

pub returns : goal.returns
returns c =
    let old = c.args.txn.now in
    let mid = c.name_units.new.txn in
    let named = c.in_ok-named.named in
    let asked = subst (λ units. Runs (asking_for (units_named units)) old mid (Ok named)) c.as_slice.ensures c.in_ok-named.ensures in
    done_unless_refused (units_named c.args.self.now.units) (links_removed c.args.self.now.scope) old mid c.remove_links.new.txn named asked c.remove_links.result c.remove_links.ensures
