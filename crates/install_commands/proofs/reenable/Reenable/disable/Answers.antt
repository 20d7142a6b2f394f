use Rattle.std.proofs.Common.{Ok, subst}
use Rattle.transaction.specs.Runs.{Runs, asking_for}
use Rattle.install_commands.specs.Reenable.{checked_named, links_cleared}
use Rattle.transaction.proofs.Running.{done_unless_refused}
use Rattle.install_commands.proofs.reenable.Reenable.disable.Goals as goal

pub returns : goal.returns
returns c =
    let old = c.args.txn.now in
    let mid = c.check_and_name.new.txn in
    let named = c.in_ok-named.named in
    let asked = subst (λ units. Runs (asking_for (checked_named units)) old mid (Ok named)) c.as_slice.ensures c.in_ok-named.ensures in
    done_unless_refused (checked_named c.args.self.now.units) (links_cleared c.args.self.now.scope) old mid c.clear_links.new.txn named asked c.clear_links.result c.clear_links.ensures
