use Rattle.std.proofs.Common.{[], Ok, subst}
use Rattle.transaction.specs.Runs.{Runs, asking, doing}
use Rattle.install_commands.specs.Disable.{links_removed_but}
use Rattle.install_commands.specs.Reenable.{kept_behind}
use Rattle.transaction.proofs.Running.{done_after}
use Rattle.install_commands.proofs.reenable.clear_links.Goals as goal

pub returns : goal.returns
returns c =
    let named = c.args.named in
    let old = c.args.txn.now in
    let mid = c.keep_for_all.new.txn in
    let new = c.remove_links_but.new.txn in
    let kept = c.in_ok-kept.kept in
    let asked = subst (λ names. Runs (asking (kept_behind [] names)) old mid (Ok kept)) c.as_slice.ensures c.in_ok-kept.ensures.ok in
    let done = subst (λ kept. Runs (doing (links_removed_but c.args.scope kept named)) mid new c.remove_links_but.result) c.as_slice-2.ensures c.remove_links_but.ensures in
    done_after (kept_behind [] named.names) (λ kept. links_removed_but c.args.scope kept named) old mid new kept asked c.remove_links_but.result done
