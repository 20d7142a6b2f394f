use Rattle.install_commands.specs.Disable.{links_removed}
use Rattle.install_commands.specs.Preset.{judged_named}
use Rattle.transaction.proofs.Running.{done_unless_refused}
use Rattle.install_commands.proofs.preset.disable_telling.Goals as goal

pub returns : goal.returns
returns c =
    done_unless_refused (judged_named c.args.disabled.now c.args.notices) (links_removed c.args.scope) c.args.txn.now c.name_judged.new.txn c.remove_links.new.txn
    c.in_ok-named.named c.in_ok-named.ensures c.remove_links.result c.remove_links.ensures
