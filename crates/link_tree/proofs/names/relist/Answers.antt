use Rattle.std.proofs.Common.{List, ℕ, ap, ◌∙◌}
use Rattle.std.specs.Option.{option_copied}
use Rattle.name_lists.specs.Lists.{listed, relisted}
use Rattle.link_tree.specs.Trees.{set_entry}
use Rattle.link_tree.specs.Belonging.{belonging}
use Rattle.link_tree.proofs.Listings.{relisted_is, own_name}
use Rattle.link_tree.proofs.names.relist.Goals as goal

pub returns : goal.returns
returns c m listing text =
    let name = c.args.name.now in
    let p = c.args.path.now in
    let now = option_copied c.args.after in
    let is = c.in_ok-list.ensures ∙ ap (relisted c.holds_at-listed.result p) c.get.ensures ∙ relisted_is c.args.scope name p now m c.args.lists.now c.holds_at-listed.result c.holds_at-listed.ensures listing in
    c.in_ok-change.ensures.ok text
    ∙ own_name name text (λ (t : List ℕ). belonging c.args.scope t (set_entry m p now)) c.in_ok-list.list.items (listed c.args.next.now text) is
