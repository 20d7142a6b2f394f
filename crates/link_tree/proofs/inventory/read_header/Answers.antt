use Rattle.link_tree.proofs.Entries.{header_found, header_missed}
use Rattle.link_tree.proofs.inventory.read_header.Goals as goal

pub returns-then-branch-clause-header : goal.returns-then-branch-clause-header
returns-then-branch-clause-header g c bytes e = header_found _ _ _ (c.in_ok-skip_prefix.ensures.prefix bytes e) c.if-branch.true

pub returns-else-branch-clause-header : goal.returns-else-branch-clause-header
returns-else-branch-clause-header g c bytes e = header_missed _ _ _ (c.in_ok-skip_prefix.ensures.prefix bytes e) c.if-branch.false
