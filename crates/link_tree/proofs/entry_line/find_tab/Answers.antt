use Rattle.link_tree.specs.EntryLines.{is_tab}
use Rattle.byte_streams.proofs.FirstBytes.{first_place}
use Rattle.link_tree.proofs.entry_line.find_tab.Goals as goal

pub returns-clause-place : goal.returns-clause-place
returns-clause-place c = first_place is_tab c.args.text.now c.memchr.result c.memchr.ensures
