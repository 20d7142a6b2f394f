use Rattle.std.proofs.Common.{◌≡◌, ◌++◌, drop}
use Rattle.std.specs.List.{flat_map}
use Rattle.unit_lists.specs.StatusTexts.{link_line}
use Rattle.unit_lists.proofs.status_text.push_links.Given as goal

-- the text so far, and that of what is left
abbrev pub invariant-loop-link : goal.invariant-loop-link
invariant-loop-link l = l.out.items ++ flat_map (link_line l.notes) (drop l.link-index l.links) ≡ l.fn.out.items ++ flat_map (link_line l.notes) l.links
