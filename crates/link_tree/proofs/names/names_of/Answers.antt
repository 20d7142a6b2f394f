use Rattle.std.proofs.Common.{◌++◌, ap, ◌∙◌}
use Rattle.name_lists.specs.Lists.{listed}
use Rattle.link_tree.specs.Pieces.{joined}
use Rattle.link_tree.specs.Belonging.{paths_of}
use Rattle.link_tree.proofs.Listings.{none_at_first}
use Rattle.link_tree.proofs.names.names_of.Goals as goal

pub returns : goal.returns
returns c name =
    c.in_ok-list_pieces.ensures name
    ∙ ap (λ l. l ++ paths_of c.args.scope name (joined c.pieces.result.now)) (ap (λ lists. listed lists name) c.in_ok-lists.ensures ∙ none_at_first name)
    ∙ ap (paths_of c.args.scope name) c.pieces.ensures.entries
