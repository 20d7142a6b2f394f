use Rattle.link_tree.proofs.Leads.{leads}
use Rattle.link_tree.proofs.laws.changes_lead_from_tree_to_tree.Goals as goal

pub returns : goal.returns
returns c = leads
