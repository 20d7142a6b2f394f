use Rattle.load_path.proofs.Places.{place_is_entrys, missing_has_no_entry}
use Rattle.load_path.proofs.Candidates.{find_looks_along_chain}
use Rattle.load_path.proofs.FirstEntries.{names_are_found_by_first_entry}
use Rattle.load_path.proofs.laws.the_first_entry_counts.Goals as goal

pub returns-clause-place : goal.returns-clause-place
returns-clause-place c = place_is_entrys

pub returns-clause-missing : goal.returns-clause-missing
returns-clause-missing c = missing_has_no_entry

pub returns-clause-cells : goal.returns-clause-cells
returns-clause-cells c = find_looks_along_chain

pub returns-clause-found : goal.returns-clause-found
returns-clause-found c = names_are_found_by_first_entry
