use Rattle.load_path.proofs.Chains.{follow_is_chain, file_is_led}
use Rattle.load_path.proofs.Along.{follow_looks_along_chain}
use Rattle.load_path.proofs.laws.chains_are_followed.Goals as goal

pub returns-clause-chain : goal.returns-clause-chain
returns-clause-chain c = follow_is_chain

pub returns-clause-file : goal.returns-clause-file
returns-clause-file c = file_is_led

pub returns-clause-cells : goal.returns-clause-cells
returns-clause-cells c = follow_looks_along_chain
