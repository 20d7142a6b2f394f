use Rattle.load_path.proofs.following.+chain.Given as goal

abbrev pub decreases-chain : goal.decreases-chain
decreases-chain l = l.links
