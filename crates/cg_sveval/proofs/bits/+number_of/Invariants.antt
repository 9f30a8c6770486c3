use Rattle.cg_sveval.proofs.bits.+number_of.Given as goal

-- one bit less each time
abbrev pub decreases-number_of : goal.decreases-number_of
decreases-number_of l = l.most
