use Rattle.compare.proofs.left_shifted.+try_all.Given as goal

abbrev pub decreases-try_all : goal.decreases-try_all
decreases-try_all l = l.left
