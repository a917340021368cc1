use Rattle.compare.proofs.every_start.+try_all.Given as goal

abbrev pub decreases-try_all : goal.decreases-try_all
decreases-try_all l = l.left
