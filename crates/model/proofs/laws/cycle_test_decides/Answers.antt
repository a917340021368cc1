use Rattle.model.proofs.Cycles.{cyclic-lowest, cyclic-none}
use Rattle.model.proofs.laws.cycle_test_decides.Goals as goal

pub returns : goal.returns
returns c = λ g E. (cyclic-lowest g E, cyclic-none g E)
