use Rattle.std.specs.Prelude.{ℕ, List, length}
use Rattle.model.specs.Graph.{Graph}
use Rattle.loader.specs.declared.transfer.Transfer.{Transfer}
use Rattle.loader.specs.View.{graph_of}

-- what a file tells of a graph: how many tasks and machines there are, the work of each task,
-- and the transfers
pub record Description : Type 0 where
  pub tasks : ℕ
  pub machines : ℕ
  pub works : List ℕ
  pub transfers : List Transfer

-- the graph that it describes
abbrev pub described : Description → Graph
described d = graph_of d.tasks d.machines d.works (length d.transfers) d.transfers
