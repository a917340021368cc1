use Rattle.std.specs.Prelude.{ℕ, List, [], ◌∷◌, take}
use Rattle.model.specs.Graph.{Graph}
use Rattle.loader.specs.declared.transfer.Transfer.{Transfer}
use Rattle.loader.specs.declared.sizes.Sizes.{Sizes}
use Rattle.loader.specs.declared.graph.TaskGraph.{TaskGraph}
use Rattle.loader.specs.View.{graph_of}
use Rattle.loader.specs.Description.{Description}

-- the works of a graph's tasks, its transfers and its bottom levels, as lists
abbrev pub works_of : TaskGraph → List ℕ
works_of g = take g.tasks g.works

abbrev pub transfers_of : TaskGraph → List Transfer
transfers_of g = take g.count g.transfers

abbrev pub levels_of : TaskGraph → List ℕ
levels_of g = take g.tasks g.levels

-- the graph that a value means
abbrev pub the_graph : TaskGraph → Graph
the_graph g = graph_of g.tasks g.machines (works_of g) g.count (transfers_of g)

-- what a file has to tell to give this value
abbrev pub description : TaskGraph → Description
description g =
    record {
      tasks = g.tasks;
      machines = g.machines;
      works = works_of g;
      transfers = transfers_of g;
    }

-- what a file tells by these numbers, the first works, and these transfers
abbrev pub description_of : Sizes → List ℕ → List Transfer → Description
description_of s works transfers =
    record {
      tasks = s.tasks;
      machines = s.machines;
      works = take s.tasks works;
      transfers = transfers;
    }

-- one task of work 1 on one machine
abbrev pub smallest : Description
smallest = record { tasks = 1; machines = 1; works = 1 ∷ []; transfers = [] }
