use Rattle.std.specs.Prelude.{ℕ, Bool, ◌&&◌, List, length, take, ◌==◌, slice_index, slice_index_or}
use Rattle.model.specs.Range.{any}
use Rattle.model.specs.Graph.{Graph}
use Rattle.loader.specs.declared.transfer.Transfer.{Transfer}

-- what stands past the last transfer
abbrev pub blank : Transfer
blank = record { from = 0; to = 0; cost = 0 }

-- the graph of so many tasks and machines, with these works and transfers
abbrev pub graph_of : ℕ → ℕ → List ℕ → ℕ → List Transfer → Graph
graph_of tasks machines works count transfers = record {
  tasks = tasks;
  machines = machines;
  count = count;
  work = λ t. slice_index works t;
  from = λ k. (slice_index_or transfers k blank).from;
  to = λ k. (slice_index_or transfers k blank).to;
  cost = λ k. (slice_index_or transfers k blank).cost;
}

-- the graph of the first works and transfers of longer lists
abbrev pub front_graph : ℕ → ℕ → List ℕ → ℕ → List Transfer → Graph
front_graph tasks machines works count transfers =
    graph_of tasks machines (take tasks works) count (take count transfers)

-- whether one of the transfers leads from a to b
unfoldable pub leads : List Transfer → ℕ → ℕ → Bool
leads ts a b = any (length ts) (λ k.
    ((slice_index_or ts k blank).from == a) && (slice_index_or ts k blank).to == b)
