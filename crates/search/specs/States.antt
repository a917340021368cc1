use Rattle.std.specs.Prelude.{ℕ, List}
use Rattle.queue.specs.declared.entry.Entry.{Entry}
use Rattle.nodes.specs.declared.table.Table.{Table}
use Rattle.nodes.specs.Meaning.{the_nodes}
use Rattle.astar.specs.declared.tally.Tally.{Tally}
use Rattle.astar.specs.States.{SearchState}
use Rattle.search.specs.declared.search.Search.{Search}
use Rattle.search.specs.declared.search.Settled.{Settled}
use Rattle.search.specs.Runs.{Moment}

-- the state that counts, table and bag mean
abbrev pub the_state : Tally → Table → List Entry → SearchState
the_state s t b = record { tally = s; nodes = the_nodes t; bag = b }

-- all that a search stands on between two calls
abbrev pub moment : Search → Table → List Entry → ℕ → Moment
moment s t b limit = record { sizes = s.sizes; state = the_state s.tally t b; limit = limit }

-- the search that was settled
abbrev pub search_of : Settled → Search
search_of d = d.search
