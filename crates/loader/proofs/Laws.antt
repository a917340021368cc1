use Rattle.std.proofs.Common.{◌≡◌, ℕ, ◌<◌, get_or, sym, ◌∙◌, subst, get_or-take}
use Rattle.model.specs.Graph.{Lawful, level, BottomLevel}
use Rattle.model.proofs.Starts.{lawful-dag}
use Rattle.model.proofs.Levels.{level-bottom}
use Rattle.loader.specs.declared.graph.TaskGraph.{TaskGraph}
use Rattle.loader.specs.Meaning.{the_graph, levels_of}

-- every value of the type is lawful
pub the_lawful : (g : TaskGraph) → Lawful (the_graph g)
the_lawful g = g.lawful

-- the levels kept with the graph are its bottom levels
pub levels-are : (g : TaskGraph) (t : ℕ) → t < g.tasks → get_or (levels_of g) t 0 ≡ level (the_graph g) t
levels-are g t h = get_or-take g.tasks g.levels t 0 h ∙ g.bottom t h

pub levels-bottom : (g : TaskGraph) (t : ℕ) → t < g.tasks → BottomLevel (the_graph g) t (get_or (levels_of g) t 0)
levels-bottom g t h = subst (BottomLevel (the_graph g) t) (sym (levels-are g t h)) (level-bottom (the_graph g) (lawful-dag (the_lawful g)) t h)
