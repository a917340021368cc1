use Rattle.std.specs.Prelude.{ℕ, zero, suc, Bool, if◌then◌else◌, ◌&&◌, List, [], ◌==◌}
use Rattle.bag.specs.Bag.{insert}
use Rattle.model.specs.Graph.{Graph, level}
use Rattle.model.specs.Partial.{Partial, is_free}
use Rattle.queue.specs.declared.ready.ReadyTask.{ReadyTask}
use Rattle.queue.specs.ReadyTasks.{ready_before}

-- task t as it waits for its turn
abbrev pub ready_task : Graph → ℕ → ReadyTask
ready_task g t = record { level = level g t; task = t }

-- the bag of the tasks below n that pass a test
unfoldable pub tasks_where : Graph → (ℕ → Bool) → ℕ → List ReadyTask
tasks_where g f zero = []
tasks_where g f (suc n) =
    if f n then insert ready_before (ready_task g n) (tasks_where g f n) else tasks_where g f n

-- the bag of the free tasks
abbrev pub free_tasks : Graph → Partial → List ReadyTask
free_tasks g s = tasks_where g (is_free g s) g.tasks

-- after task t was placed: the bag with the tasks added that the first k transfers lead to from t,
-- and that are free now
unfoldable pub released : Graph → Partial → ℕ → ℕ → List ReadyTask → List ReadyTask
released g s t zero b = b
released g s t (suc k) b =
    if g.from k == t && is_free g s (g.to k)
    then insert ready_before (ready_task g (g.to k)) (released g s t k b) else released g s t k b

-- the same, all transfers seen
abbrev pub released_by : Graph → Partial → ℕ → List ReadyTask → List ReadyTask
released_by g s t b = released g s t g.count b
