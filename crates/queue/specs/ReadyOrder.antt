use Rattle.bag.specs.Order.{Total}
use Rattle.bag.proofs.Pairs.{ascending, reversed}
use Rattle.queue.specs.declared.ready.ReadyTask.{ReadyTask}
use Rattle.queue.specs.ReadyTasks.{ready_before}

-- The lemma that the ghost members of a ready task cite.

pub tasks-ordered : Total ready_before
tasks-ordered = reversed (λ x y. ready_before y x)
    (ascending (λ (x : ReadyTask). x.level) (λ x. x.task)
    (λ x y p q t. record { level = p t; task = q t }))
