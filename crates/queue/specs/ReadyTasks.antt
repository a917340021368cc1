use Rattle.std.specs.Prelude.{Bool}
use Rattle.bag.specs.Pairs.{below, AtMost}
use Rattle.queue.specs.declared.ready.ReadyTask.{ReadyTask}

-- the greater bottom level comes first, among equals the lower task number
abbrev pub ready_before : ReadyTask → ReadyTask → Bool
ready_before x y = below y.level x.task x.level y.task

-- x has a greater bottom level than y, or the same and no greater number
abbrev pub ReadyLeads : ReadyTask → ReadyTask → Type 0
ReadyLeads x y = AtMost y.level x.task x.level y.task
