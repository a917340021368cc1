use Rattle.std.proofs.Common.{◌≡◌, ◌++◌, take}
use Rattle.page.proofs.sheet.Sheet.word.Given as goal

abbrev pub invariant-loop-byte : goal.invariant-loop-byte
invariant-loop-byte l = l.self ≡ l.initial.self ++ take l.byte-index l.byte-items
