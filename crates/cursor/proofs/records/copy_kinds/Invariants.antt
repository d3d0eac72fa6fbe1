use Rattle.std.proofs.Common.{◌≡◌, ◌+◌, ◌-◌}
use Rattle.cursor.specs.Buffer.{copy}
use Rattle.cursor.proofs.records.copy_kinds.Given as goal

-- what is left to copy from here gives what the whole copy gives
abbrev pub invariant-loop-k : goal.invariant-loop-k
invariant-loop-k l = copy l.initial.expected l.from l.live 0 l.count ≡ copy l.expected (l.from + l.k) l.live l.k (l.count - l.k)
