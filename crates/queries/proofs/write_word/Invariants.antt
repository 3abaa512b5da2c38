-- What is left to write are the bits that are left.
use Prim.Native.Nat.{◌^◌, ◌<◌}
use Rattle.model.specs.Queries.{pairs}
use Rattle.buffers.specs.WordBits.{bits_from}
use Rattle.buffers.specs.Wrote.{Left}
use Rattle.queries.specs.Query.{Reaches, leader_at}
use Rattle.queries.proofs.write_word.Given as goal

abbrev pub invariant-loop-k : goal.invariant-loop-k
invariant-loop-k l = (l.k-iterator.word < 2 ^ 64) × Reaches l.least l.stride (bits_from l.b l.k-iterator.word) × Left l.initial.out l.at (pairs (leader_at l.least l.stride) (bits_from l.b l.word)) l.out l.to (pairs (leader_at l.least l.stride) (bits_from l.b l.k-iterator.word))
