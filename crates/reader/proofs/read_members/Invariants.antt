-- `reader::read_members` meets its contract.
use Prim.Native.Nat.{◌≤◌}
use mathlib.Core.Path.{◌≡◌}
use Rattle.reader.specs.Decoding.{LeastPutting, members_read, numbers_at, rest_at, taken}
use Rattle.reader.proofs.read_members.Given as goal

abbrev pub invariant-loop-k : goal.invariant-loop-k
invariant-loop-k l =
    (l.k ≤ l.count)
    × (members_read l.n (taken l.initial.least) l.from l.left (rest_at l.file l.at l.count l.k) ≡ members_read l.n (taken l.initial.least) l.initial.from l.initial.left (numbers_at l.file l.at l.count))
    × LeastPutting l.first (numbers_at l.file l.at l.count) (rest_at l.file l.at l.count l.k) l.from l.initial.least l.least
