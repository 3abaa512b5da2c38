-- Next members go up, so the walk ends, and what is left to write is the rest of the chain.
use Prim.Native.Nat.{◌-◌}
use Rattle.layout.specs.FileLaws.{MembersLeft}
use Rattle.writer.proofs.Groups.write_members.Given as goal

abbrev pub invariant-loop-q : goal.invariant-loop-q
invariant-loop-q l = MembersLeft l.initial.out l.at l.self.next.now l.self.n l.first l.out l.to l.q

abbrev pub decreases-loop-q : goal.decreases-loop-q
decreases-loop-q l = l.self.n - l.q
