-- The invariant: the keys of the nodes before p pass.
use Rattle.checks.specs.Checks.{KeysBelow}
use Rattle.checks.proofs.dense.keys_hold.Given as goal

abbrev pub invariant-loop-p : goal.invariant-loop-p
invariant-loop-p l = KeysBelow l.edges.n l.edges.words.now l.keys l.p
