-- `reader::read_groups` meets its contract.
use lib.ListN.{length}
use mathlib.Core.Path.{◌≡◌}
use Rattle.reader.specs.Decoding.{GroupsLeft}
use Rattle.reader.proofs.read_groups.Given as goal

abbrev pub invariant-loop-first : goal.invariant-loop-first
invariant-loop-first l = record {
  read : GroupsLeft l.n (length l.fn.firsts) l.initial.left l.file l.from l.first-index l.low l.left l.at l.groups.least l.first-items l.groups.kinds l.groups.classes;
  sums : l.groups.sums ≡ l.initial.groups.sums;
}
