-- `reader::join` meets its contract.
use Rattle.reader.specs.AddedLaws.{few_adds, many_add}
use Rattle.reader.proofs.join.Goals as goal

pub returns-then-few : goal.returns-then-few
returns-then-few c = record { added = c.join.ensures; sums_added = few_adds _ _ _ _ c.if-few.true c.add_pair.ensures }

pub returns-else-few : goal.returns-else-few
returns-else-few c = record { added = c.join.ensures; sums_added = many_add _ _ _ _ c.if-few.false }
