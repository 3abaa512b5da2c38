-- `adopting::adopt_hidden` meets its contract.
use Rattle.std.proofs.Common.{arith}
use Rattle.search.specs.SearchLaws.{within-length}
use Rattle.adopting.specs.HidingLaws.{told_alone, told_high, told_low, told_none}
use Rattle.adopting.proofs.adopt_hidden.Goals as goal

pub returns-in_default : goal.returns-in_default
returns-in_default c = told_none c.requires c.in_default.ensures

pub find_isolated-requires : goal.find_isolated-requires
find_isolated-requires c = let start = c.requires in (start.within.small, start.size, start.labelled, omega (arith, within-length start.within))

pub returns-in-Some-find_isolated : goal.returns-in-Some-find_isolated
returns-in-Some-find_isolated c = let i = c.in-Some-find_isolated.ensures in told_low c.requires c.in-Some.ensures (λ l. i.1) (λ p l b. i.2 p b) c.if-isolated-hidden.true c.rename.ensures

pub returns-in-Some-2 : goal.returns-in-Some-2
returns-in-Some-2 c = let i = c.in-Some-find_isolated.ensures in told_high c.requires c.in-Some.ensures (λ l. i.1) (λ p l b. i.2 p b) c.if-isolated-hidden.false c.rename-in-Some-2.ensures c.rename-in-Some-2-2.ensures

pub returns-in-None : goal.returns-in-None
returns-in-None c = told_alone c.requires c.in-Some.ensures {i = c.args.n} (λ l. absurd (omega arith)) (λ p l b. c.in-None.ensures p l) (omega arith) c.rename-in-None.ensures
