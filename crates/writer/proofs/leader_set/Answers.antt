-- A node that leads its group is its own least member.
use Rattle.std.proofs.Common.{refl, rules}
use Rattle.rows.specs.Rows.{leads}
use Rattle.layout.specs.WordLaws.{marking_done}
use Rattle.writer.proofs.leader_set.Goals as goal

pub returns : goal.returns
unfolding leads
returns c = marking_done c.args.least.now (c.set_of.ensures (leads c.args.least.now) (λ p b l post. search rules)) refl c.requires.0
