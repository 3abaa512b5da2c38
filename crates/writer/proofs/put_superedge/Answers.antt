-- The mark and two positions, one after the other.
use borrow.Author.Rules.{rules}
use Rattle.model.specs.Release.{u16}
use Rattle.layout.specs.FileLaws.{wrote_superedge}
use Rattle.writer.proofs.put_superedge.Goals as goal

pub put_u16-requires : goal.put_u16-requires
unfolding u16
put_u16-requires c = search rules

pub returns : goal.returns
returns c = wrote_superedge _ _ c.put_two-a.ensures c.put_u16-b.ensures c.put_u16.ensures
