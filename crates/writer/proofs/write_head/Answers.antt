-- The mark and three numbers, one after the other.
use borrow.Author.Rules.{rules}
use Rattle.model.specs.Release.{u16}
use Rattle.layout.specs.FileLaws.{wrote_head}
use Rattle.writer.proofs.write_head.Goals as goal

pub put_u16-c-requires : goal.put_u16-c-requires
unfolding u16
put_u16-c-requires c = search rules

pub put_u16-requires : goal.put_u16-requires
unfolding u16
put_u16-requires c = search rules

pub returns : goal.returns
returns c = wrote_head _ _ _ c.put_two-a.ensures c.put_u16-b.ensures c.put_u16-c.ensures c.put_u16.ensures
