-- Members, then the mark, the count and the class before them.
use borrow.Author.Rules.{rules}
use native.Mathlib.Omega.{arith}
use Rattle.layout.specs.FileLaws.{chain_head, members_end, members_few, room_class, room_count, room_mark, room_members, wrote_group}
use Rattle.writer.proofs.Groups.write_group.Goals as goal

pub write_members-to-requires : goal.write_members-to-requires
write_members-to-requires c = room_members _ _ _ _ c.requires.l_in_bounds

pub put_group_mark-a-requires : goal.put_group_mark-a-requires
put_group_mark-a-requires c = room_mark _ _ _ _ c.requires.l_in_bounds c.write_members-to.ensures

pub put_u16-b-requires : goal.put_u16-b-requires
put_u16-b-requires c = (let z = members_few _ _ _ _ c.args.self.ahead.small c.write_members-to.ensures in omega (arith, z), room_count _ _ _ c.is_clique-clique.result c.requires.l_in_bounds c.write_members-to.ensures c.put_group_mark-a.ensures)

pub put_u16-requires : goal.put_u16-requires
put_u16-requires c = (search rules, room_class _ _ _ c.is_clique-clique.result c.requires.l_in_bounds c.write_members-to.ensures c.put_group_mark-a.ensures _ c.put_u16-b.ensures)

pub returns : goal.returns
returns c =
    let m = c.write_members-to.ensures in
    let z = members_end _ _ m in
    wrote_group _ _ _ m c.is_clique-clique.ensures c.put_group_mark-a.ensures (omega (arith, z)) c.put_u16-b.ensures (chain_head _ _ _ c.requires.l_lt_n) c.wide.ensures c.put_u16.ensures
