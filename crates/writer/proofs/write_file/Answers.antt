-- The four parts, one after the other; the room for each is what the whole file leaves.
use mathlib.Core.Path.{refl}
use native.Mathlib.Omega.{arith}
use Rattle.layout.specs.LinkLaws.{linked_ahead}
use Rattle.layout.specs.WholeLaws.{nodes-le, room_end, room_groups, room_head, room_super, rows_of, wrote_file}
use Rattle.layout.specs.WordLaws.{leading_of}
use Rattle.writer.proofs.write_file.Goals as goal

pub positions_of-position-requires : goal.positions_of-position-requires
positions_of-position-requires c = leading_of c.requires.partition.0 c.requires.leaders_value

pub write_head-a-requires : goal.write_head-a-requires
write_head-a-requires c = let r = rows_of c.requires.partition.0 c.requires.leaders_value in let k = nodes-le _ _ c.requires.m_value in (omega (arith, r), omega (arith, r), omega (arith, r), room_head _ _ _ _ c.requires.edges_in_bounds)

pub invariant_of-groups : goal.invariant_of-groups
invariant_of-groups c = record { ahead = linked_ahead _ _ _ c.requires.partition.0.small c.link.ensures; rows = c.requires.partition.0.rows; classed = c.requires.partition.1 }

pub write-b-requires : goal.write-b-requires
write-b-requires c = record { rows = rows_of c.requires.partition.0 c.requires.leaders_value; leaders_in_bounds = room_groups _ _ _ _ _ _ c.requires.partition.0 c.link.ensures c.requires.leaders_value _ c.requires.edges_in_bounds _ _ c.write_head-a.ensures }

pub write_superedges-c-requires : goal.write_superedges-c-requires
write_superedges-c-requires c = record { places = c.positions_of-position.ensures; leaders_in_bounds = room_super _ _ _ _ _ _ c.requires.partition.0 c.link.ensures c.requires.leaders_value _ c.requires.edges_in_bounds _ _ c.write_head-a.ensures c.write-b.ensures }

pub put_two-requires : goal.put_two-requires
put_two-requires c = room_end _ _ _ _ _ _ c.requires.partition.0 c.link.ensures c.requires.leaders_value _ c.requires.edges_in_bounds _ _ c.write_head-a.ensures c.write-b.ensures c.write_superedges-c.ensures

pub returns : goal.returns
returns c = wrote_file _ _ _ _ _ _ c.requires.partition.0 c.link.ensures c.requires.leaders_value _ c.requires.edges_in_bounds _ _ c.write_head-a.ensures c.write-b.ensures c.write_superedges-c.ensures c.requires.m_value refl c.put_two.ensures
