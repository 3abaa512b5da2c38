-- `reader::read_joined` meets its contract.
use mathlib.Core.Path.{◌∙◌, sym}
use Rattle.reader.specs.MirrorLaws.{both_ways, one_way}
use Rattle.reader.specs.SummedLaws.{both_read}
use Rattle.reader.proofs.read_joined.Goals as goal

pub returns-then-are_few : goal.returns-then-are_few
returns-then-are_few c = both_read _ _ _ _ _ _ _ _ _ _ _ c.requires.joined_value.0 c.requires.firsts_are_nodes.1 c.requires.firsts_are_nodes.2 c.sum_groups.ensures c.read_superedges.ensures

pub mirror-requires : goal.mirror-requires
mirror-requires c = (c.requires.firsts_are_nodes.0.small, one_way _ _ _ _ _ _ _ _ _ _ c.requires.joined_value.0 c.requires.joined_value.1 c.requires.firsts_are_nodes.2 c.read_superedges-at.ensures)

pub returns : goal.returns
returns c =
    let many = sym c.are_few.ensures ∙ c.if-are_few.false in
    both_ways _ _ _ _ _ _ _ _ _ _ c.requires.joined_value.0 c.requires.joined_value.1 c.requires.firsts_are_nodes.2 c.read_superedges-at.ensures _ _ c.requires.firsts_are_nodes.0.small c.requires.joined_value.2 many c.mirror.ensures
