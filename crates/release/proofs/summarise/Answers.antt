-- What is masked tells the visible part, so its least members are those of the graph's visible nodes.
use Rattle.masking.specs.MaskLaws.{masked_apart, masked_truth}
use Rattle.release.proofs.summarise.Goals as goal

pub find_groups-requires : goal.find_groups-requires
find_groups-requires c = let pre = c.requires in (masked_apart pre.0 (c.mask_edges.ensures _), pre.2)

pub returns : goal.returns
returns c = masked_truth c.requires.0 (c.mask_edges.ensures _) c.find_groups.ensures
