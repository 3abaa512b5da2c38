-- `release::reading::key_groups` meets its contract.
use Rattle.sums.specs.GroupedLaws.{compressed_led}
use Rattle.release.specs.TableLaws.{filled-visible, grouped_keys}
use Rattle.release.proofs.reading.key_groups.Goals as goal

pub key_groups-requires : goal.key_groups-requires
key_groups-requires c =
    let x = c.requires in
    (compressed_led x.0.exact.compressed, x.0.exact.compressed.groups, x.0.cubed, x.1)

pub adopt_hidden-requires : goal.adopt_hidden-requires
adopt_hidden-requires c = let x = c.requires.0 in filled-visible _ x.exact x.edges_of_lem

pub returns : goal.returns
returns c =
    let x = c.requires.0 in
    record { least = c.adopt_hidden.ensures; keys_of_lem = grouped_keys _ x.exact x.edges_of_lem (c.key_groups.ensures x.joined x.exact.compressed x.summed) }
