-- `release::reading::fill` meets its contract.
use mathlib.Core.Path.{◌∙◌}
use native.Mathlib.Omega.{arith}
use Rattle.release.specs.TableLaws.{filled-leading, filled_tables, filled-visible, first_labelled}
use Rattle.release.proofs.reading.fill.Goals as goal

pub put_labels-requires : goal.put_labels-requires
put_labels-requires c =
    let x = c.requires.exact in
    (x.0.compressed.small, x.1.nodes, omega (arith, x.0.compressed.nodes, x.0.compressed.small), first_labelled _ x.0 c.fill_edges.ensures)

pub fill_keys-requires : goal.fill_keys-requires
fill_keys-requires c =
    (filled-visible _ c.requires.exact.0 c.fill_edges.ensures, λ t. let y = c.requires.cubed t in record { joined = _; exact = c.requires.exact.0; edges_of_lem = c.fill_edges.ensures; cubed = y.0; summed = y.1 }, c.requires.exact.1.keys)

pub build-requires : goal.build-requires
build-requires c =
    let x = c.requires.exact in
    (x.0.compressed.small, c.put_labels.ensures.size ∙ x.1.nodes, filled-leading _ x.0 c.fill_edges.ensures x.1.nodes c.put_labels.ensures c.fill_keys.ensures.least)

pub returns : goal.returns
returns c =
    let x = c.requires.exact in
    filled_tables _ x.0 c.fill_edges.ensures x.1.nodes c.put_labels.ensures c.fill_keys.ensures.least c.fill_keys.ensures.keys_of_lem c.build.ensures
