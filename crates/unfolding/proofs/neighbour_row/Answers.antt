-- `unfolding::neighbour_row` meets its contract.
use Rattle.std.proofs.Common.{refl, arith}
use Rattle.search.specs.SearchLaws.{row-length}
use Rattle.unfolding.specs.SpreadLaws.{fitting, placed_first, row-clique, row_plain}
use Rattle.unfolding.proofs.neighbour_row.Goals as goal

pub offset_bounds-least-p : goal.offset_bounds-least-p
offset_bounds-least-p c = omega (arith, placed_first c.requires.0 _ c.requires.1)

pub bounds-least-p : goal.bounds-least-p
bounds-least-p c = omega (arith, placed_first c.requires.0 _ c.requires.1)

pub clique_row-requires : goal.clique_row-requires
clique_row-requires c =
    let start = c.requires in
    let low = placed_first start.0 _ start.1 in
    (start.0.small, omega (arith, start.0.nodes, start.0.small), fitting start.0, row-length c.args.joined.now c.wide-l.result (omega (arith, start.0.small, c.wide-l.ensures, start.0.rows)), omega (arith, start.0.small, c.wide-l.ensures), omega (arith, start.0.small))

pub returns-then-kinds-l-eq-CLIQUE : goal.returns-then-kinds-l-eq-CLIQUE
returns-then-kinds-l-eq-CLIQUE c = row-clique c.requires.0 _ c.requires.1 c.wide-l.ensures c.if-kinds-l-eq-CLIQUE.true refl c.clique_row.ensures

pub spread-requires : goal.spread-requires
spread-requires c =
    let start = c.requires in
    let low = placed_first start.0 _ start.1 in
    (start.0.small, omega (arith, start.0.nodes, start.0.small), fitting start.0, row-length c.args.joined.now c.wide-l.result (omega (arith, start.0.small, c.wide-l.ensures, start.0.rows)))

pub returns : goal.returns
returns c = row_plain c.requires.0 _ c.requires.1 c.wide-l.ensures c.if-kinds-l-eq-CLIQUE.false refl c.spread.ensures
