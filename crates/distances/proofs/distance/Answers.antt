-- `distances::distance` meets its contract.
use Rattle.std.proofs.Common.{◌∙◌, arith}
use Rattle.compressed.specs.PlacedLaws.{placed-lt}
use Rattle.distances.specs.HeldLaws.{held_first, held_across, held-alone, held-clique, held_linked, held_rows, held_same}
use Rattle.distances.proofs.distance.Goals as goal

pub returns-then-p-q : goal.returns-then-p-q
returns-then-p-q c =
    let pre = c.requires in
    held_same _ _ _ _ pre.0 _ _ pre.1 pre.2 c.if-p-q.true

pub offset_bounds-least-p : goal.offset_bounds-least-p
offset_bounds-least-p c = omega (arith, placed-lt _ _ _ c.requires.1)

pub bounds-least-p : goal.bounds-least-p
bounds-least-p c = omega (arith, placed-lt _ _ _ c.requires.1)

pub offset_bounds-least-q : goal.offset_bounds-least-q
offset_bounds-least-q c = omega (arith, placed-lt _ _ _ c.requires.2)

pub bounds-least-q : goal.bounds-least-q
bounds-least-q c = omega (arith, placed-lt _ _ _ c.requires.2)

pub search-requires : goal.search-requires
search-requires c =
    let pre = c.requires in
    let l = held_first _ _ _ _ pre.0 in
    (held_rows _ _ _ _ pre.0, omega (arith, c.wide-i.ensures, l _ pre.1), omega (arith, c.wide-j.ensures, l _ pre.2), c.if-i-j.true)

pub returns-then-i-j : goal.returns-then-i-j
returns-then-i-j c =
    let pre = c.requires in
    c.unwrap_or.ensures ∙ held_across _ _ _ _ pre.0 _ _ pre.1 pre.2 c.wide-i.ensures c.wide-j.ensures c.if-i-j.true c.search.ensures

pub offset_bounds-kinds-i : goal.offset_bounds-kinds-i
offset_bounds-kinds-i c = omega (arith, held_first _ _ _ _ c.requires.0 _ c.requires.1)

pub bounds-kinds-i : goal.bounds-kinds-i
bounds-kinds-i c = omega (arith, held_first _ _ _ _ c.requires.0 _ c.requires.1)

pub returns-then-kinds-i-eq-CLIQUE : goal.returns-then-kinds-i-eq-CLIQUE
returns-then-kinds-i-eq-CLIQUE c =
    let pre = c.requires in
    held-clique _ _ _ _ pre.0 _ _ pre.1 pre.2 c.wide-i.ensures c.wide-j.ensures c.if-p-q.false c.if-i-j.false c.if-kinds-i-eq-CLIQUE.true

pub slice_bounds-row-end : goal.slice_bounds-row-end
slice_bounds-row-end c = omega (arith, held_first _ _ _ _ c.requires.0 _ c.requires.1)

pub returns-then-meet : goal.returns-then-meet
returns-then-meet c =
    let pre = c.requires in
    held_linked _ _ _ _ pre.0 _ _ pre.1 pre.2 c.wide-i.ensures c.wide-j.ensures c.if-p-q.false c.if-i-j.false c.if-kinds-i-eq-CLIQUE.false c.meet.ensures c.if-meet.true

pub returns : goal.returns
returns c =
    let pre = c.requires in
    held-alone _ _ _ _ pre.0 _ _ pre.1 pre.2 c.wide-i.ensures c.wide-j.ensures c.if-p-q.false c.if-i-j.false c.if-kinds-i-eq-CLIQUE.false c.meet.ensures c.if-meet.false
