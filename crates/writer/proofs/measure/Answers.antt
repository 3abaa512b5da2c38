-- The leaders first in their list, and three counts from which the length follows.
use native.Mathlib.Omega.{arith}
use Rattle.layout.specs.WholeLaws.{leaders_fit, leaders_room, leaders-taken, length_is, nodes-le, rows_of, superedges_counted, taken-length, visible_fit}
use Rattle.layout.specs.WordLaws.{marked_as, rowed_of}
use Rattle.writer.specs.CountLaws.{visible_counted}
use Rattle.writer.proofs.measure.Goals as goal

pub slice_bounds-told-end : goal.slice_bounds-told-end
slice_bounds-told-end c = leaders_room _ _ (omega (arith, c.requires.0.small, c.requires.1)) c.collect_leaders-g.ensures

pub slice_bounds-told-end-2 : goal.slice_bounds-told-end-2
slice_bounds-told-end-2 c = taken-length _ _ (omega (arith, c.requires.0.small, c.requires.1)) c.collect_leaders-g.ensures

pub invariant_of-told : goal.invariant_of-told
invariant_of-told c = let taken = leaders-taken _ _ (omega (arith, c.requires.0.small, c.requires.1)) c.collect_leaders-g.ensures in record { rowed = rowed_of (rows_of c.requires.0 taken); marked = marked_as c.leader_set-set.ensures taken }

pub overflow_mul-result : goal.overflow_mul-result
overflow_mul-result c = let f = leaders_fit _ _ c.collect_leaders-g.ensures in let v = nodes-le _ _ (visible_fit _ _ (visible_counted _ _ c.requires.0.size c.count_visible-m.ensures)) in omega (arith, f.1, c.requires.0.small, c.count_superedges-s.ensures.1)

pub overflow_add-result : goal.overflow_add-result
overflow_add-result c = let f = leaders_fit _ _ c.collect_leaders-g.ensures in let v = nodes-le _ _ (visible_fit _ _ (visible_counted _ _ c.requires.0.size c.count_visible-m.ensures)) in omega (arith, f.1, c.requires.0.small, c.count_superedges-s.ensures.1)

pub overflow_mul-result-2 : goal.overflow_mul-result-2
overflow_mul-result-2 c = let f = leaders_fit _ _ c.collect_leaders-g.ensures in let v = nodes-le _ _ (visible_fit _ _ (visible_counted _ _ c.requires.0.size c.count_visible-m.ensures)) in omega (arith, f.1, c.requires.0.small, c.count_superedges-s.ensures.1)

pub overflow_add-result-2 : goal.overflow_add-result-2
overflow_add-result-2 c = let f = leaders_fit _ _ c.collect_leaders-g.ensures in let v = nodes-le _ _ (visible_fit _ _ (visible_counted _ _ c.requires.0.size c.count_visible-m.ensures)) in omega (arith, f.1, c.requires.0.small, c.count_superedges-s.ensures.1)

pub overflow_add-result-3 : goal.overflow_add-result-3
overflow_add-result-3 c = let f = leaders_fit _ _ c.collect_leaders-g.ensures in let v = nodes-le _ _ (visible_fit _ _ (visible_counted _ _ c.requires.0.size c.count_visible-m.ensures)) in omega (arith, f.1, c.requires.0.small, c.count_superedges-s.ensures.1)

pub returns : goal.returns
returns c =
    let p = c.requires in
    let taken = leaders-taken _ _ (omega (arith, p.0.small, p.1)) c.collect_leaders-g.ensures in
    let f = leaders_fit _ _ c.collect_leaders-g.ensures in
    let v = visible_fit _ _ (visible_counted _ _ c.requires.0.size c.count_visible-m.ensures) in
    let few = nodes-le _ _ v in
    let s = superedges_counted _ _ _ _ c.count_superedges-s.ensures.0 taken in
    record {
      listed = taken;
      set_is = c.leader_set-set.ensures;
      nodes_are = v;
      groups_are = f.0;
      superedges_are = s;
      bytes_are = length_is _ _ _ f.0 v s;
      nodes_fit = omega (arith, few, p.0.small);
      groups_fit_lem = omega (arith, f.1, p.0.small);
      superedges_fit_lem = c.count_superedges-s.ensures.1;
      bytes_fit = omega (arith, f.1, few, p.0.small, c.count_superedges-s.ensures.1);
    }
