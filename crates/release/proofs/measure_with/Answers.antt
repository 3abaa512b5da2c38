-- The file is judged first, then p, then q.
use mathlib.Core.Path.{refl}
use native.Mathlib.Omega.{arith}
use Rattle.std.proofs.lemmas.Result.{err_from_is_err_and}
use Rattle.release.specs.ReadLaws.{measure_done, measure_first, measure_none, measure_second, none_refused}
use Rattle.release.proofs.measure_with.Goals as goal

pub returns-in_err-n : goal.returns-in_err-n
returns-in_err-n c =
    let p = err_from_is_err_and c.from_residual.result c.from_residual.ensures.1 in
    let none = c.in_err-n.ensures.ok_part in
    rw (p.1, p.2, none_refused none c.in_err-n.ensures.value) (measure_none _ _ _ c.judge.ensures none)

pub find_node-requires : goal.find_node-requires
find_node-requires c =
    let x = (c.judge.ensures.exact _ c.in_ok-n.ensures.ok_part).compressed in
    omega (arith, x.small, x.nodes)

pub returns-in_err-from : goal.returns-in_err-from
returns-in_err-from c =
    let p = err_from_is_err_and c.from_residual-in_err-from.result c.from_residual-in_err-from.ensures.1 in
    let h = c.in_err-from.ensures.hidden in
    rw (p.1, p.2, h.0) (measure_first _ _ _ c.judge.ensures _ c.in_ok-n.ensures.ok_part refl h.1)

pub find_node-requires-2 : goal.find_node-requires-2
find_node-requires-2 c =
    let x = (c.judge.ensures.exact _ c.in_ok-n.ensures.ok_part).compressed in
    omega (arith, x.small, x.nodes)

pub returns-in_err-to : goal.returns-in_err-to
returns-in_err-to c =
    let p = err_from_is_err_and c.from_residual-in_err-to.result c.from_residual-in_err-to.ensures.1 in
    let h = c.in_err-to.ensures.hidden in
    rw (p.1, p.2, h.0) (measure_second _ _ _ c.judge.ensures _ c.in_ok-n.ensures.ok_part refl h.1)

pub distance-distance-requires : goal.distance-distance-requires
distance-distance-requires c =
    let f = c.in_ok-from.ensures.found in
    let t = c.in_ok-to.ensures.found in
    ((c.judge.ensures.exact _ c.in_ok-n.ensures.ok_part).compressed, rw f.0 f.1, rw t.0 t.1)

pub returns : goal.returns
returns c =
    let f = c.in_ok-from.ensures.found in
    let t = c.in_ok-to.ensures.found in
    measure_done _ _ _ c.judge.ensures _ c.in_ok-n.ensures.ok_part f.1 t.1 (rw (f.0, t.0) at c.distance-distance.ensures)
