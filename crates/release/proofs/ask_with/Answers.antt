-- The file is judged first, then p; then the buffer is tested.
use borrow.Author.Rules.{rules}
use mathlib.Core.Path.{refl, sym, ◌∙◌}
use native.Mathlib.Omega.{arith}
use Rattle.std.proofs.lemmas.Result.{err_from_is_err_and}
use Rattle.release.specs.ReadLaws.{ask_hidden, ask_none, ask_reached, ask_told, none_refused}
use Rattle.release.proofs.ask_with.Goals as goal

pub returns-in_err-n : goal.returns-in_err-n
returns-in_err-n c =
    let p = err_from_is_err_and c.from_residual.result c.from_residual.ensures.1 in
    let none = c.in_err-n.ensures.ok_part in
    rw (p.1, p.2, none_refused none c.in_err-n.ensures.value) (ask_none _ _ _ c.judge.ensures none)

pub find_node-requires : goal.find_node-requires
find_node-requires c =
    let x = (c.judge.ensures.exact _ c.in_ok-n.ensures.ok_part).compressed in
    omega (arith, x.small, x.nodes)

pub returns-in_err-node : goal.returns-in_err-node
returns-in_err-node c =
    let p = err_from_is_err_and c.from_residual-in_err-node.result c.from_residual-in_err-node.ensures.1 in
    let h = c.in_err-node.ensures.hidden in
    rw (p.1, p.2, h.0) (ask_hidden _ _ _ c.judge.ensures _ c.in_ok-n.ensures.ok_part refl h.1)

pub neighbour_row-row-requires : goal.neighbour_row-row-requires
neighbour_row-row-requires c =
    let f = c.in_ok-node.ensures.found in
    ((c.judge.ensures.exact _ c.in_ok-n.ensures.ok_part).compressed, rw f.0 f.1)

pub list_row-requires : goal.list_row-requires
list_row-requires c =
    (search rules, ask_reached c.judge.ensures _ c.in_ok-n.ensures.ok_part c.neighbour_row-row.ensures)

pub returns : goal.returns
returns c =
    let f = c.in_ok-node.ensures.found in
    c.list_row.ensures ∙ ask_told _ _ _ c.judge.ensures _ c.in_ok-n.ensures.ok_part refl f.1 (rw f.0 at c.neighbour_row-row.ensures)
