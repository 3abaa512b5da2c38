-- `first_place` meets its contract.
use Rattle.std.proofs.Common.{◌≡◌, ◌-◌, sym, ◌∙◌, arith}
use Rattle.model.specs.Store.{max_states}
use Rattle.search.specs.Search.{first_from}
use Rattle.search.specs.SearchLaws.{skip_all, skip_found, skip_one}
use Rattle.places.proofs.first_place.Goals as goal

pub returns-then-passes : goal.returns-then-passes
returns-then-passes g c P h =
    (skip_found _ _ _ _ (c.loop-i.invariant P h) c.loop-i-test.true (sym (h _ _ c.loop-i-test.true c.passes.ensures) ∙ c.if-passes.true), c.loop-i-test.true)

pub loop-i-preserved : goal.loop-i-preserved
loop-i-preserved g c P h =
    skip_one _ _ _ _ (c.loop-i.invariant P h) c.loop-i-test.true (sym (h _ _ c.loop-i-test.true c.passes.ensures) ∙ c.if-passes.false)

pub returns : goal.returns
returns g c P h =
    let s = c.loop-i.invariant P h in
    let e : c.loop-i.i ≡ first_from P c.args.from (max_states - c.args.from) = skip_all P c.args.from max_states c.loop-i.i s c.loop-i-test.false in
    omega (arith, s.1)
