-- `store::named` meets its contract.
use Rattle.std.proofs.Common.{arith, ap, Bor, List, ℕ}
use Rattle.store.proofs.StoredLaws.{both_right, name_wrong, none_refused, store_wrong}
use Rattle.store.proofs.named.Goals as goal

pub returns-in_err-kept-clause-number : goal.returns-in_err-kept-clause-number
returns-in_err-kept-clause-number c =
    none_refused _ _ _ _ c.from_residual.ensures.1 c.in_err-kept.ensures.value (store_wrong _ _ c.args.name.now (rw c.in_err-kept.ensures.ok_part at c.new.ensures))

pub returns-in_err-name-clause-number : goal.returns-in_err-name-clause-number
returns-in_err-name-clause-number c =
    none_refused _ _ _ _ c.from_residual-in_err-name.ensures.1 c.in_err-name.ensures.value (name_wrong _ c.args.store.now _ (rw c.in_err-name.ensures.ok_part at c.new-2.ensures))

pub returns-clause-number : goal.returns-clause-number
returns-clause-number c =
    let k = rw c.in_ok-kept.ensures.ok_part at c.new.ensures in
    let m = rw c.in_ok-name.ensures.ok_part at c.new-2.ensures in
    both_right _ _ _ c.in_ok-kept.kept k.0 (ap (λ (b : Bor (List ℕ)). b.now) k.1) m.size (λ i. omega (arith, c.type_inv.name i))
