-- `store::keep` meets its contract.
use Rattle.std.proofs.Common.{ℕ, ap, sym, ◌∙◌, refl}
use Rattle.answers.specs.NumberLaws.{refused_not_0}
use Rattle.store.specs.Stored.{stored}
use Rattle.store.proofs.StoredLaws.{found_place, keep_done, keep_full, keep_judged, keep_refused, keep_twice, none_refused, put_same, refused_as}
use Rattle.store.proofs.keep.Goals as goal

pub returns-in_err-tables : goal.returns-in_err-tables
returns-in_err-tables c =
    ap (λ (r : ℕ). stored r c.args.store.now) (refused_as _ _ c.from_residual.ensures.1 refl) ∙ keep_refused _ _ _ _ _ _ c.in_err-tables.ensures.number (refused_not_0 _)

pub returns-then-is_some : goal.returns-then-is_some
returns-then-is_some c = keep_twice _ _ _ _ _ _ c.in_ok-tables.ensures.number c.in_ok-tables.ensures.same _ c.find.ensures (sym c.is_some.ensures ∙ c.if-is_some.true)

pub returns-in_err-i : goal.returns-in_err-i
returns-in_err-i c =
    ap (λ (x : ℕ). stored x c.args.store.now) (none_refused _ _ _ _ c.from_residual-in_err-i.ensures.1 c.in_err-i.ensures.value refl)
    ∙ keep_full _ _ _ _ _ _ c.in_ok-tables.ensures.number c.in_ok-tables.ensures.same _ c.find.ensures (sym c.is_some.ensures ∙ c.if-is_some.false) _ c.find_free.ensures c.in_err-i.ensures.ok_part

pub write-requires : goal.write-requires
write-requires c =
    let j = (keep_judged _ _ _ _ _ _ c.in_ok-tables.ensures.number).1 in
    record { sized = rw c.in_ok-tables.ensures.tables.0 (record { small = j.small; words = j.size }); place = found_place _ _ c.find_free.ensures c.in_ok-i.ensures.ok_part }

pub returns : goal.returns
returns c =
    let t = c.in_ok-tables.ensures.tables in
    keep_done _ _ _ _ _ _ c.in_ok-tables.ensures.number c.in_ok-tables.ensures.same _ c.find.ensures (sym c.is_some.ensures ∙ c.if-is_some.false) _ c.find_free.ensures c.in_ok-i.ensures.ok_part (put_same t.0 t.1 t.2 c.write.ensures)
