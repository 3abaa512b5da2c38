-- `store::drop` meets its contract.
use Rattle.std.proofs.Common.{ℕ, ap, ◌∙◌, refl}
use Rattle.answers.specs.NumberLaws.{refused_not_0}
use Rattle.store.specs.Stored.{stored}
use Rattle.store.proofs.StoredLaws.{drop_done, drop_refused, drop_unknown, found_place, judged, none_refused, refused_as}
use Rattle.store.proofs.drop.Goals as goal

pub returns-in_err-kept : goal.returns-in_err-kept
returns-in_err-kept c =
    ap (λ (r : ℕ). stored r c.args.store.now) (refused_as _ _ c.from_residual.ensures.1 refl) ∙ drop_refused _ _ _ c.in_err-kept.ensures.number (refused_not_0 _)

pub returns-in_err-i : goal.returns-in_err-i
returns-in_err-i c =
    ap (λ (r : ℕ). stored r c.args.store.now) (none_refused _ _ _ _ c.from_residual-in_err-i.ensures.1 c.in_err-i.ensures.value refl)
    ∙ drop_unknown _ _ _ c.in_ok-kept.ensures.number c.in_ok-kept.ensures.same _ c.find.ensures c.in_err-i.ensures.ok_part

pub clear-requires : goal.clear-requires
clear-requires c =
    let j = judged _ _ _ c.in_ok-kept.ensures.number in
    record { sized = record { small = j.small; words = j.size }; place = found_place _ _ c.find.ensures c.in_ok-i.ensures.ok_part }

pub returns : goal.returns
returns c = drop_done _ _ _ c.in_ok-kept.ensures.number c.in_ok-kept.ensures.same _ c.find.ensures c.in_ok-i.ensures.ok_part c.clear.ensures
