-- Two stores, one after the other.
use Rattle.std.specs.Prelude.{◌≡◌, refl, List, [], ◌∷◌, ℕ, length}
use Rattle.std.proofs.Common.{arith, sym, subst, length-set}
use Rattle.std.proofs.Math.ListN.{get_or}
use Rattle.buffers.specs.Wrote.{Wrote}
use Rattle.layout.specs.FileLaws.{wrote_two}
use Rattle.writer.proofs.put_two.Goals as goal

both : (bs : List ℕ) → length bs ≡ 2 → get_or bs 0 0 ∷ get_or bs 1 0 ∷ [] ≡ bs
both (a ∷ (b ∷ [])) e = refl
both [] e = absurd (omega (arith, e))
both (a ∷ []) e = absurd (omega (arith, e))
both (a ∷ (b ∷ (c ∷ d))) e = absurd (omega (arith, e))

pub bounds-out-at-2 : goal.bounds-out-at-2
bounds-out-at-2 c = simp length-set (omega arith)

as-bytes : {s bs cs t : List ℕ} {at next : ℕ} → bs ≡ cs → Wrote s at bs t next → Wrote s at cs t next
as-bytes {s} {t = t} {at} {next} e h = subst (λ (x : List ℕ). Wrote s at x t next) e h

pub returns : goal.returns
returns c = as-bytes (both c.args.bytes.now (omega (arith, c.told-bytes))) (wrote_two _ _ _ _)
