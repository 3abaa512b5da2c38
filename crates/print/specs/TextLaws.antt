-- Laws of a text that is copied.
use Rattle.std.specs.Prelude.{◌≡◌, List, ℕ, ◌+◌, ◌≤◌, length}
use Rattle.std.proofs.Math.Path.{refl}
use Rattle.std.proofs.Common.{sym, ◌∙◌, arith, take_all}
use Rattle.std.proofs.lemmas.List.Edits.{sets-eq}
use Rattle.std.proofs.lemmas.Slice.{put_mid-paste}
use borrow.Rule.Slice.PartMut.{put_mid}
use Rattle.buffers.specs.Wrote.{Wrote}

-- a part is written over
pub wrote_part : (s : List ℕ) {bs new : List ℕ} (at : ℕ) {k next : ℕ} → new ≡ bs → length bs ≡ k → at + k ≤ length s → next ≡ at + k → Wrote s at bs (put_mid at k s new) next
wrote_part s {bs} {new} at {k} a b h e = record {
  bytes = put_mid-paste at k s new bs (length bs) a b refl ∙ rw (take_all (length bs) bs (omega arith)) (sym (sets-eq bs s at (omega (arith, b))));
  place = omega (arith, e, b);
}
