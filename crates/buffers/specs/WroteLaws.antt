-- Laws of bytes written one after the other.
use Rattle.std.specs.Prelude.{◌≡◌, refl, List, [], ◌∷◌, ◌++◌, ℕ, suc, ◌+◌, ◌≤◌, ◌<◌, length, set, drop}
use Rattle.std.proofs.Common.{sym, ap, ◌∙◌, add-zero, arith, length-append}
use Rattle.std.proofs.lemmas.List.Edits.{sets, sets-eq}
use Rattle.std.proofs.Math.Seq.{length-sets}
use Rattle.std.proofs.lemmas.List.{set_comm}
use Rattle.model.specs.Calls.{onto}
use Rattle.buffers.specs.Wrote.{Left, Wrote}

pub sets_append : (bs cs s : List ℕ) (at : ℕ) → sets s at (bs ++ cs) ≡ sets (sets s at bs) (at + length bs) cs
sets_append [] cs s at = rw (add-zero at)
sets_append (b ∷ bs) cs s at =
    let e : at + length (b ∷ bs) ≡ suc at + length bs = omega arith in
    rw e (sets_append bs cs (set s at b) (suc at))

-- written at the start, bytes stand before what stood behind them
pub sets_onto : (xs s : List ℕ) → length xs ≤ length s → sets s 0 xs ≡ onto xs s
sets_onto xs s h =
    let e : 0 + length xs ≡ length xs = omega arith in
    sets-eq xs s 0 (omega arith) ∙ ap (λ (i : ℕ). xs ++ drop i s) e

pub wrote_length : {s : List ℕ} {at : ℕ} {bs t : List ℕ} {next : ℕ} → Wrote s at bs t next → length t ≡ length s
wrote_length {s} {at} {bs} w = ap length w.bytes ∙ length-sets s at bs

pub wrote_then : {s : List ℕ} {at : ℕ} {bs t : List ℕ} {mid : ℕ} {cs u : List ℕ} {next : ℕ} → Wrote s at bs t mid → Wrote t mid cs u next → Wrote s at (bs ++ cs) u next
wrote_then {s} {at} {bs} {t} {mid} {cs} {u} {next} a b = record {
  bytes = b.bytes ∙ rw (a.bytes, a.place) (sym (sets_append bs cs s at));
  place = omega (arith, a.place, b.place, length-append bs cs);
}

pub left_start : (s : List ℕ) (at : ℕ) (all : List ℕ) → Left s at all s at all
left_start s at all = record { same = refl; ends = refl; size = refl }

pub left_step : {s₀ : List ℕ} {at₀ : ℕ} {all s : List ℕ} {at : ℕ} {bs t : List ℕ} {next : ℕ} {rest rest' : List ℕ}
    → Left s₀ at₀ all s at rest → Wrote s at bs t next → rest ≡ bs ++ rest' → Left s₀ at₀ all t next rest'
left_step {s₀} {at₀} {all} {s} {at} {bs} {t} {next} {rest} {rest'} l w e = record {
  same = rw (w.bytes, w.place) (sym (sets_append bs rest' s at) ∙ ap (λ (r : List ℕ). sets s at r) (sym e) ∙ l.same);
  ends = omega (arith, w.place, l.ends, ap length e, length-append bs rest');
  size = wrote_length w ∙ l.size;
}

-- one number more
pub left_put : {s₀ : List ℕ} {at₀ : ℕ} {all s : List ℕ} {at v : ℕ} {rest rest' : List ℕ} → Left s₀ at₀ all s at rest → rest ≡ v ∷ rest' → Left s₀ at₀ all (set s at v) (at + 1) rest'
left_put {v = v} l e = left_step {bs = v ∷ []} l (record { bytes = refl; place = refl }) e

-- the rest is the same though written otherwise
pub left_as : {s₀ : List ℕ} {at₀ : ℕ} {all s : List ℕ} {at : ℕ} {rest rest' : List ℕ} → Left s₀ at₀ all s at rest → rest ≡ rest' → Left s₀ at₀ all s at rest'
left_as l e = rw e at l

pub left_room : {s₀ : List ℕ} {at₀ : ℕ} {all s : List ℕ} {at : ℕ} {rest : List ℕ} → Left s₀ at₀ all s at rest → at₀ + length all ≤ length s₀ → (bs rest' : List ℕ) → rest ≡ bs ++ rest' → at + length bs ≤ length s
left_room l h bs rest' e = omega (arith, l.ends, l.size, ap length e, length-append bs rest')

pub left_done : {s₀ : List ℕ} {at₀ : ℕ} {all s : List ℕ} {at : ℕ} {rest : List ℕ} → Left s₀ at₀ all s at rest → rest ≡ [] → Wrote s₀ at₀ all s at
left_done {s₀} {at₀} {all} {s} {at} {rest} l e = record {
  bytes = ap (λ (r : List ℕ). sets s at r) (sym e) ∙ l.same;
  place = omega (arith, l.ends, ap length e);
}

-- what stands before may be written after
set_sets : (bs s : List ℕ) (i at a : ℕ) → i < at → set (sets s at bs) i a ≡ sets (set s i a) at bs
set_sets [] s i at a h = refl
set_sets (b ∷ bs) s i at a h = set_sets bs (set s at b) i (suc at) a (omega arith) ∙ ap (λ (l : List ℕ). sets l (suc at) bs) (set_comm s at i b a (λ e. omega arith))

sets_sets : (ds bs s : List ℕ) (i at : ℕ) → i + length ds ≤ at → sets (sets s at bs) i ds ≡ sets (sets s i ds) at bs
sets_sets [] bs s i at h = refl
sets_sets (a ∷ ds) bs s i at h = ap (λ (l : List ℕ). sets l (suc i) ds) (set_sets bs s i at a (omega arith)) ∙ sets_sets ds bs (set s i a) (suc i) at (omega arith)

pub wrote_before : {s : List ℕ} {at : ℕ} {bs t : List ℕ} {next : ℕ} {cs u : List ℕ} {from : ℕ} → Wrote s at bs t next → Wrote t from cs u at → Wrote s from (cs ++ bs) u next
wrote_before {s} {at} {bs} {t} {next} {cs} {u} {from} a b = record {
  bytes = b.bytes ∙ rw (a.bytes, b.place) (sets_sets cs bs s from (from + length cs) (omega arith) ∙ sym (sets_append cs bs s from));
  place = omega (arith, a.place, b.place, length-append cs bs);
}
