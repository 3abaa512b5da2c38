-- Further laws of these definitions, which no proof here cites.
use Rattle.std.specs.Prelude.{◌≡◌, ℕ, ◌+◌, ◌*◌, ◌/◌, ◌%◌, ◌^◌, ◌<◌, ◌≤◌, List, length, ◌≢◌, slice_index, slice_set, set, refl}
use Rattle.std.proofs.Math.Path.{ap}
use Rattle.std.proofs.Common.{sym, ◌∙◌, subst, arith, length-set, get_or-set_other, get_or-set_same, mul-le-mul_left}
use Rattle.model.specs.Grouping.{cube}
use Rattle.buffers.specs.StoreLaws.{stored, stored-size}
use Rattle.keys.specs.KeySums.{FoursFilled, Widened, eight_cubes, word_cubes, KeysPut, AllLead, LeadersSummed, WordAdded}
use Rattle.model.specs.Graph.{max_nodes}
use Rattle.keys.specs.LeaderLaws.{Amid}

pub unchosen : (v x : ℕ) → (v % 2 ≢ 1) → 0 ≡ v % 2 * x
unchosen v x d = let e : v % 2 ≡ 0 = omega arith in let z : 0 ≡ 0 * x = omega arith in rw e z

-- the table of sums
pub fours_none : (w : ℕ) (sums : List ℕ) → length sums ≡ 256 → FoursFilled w 0 sums
fours_none w sums e = record { size = e; entries = λ k l. absurd (omega arith) }

-- the table of wider sums
pub widened_none : (w : ℕ) (sums : List ℕ) → length sums ≡ 2048 → Widened w 0 sums
widened_none w sums e = record { size = e; entries = λ k l. absurd (omega arith) }

pub entry_at : {sums : List ℕ} (w i v : ℕ) → Widened w 2048 sums → i < 8 → v < 256 → slice_index sums (256 * i + v) ≡ eight_cubes (8 * w + i) v
entry_at {sums} w i v h hi hv =
    let x : (256 * i + v) / 256 ≡ i = omega arith in
    let y : (256 * i + v) % 256 ≡ v = omega arith in
    rw (x, y) at (h.entries (256 * i + v) (omega arith))

pub word_done : (w x i t : ℕ) → t ≡ word_cubes w x (8 * i) % 2 ^ 32 → i ≡ 8 → t ≡ word_cubes w x 64 % 2 ^ 32
word_done w x i t e f = e ∙ ap (λ (k : ℕ). word_cubes w x (8 * k) % 2 ^ 32) f

pub keys_put : (p sum : ℕ) (t : List ℕ) {y r : ℕ} → y ≡ cube p → r ≡ (sum + y) % 2 ^ 32 → KeysPut p sum t (slice_set (slice_set t (2 * p) sum) (2 * p + 1) r)
keys_put p sum t e f = record { put = ap (set (slice_set t (2 * p) sum) (2 * p + 1)) (f ∙ ap (λ (z : ℕ). (sum + z) % 2 ^ 32) e) }

-- the place of a node's leader
pub stride_room : (stride p n : ℕ) → 0 < stride → p < n → stride * p < stride * n
stride_room stride p n h l = omega (arith, mul-le-mul_left stride l)

-- one word of one row
module _ (stride : ℕ) (lst edges : List ℕ) (w p : ℕ) (t : List ℕ) where
  pub word_added : {s r : ℕ} → p < length t → s ≡ word_cubes w (slice_index edges (8 * p + w)) 64 % 2 ^ 32 → r ≡ (slice_index t p + s) % 2 ^ 32 → WordAdded stride lst edges w p t (slice_set t p r)
  word_added {s} {r} l e f = record {
    size = length-set t p r;
    own = λ h. get_or-set_same t p r 0 l ∙ omega arith;
    others = λ q d. get_or-set_other t p q r 0 d;
  }

pub amid_none : {n stride w : ℕ} {lst edges t : List ℕ} → LeadersSummed n stride lst edges w t → Amid n stride lst edges w 0 t
amid_none h = record { size = h.size; ahead = λ q l e. absurd (omega arith); behind = λ q z l e. h.sums q l e }

pub amid_all : {n stride w p : ℕ} {lst edges t : List ℕ} → Amid n stride lst edges w p t → n ≤ p → LeadersSummed n stride lst edges (w + 1) t
amid_all h l = record { size = h.size; sums = λ q m e. h.ahead q (omega arith) e }

pub leaders_start : {n stride w k : ℕ} {lst edges t : List ℕ} → LeadersSummed n stride lst edges w t → k ≡ w → LeadersSummed n stride lst edges k t
leaders_start {n} {stride} {w} {k} {lst} {edges} {t} h e = subst (λ i. LeadersSummed n stride lst edges i t) (sym e) h

-- every node leads
pub lead_none : (lst : List ℕ) → length lst ≡ max_nodes → AllLead 0 lst
lead_none lst e = record { size = e; own = λ p l. absurd (omega arith) }

pub lead_more : {p : ℕ} {lst : List ℕ} → AllLead p lst → p < max_nodes → AllLead (p + 1) (slice_set lst p p)
lead_more {p} {lst} h l = record { size = stored-size lst p p fits h.size; own = stored lst p p fits (λ q x. x ≡ q) h.own refl }
  where
    fits : p < length lst
    fits = omega (arith, h.size)

pub lead_start : {m n : ℕ} {lst : List ℕ} → AllLead m lst → n ≤ m → AllLead n lst
lead_start h l = record { size = h.size; own = λ p k. h.own p (omega arith) }
