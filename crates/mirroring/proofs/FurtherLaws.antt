-- Further laws of these definitions, which no proof here cites.
use Rattle.std.specs.Prelude.{◌≡◌, refl, true, ◌||◌, List, ◌⊎◌, ℕ, ◌+◌, ◌*◌, ◌/◌, ◌≤◌, ◌<◌}
use Rattle.std.proofs.Common.{◌∙◌, subst, inl, inr, arith, below_more}
use Rattle.model.specs.Tables.{edge_bit}
use Rattle.model.proofs.TestLaws.{iff_eq, or_cases, or_left, or_right}
use Rattle.drawing.specs.Drawing.{Added}
use Rattle.mirroring.specs.Mirroring.{StripsFor, InRow, InRows, Lower, Mirrored, MirroredAt, columns_to}

-- the rows of a strip that n nodes reach
pub strips_to : {n words : ℕ} (i : ℕ) → i < (n + 63) / 64 → StripsFor n words → StripsFor (64 * i + 64) words
strips_to i l h = record { enough = omega (arith, h.enough, h.whole); most = h.most; whole = h.whole }

-- a word of a strip put in, row by row
module _ (i j : ℕ) (strip : List ℕ) where
  pub lay_done : {k : ℕ} {t after : List ℕ} → Added (columns_to i j strip k) t after → k ≡ 64 → Added (columns_to i j strip 64) t after
  lay_done {t = t} {after = after} x e = subst (λ l. Added (columns_to i j strip l) t after) e x

-- places mirrored, one after the other
mirrored_none : (Place : ℕ → ℕ → Type 0) (t : List ℕ) → ((a b : ℕ) → Place a b → ⊥) → MirroredAt Place t t
mirrored_none Place t nowhere = record { size = refl; kept = λ a b l h. h; only = λ a b la lb h. inl h; mirrors = λ a b la lb p h. absurd (nowhere a b p) }

mirrored_then : {P Q R : ℕ → ℕ → Type 0} {s t u : List ℕ} → MirroredAt P s t → MirroredAt Q t u → ((a b : ℕ) → R a b → P a b ⊎ Q a b) → MirroredAt R s u
mirrored_then {P} {Q} {R} {s} {t} {u} x y cases = record {
  size = y.size ∙ x.size;
  kept = λ a b l h. y.kept a b l (x.kept a b l h);
  only = λ a b la lb h. back a b la lb (y.only a b la lb h);
  mirrors = λ a b la lb p h. step a b la lb h (cases a b p);
}
  where
    swap : {X Y : Type 0} → X ⊎ Y → Y ⊎ X
    swap (inl x) = inr x
    swap (inr y) = inl y

    back : (a b : ℕ) → a < 512 → b < 512 → (edge_bit t a b ≡ true) ⊎ (edge_bit t b a ≡ true) → (edge_bit s a b ≡ true) ⊎ (edge_bit s b a ≡ true)
    back a b la lb (inl h) = x.only a b la lb h
    back a b la lb (inr h) = swap (x.only b a lb la h)

    step : (a b : ℕ) → a < 512 → b < 512 → edge_bit s a b ≡ true → P a b ⊎ Q a b → edge_bit u b a ≡ true
    step a b la lb h (inl p) = y.kept b a la (x.mirrors a b la lb p h)
    step a b la lb h (inr q) = y.mirrors a b la lb q (x.kept a b lb h)

-- the words of a strip
pub columns_none : (i : ℕ) (t : List ℕ) → MirroredAt (InRow i 0) t t
columns_none i t = mirrored_none (InRow i 0) t (λ a b p. omega arith)

below_last : (j k : ℕ) → k < j + 1 → (k < j) ⊎ (k ≡ j)
below_last j = below_more (λ k. (k < j) ⊎ (k ≡ j)) j (λ k l. inl l) (inr refl)

pub columns_done : {i j k : ℕ} {t after : List ℕ} → MirroredAt (InRow i j) t after → j ≡ k → MirroredAt (InRow i k) t after
columns_done {i} {t = t} {after = after} x e = subst (λ l. MirroredAt (InRow i l) t after) e x

-- the rows
pub rows_none : (t : List ℕ) → MirroredAt (InRows 0) t t
rows_none t = mirrored_none (InRows 0) t (λ a b p. omega arith)

pub rows_more : {i : ℕ} {t now after : List ℕ} → MirroredAt (InRows i) t now → MirroredAt (InRow i (i + 1)) now after → MirroredAt (InRows (i + 1)) t after
rows_more {i} x y = mirrored_then x y (λ a b p. place a b p.1 (below_last i (a / 64) p.0))
  where
    place : (a b : ℕ) → b / 64 ≤ a / 64 → (a / 64 < i) ⊎ (a / 64 ≡ i) → InRows i a b ⊎ InRow i (i + 1) a b
    place a b l (inl h) = inl (h, l)
    place a b l (inr h) = inr (h, omega arith)

pub rows_done : {n i : ℕ} {t after : List ℕ} → Lower n t → n ≤ 64 * i → MirroredAt (InRows i) t after → Mirrored t after
rows_done {n} {i} {t} {after} lower l x = record {
  size = x.size;
  bits = λ a b la lb. iff_eq (edge_bit after a b) (edge_bit t a b || edge_bit t b a) (λ h. back a b (x.only a b la lb h)) (λ h. there a b la lb (or_cases (edge_bit t a b) (edge_bit t b a) h));
}
  where
    back : (a b : ℕ) → (edge_bit t a b ≡ true) ⊎ (edge_bit t b a ≡ true) → (edge_bit t a b || edge_bit t b a) ≡ true
    back a b (inl h) = or_left (edge_bit t b a) h
    back a b (inr h) = or_right (edge_bit t a b) h

    there : (a b : ℕ) → a < 512 → b < 512 → (edge_bit t a b ≡ true) ⊎ (edge_bit t b a ≡ true) → edge_bit after a b ≡ true
    there a b la lb (inl h) = x.kept a b lb h
    there a b la lb (inr h) = let p = lower.below b a la h in x.mirrors b a lb la (omega arith, omega arith) h
