-- Laws of the pieces between separators: the first one, and those after it.
use Rattle.std.specs.Prelude.{◌≡◌, ◌≢◌, true, false, cond, List, [], ◌∷◌, ◌⊎◌, ℕ, zero, suc, ◌+◌, ◌-◌, ◌≤◌, ◌<◌, eqb, length, get_or, take, drop}
use Rattle.std.proofs.Math.Path.{refl}
use Rattle.std.proofs.Common.{inl, inr, add-one, arith, eq-eqb, ne_eqb, length-drop, take_all}
use Rattle.model.specs.Program.{before, is_none, pieces}
use Rattle.model.proofs.TestLaws.{decide}
use Rattle.text.specs.Grammar.{IsFirst, SplitAt}

-- the part of a slice from k on is all that follows
pub part_from : (k : ℕ) (s : List ℕ) → take (length s - k) (drop k s) ≡ drop k s
part_from k s = take_all (length s - k) (drop k s) (omega (arith, length-drop k s))

-- no separator: one piece
pub pieces_one : (sep : ℕ) (s : List ℕ) → ((k : ℕ) → k < length s → get_or s k 0 ≢ sep) → pieces sep s ≡ s ∷ []
unfolding pieces before
pieces_one sep [] f = refl
pieces_one sep (b ∷ bs) f = rw (ne_eqb b sep (f 0 (omega arith)), pieces_one sep bs (λ k h. f (suc k) (omega arith)))

-- a separator ends the first piece and begins the next
pub pieces_more : (sep : ℕ) (s : List ℕ) (i : ℕ) → i < length s → get_or s i 0 ≡ sep → ((k : ℕ) → k < i → get_or s k 0 ≢ sep) → pieces sep s ≡ take i s ∷ pieces sep (drop (suc i) s)
unfolding pieces before
pieces_more sep [] i h e f = absurd (omega arith)
pieces_more sep (b ∷ bs) zero h e f = rw (eq-eqb b sep e)
pieces_more sep (b ∷ bs) (suc i) h e f = rw (ne_eqb b sep (f 0 (omega arith)), pieces_more sep bs i (omega arith) e (λ k l. f (suc k) (omega arith)))

pub split_at : {sep : ℕ} {s : List ℕ} {i : ℕ} → IsFirst sep s i → SplitAt sep s (take i s) (drop (i + 1) s)
split_at {sep} {s} {i} x = record {
  pieces = rw (add-one i) (pieces_more sep s i x.within x.here x.not-before);
  shorter = omega (arith, x.within, length-drop (i + 1) s);
}

-- one piece, or more
pub pieces_cases : (sep : ℕ) (s : List ℕ) → (pieces sep s ≡ s ∷ []) ⊎ ((t : List ℕ) × ((d : List ℕ) × (pieces sep s ≡ t ∷ pieces sep d)))
unfolding pieces before
pieces_cases sep [] = inl refl
pieces_cases sep (b ∷ bs) = step (pieces_cases sep bs) (decide (eqb b sep))
  where
    step : (pieces sep bs ≡ bs ∷ []) ⊎ ((t : List ℕ) × ((d : List ℕ) × (pieces sep bs ≡ t ∷ pieces sep d))) → (eqb b sep ≡ true) ⊎ (eqb b sep ≡ false)
        → (cond (eqb b sep) ([] ∷ pieces sep bs) (before b (pieces sep bs)) ≡ (b ∷ bs) ∷ []) ⊎ ((t : List ℕ) × ((d : List ℕ) × (cond (eqb b sep) ([] ∷ pieces sep bs) (before b (pieces sep bs)) ≡ t ∷ pieces sep d)))
    step x (inl t) = inr ([], (bs, rw t))
    step (inl e) (inr t) = inl (rw (t, e))
    step (inr (u, (d, e))) (inr t) = inr (b ∷ u, (d, rw (t, e)))

-- there is always one
pub pieces-length : (sep : ℕ) (s : List ℕ) → 1 ≤ length (pieces sep s)
pieces-length sep s = go (pieces_cases sep s)
  where
    go : (pieces sep s ≡ s ∷ []) ⊎ ((t : List ℕ) × ((d : List ℕ) × (pieces sep s ≡ t ∷ pieces sep d))) → 1 ≤ length (pieces sep s)
    go (inl e) = rw e (omega arith)
    go (inr (t, (d, e))) = rw e (omega arith)

pub pieces_some : (sep : ℕ) (s : List ℕ) → is_none (pieces sep s) ≡ false
unfolding is_none
pieces_some sep s = go (pieces_cases sep s)
  where
    go : (pieces sep s ≡ s ∷ []) ⊎ ((t : List ℕ) × ((d : List ℕ) × (pieces sep s ≡ t ∷ pieces sep d))) → is_none (pieces sep s) ≡ false
    go (inl e) = rw e
    go (inr (t, (d, e))) = rw e
