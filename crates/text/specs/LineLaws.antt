-- Laws of the lines after the first, field by field.
use Rattle.std.specs.Prelude.{◌≡◌, refl, Bool, true, false, ◌&&◌, cond, List, [], ◌∷◌, ◌⊎◌, ℕ, suc, Some, None, eqb, leb, length, get_or}
use Rattle.std.proofs.Common.{sym, ◌∙◌, inl, inr, arith, ne_eqb, leb-true}
use Rattle.std.proofs.Math.Bool.{and-false}
use Rattle.std.proofs.Math.Dec.{eqb-suc-suc}
use Rattle.model.specs.Lists.{all, same_list}
use Rattle.model.specs.Program.{Line, before, change, edge_line, field, ill_formed, is_number, line_of, mark_line, pieces, text}
use Rattle.model.proofs.TestLaws.{and_fst, and_one, and_snd, decide}
use Rattle.text.specs.Grammar.{SplitAt, is_digit, number_of}
use Rattle.text.specs.NumberLaws.{number_digits, number_none, number_value}
use Rattle.text.specs.PieceLaws.{pieces-length, pieces_cases}

-- digits have no space among them
digits-alone : (s : List ℕ) → all s is_digit ≡ true → pieces 0x20 s ≡ s ∷ []
unfolding all pieces before
digits-alone [] h = refl
digits-alone (b ∷ bs) h =
    let low = leb-true 0x30 b (and_fst (leb 0x30 b) (leb b 0x39) (and_fst (is_digit b) (all bs is_digit) h)) in
    rw (ne_eqb b 0x20 (λ e. omega arith), digits-alone bs (and_snd (is_digit b) (all bs is_digit) h))

number-alone : (s : List ℕ) → is_number s ≡ true → pieces 0x20 s ≡ s ∷ []
number-alone s h = digits-alone s (number_digits s h)

-- one field that is a number, exactly if the whole is a number
one_field : (s : List ℕ) → (eqb (length (pieces 0x20 s)) 1 && is_number (field (pieces 0x20 s) 0)) ≡ is_number s
one_field s = go (pieces_cases 0x20 s) (decide (is_number s))
  where
    go : (pieces 0x20 s ≡ s ∷ []) ⊎ ((t : List ℕ) × ((d : List ℕ) × (pieces 0x20 s ≡ t ∷ pieces 0x20 d))) → (is_number s ≡ true) ⊎ (is_number s ≡ false) → (eqb (length (pieces 0x20 s)) 1 && is_number (field (pieces 0x20 s) 0)) ≡ is_number s
    go x (inl n) = rw (number-alone s n)
    go (inl e) (inr n) = rw e
    go (inr (t, (d, e))) (inr n) = rw (e, ne_eqb (suc (length (pieces 0x20 d))) 1 (λ z. omega (arith, pieces-length 0x20 d))) (sym n)

-- two numbers after the letter
module _ (wanted : ℕ) {s t d : List ℕ} (x : SplitAt 0x20 s t d) where
  test : is_number t ≡ true → is_number d ≡ false → (eqb (suc (suc (length (pieces 0x20 d)))) 3 && (is_number t && is_number (field (pieces 0x20 d) 0))) ≡ false
  test a b = rw (eqb-suc-suc (suc (length (pieces 0x20 d))) 2, eqb-suc-suc (length (pieces 0x20 d)) 1, a) (one_field d ∙ b)

  pub edge_first : None ≡ number_of t → ill_formed ≡ edge_line wanted ([] ∷ pieces 0x20 s)
  unfolding edge_line
  edge_first a = rw (x.pieces, number_none t a, and-false (eqb (suc (suc (length (pieces 0x20 d)))) 3))

  pub edge_second : (u : ℕ) → Some u ≡ number_of t → None ≡ number_of d → ill_formed ≡ edge_line wanted ([] ∷ pieces 0x20 s)
  unfolding edge_line
  edge_second u a b = rw (x.pieces, test (number_value t u a).0 (number_none d b))

  pub edge_both : (u v : ℕ) → Some u ≡ number_of t → Some v ≡ number_of d → change (record { kind = 1; u = u; v = v; wanted = wanted }) ≡ edge_line wanted ([] ∷ pieces 0x20 s)
  unfolding edge_line
  edge_both u v a b = let y = number_value t u a in let z = number_value d v b in rw (x.pieces, number-alone d z.0, y.0, z.0, y.1, z.1)

-- no second field
pub edge_short : (wanted : ℕ) (s : List ℕ) → pieces 0x20 s ≡ s ∷ [] → ill_formed ≡ edge_line wanted ([] ∷ pieces 0x20 s)
unfolding edge_line
edge_short wanted s e = rw e

-- one number after the letter
pub mark_none : (wanted : ℕ) (s : List ℕ) → None ≡ number_of s → ill_formed ≡ mark_line wanted ([] ∷ pieces 0x20 s)
unfolding mark_line
mark_none wanted s a = rw (eqb-suc-suc (length (pieces 0x20 s)) 1, one_field s, number_none s a)

pub mark_one : (wanted : ℕ) (s : List ℕ) (u : ℕ) → Some u ≡ number_of s → change (record { kind = 2; u = u; v = 0; wanted = wanted }) ≡ mark_line wanted ([] ∷ pieces 0x20 s)
unfolding mark_line
mark_one wanted s u a = let x = number_value s u a in rw (number-alone s x.0, x.0, x.1)

-- nothing follows the letter
pub line_short : (s : List ℕ) → pieces 0x20 s ≡ s ∷ [] → ill_formed ≡ line_of s
unfolding line_of edge_line mark_line
line_short s e = rw e (none (same_list s (text "t")) (same_list s (text "u")) (same_list s (text "w")) (same_list s (text "o")))
  where
    none : (a b c d : Bool) → ill_formed ≡ cond a ill_formed (cond b ill_formed (cond c ill_formed (cond d ill_formed ill_formed)))
    none true b c d = refl
    none false true c d = refl
    none false false true d = refl
    none false false false true = refl
    none false false false false = refl

-- a line by its letter
abbrev pub by_letter : ℕ → List (List ℕ) → Line
by_letter b fs =
    cond (eqb b 0x74) (edge_line 1 ([] ∷ fs))
    (cond (eqb b 0x75) (edge_line 0 ([] ∷ fs))
    (cond (eqb b 0x77) (mark_line 1 ([] ∷ fs))
    (cond (eqb b 0x6F) (mark_line 0 ([] ∷ fs))
    ill_formed)))

same_one : (l : List ℕ) (x : ℕ) → (length l ≡ 1 → ⊥) → same_list l (x ∷ []) ≡ false
unfolding same_list
same_one [] x h = refl
same_one (y ∷ []) x h = absurd (h refl)
same_one (y ∷ (z ∷ zs)) x h = and-false (eqb y x)

module _ {s first rest : List ℕ} (x : SplitAt 0x20 s first rest) where
  -- the letter is no field of its own
  pub line_not : (length first ≡ 1 → ⊥) → ill_formed ≡ line_of s
  unfolding line_of text
  line_not n = rw (x.pieces, same_one first 0x74 n, same_one first 0x75 n, same_one first 0x77 n, same_one first 0x6F n)

  pub line_letter : length first ≡ 1 → line_of s ≡ by_letter (get_or first 0 0) (pieces 0x20 rest)
  unfolding line_of same_list text edge_line mark_line
  line_letter n = rw x.pieces (go first n)
    where
      go : (l : List ℕ) → length l ≡ 1
          → cond (same_list l (text "t")) (edge_line 1 (l ∷ pieces 0x20 rest)) (cond (same_list l (text "u")) (edge_line 0 (l ∷ pieces 0x20 rest)) (cond (same_list l (text "w")) (mark_line 1 (l ∷ pieces 0x20 rest)) (cond (same_list l (text "o")) (mark_line 0 (l ∷ pieces 0x20 rest)) ill_formed)))
          ≡ by_letter (get_or l 0 0) (pieces 0x20 rest)
      go [] h = absurd (omega arith)
      go (b ∷ []) h = rw (and_one (eqb b 0x74), and_one (eqb b 0x75), and_one (eqb b 0x77), and_one (eqb b 0x6F))
      go (b ∷ (x ∷ xs)) h = absurd (omega arith)

  -- from the letter and what its function tells
  pub line_by : length first ≡ 1 → {b : ℕ} {y : Line} → get_or first 0 0 ≡ b → y ≡ by_letter b (pieces 0x20 rest) → y ≡ line_of s
  line_by n e y = y ∙ rw (← e) (sym (line_letter n))

  pub line_other : length first ≡ 1 → (get_or first 0 0 ≡ 0x74 → ⊥) → (get_or first 0 0 ≡ 0x75 → ⊥) → (get_or first 0 0 ≡ 0x77 → ⊥) → (get_or first 0 0 ≡ 0x6F → ⊥) → ill_formed ≡ line_of s
  line_other n t h w o = rw (line_letter n, ne_eqb (get_or first 0 0) 0x74 t, ne_eqb (get_or first 0 0) 0x75 h, ne_eqb (get_or first 0 0) 0x77 w, ne_eqb (get_or first 0 0) 0x6F o)
