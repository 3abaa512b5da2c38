-- Further laws of the grammar and of the answers, which no proof here cites.
use Rattle.std.specs.Prelude.{◌≡◌, ◌≢◌, refl, Bool, true, false, not, ◌&&◌, cond, List, [], ◌∷◌, ◌⊎◌, ℕ, zero, suc, Option, Some, None, Err, ◌+◌, ◌*◌, ◌-◌, ◌≤◌, ◌<◌, eqb, leb, ltb, length, get_or, take, drop, set}
use Rattle.std.specs.Int.{from_bool}
use Rattle.std.proofs.Common.{sym, ap, inl, inr, add-one, arith, drop_of_length-le, drop-cons, eq-eqb, eqb-true, le-leb, leb-true, length-drop, ltb-true, ltb-false, ne_eqb, take_all}
use Rattle.std.proofs.lemmas.Bool.{eqb-false, lt-leb}
use Rattle.model.specs.Lists.{all}
use Rattle.model.specs.Program.{edge_line, field, input_of, mark_line, max_bytes, pieces}
use Rattle.model.specs.Updates.{update_numbers}
use Rattle.model.proofs.TestLaws.{and_fst, and_snd, decide}
use Rattle.buffers.specs.Wrote.{Wrote}
use Rattle.text.specs.declared.Change.{Change}
use Rattle.text.specs.declared.Change.TheVariants.{Edge, Mark}
use Rattle.text.specs.Grammar.{IsFirst, ParsedAs, SplitAt, is_digit, line_in, number_of, shape}
use Rattle.text.specs.LineLaws.{edge_both, edge_first, edge_second, mark_none, mark_one}
use Rattle.text.specs.NumberLaws.{head_is}
use Rattle.text.specs.ParseLaws.{input_long}
use Rattle.text.specs.PieceLaws.{part_from, pieces_one, split_at}

-- how many bytes stand before the first separator; all of them if there is none
unfoldable pub up_to : ℕ → List ℕ → ℕ
up_to sep [] = 0
up_to sep (b ∷ bs) = cond (eqb b sep) 0 (suc (up_to sep bs))

-- a digit's worth; 10 of any other byte
unfoldable pub digit_of : ℕ → ℕ
digit_of b = cond (leb 0x30 b && leb b 0x39) (b - 0x30) 10

-- a change with its numbers, if all of them are there
unfoldable pub edge_change : Bool → Option ℕ → Option ℕ → Option Change
edge_change wanted (Some u) (Some v) = Some (Edge u v wanted)
edge_change wanted (Some u) None = None
edge_change wanted None second = None

unfoldable pub mark_change : Bool → Option ℕ → Option Change
mark_change wanted (Some u) = Some (Mark u wanted)
mark_change wanted None = None

-- what is found so far
pub find_here : {u : ℕ} (sep : ℕ) (s : List ℕ) (i : ℕ) → i < length s → get_or s i 0 ≡ sep → i + up_to sep (drop i s) ≡ u → i ≡ u
unfolding up_to
find_here sep s i h e f = let z : i + 0 ≡ _ = rw (drop-cons s i 0 h, eq-eqb (get_or s i 0) sep e) at f in omega (arith, z)

pub find_next : {u : ℕ} (sep : ℕ) (s : List ℕ) (i : ℕ) → i < length s → (get_or s i 0 ≡ sep → ⊥) → i + up_to sep (drop i s) ≡ u → i + 1 + up_to sep (drop (i + 1) s) ≡ u
unfolding up_to
find_next sep s i h n f =
    let z : i + suc (up_to sep (drop (suc i) s)) ≡ _ = rw (drop-cons s i 0 h, ne_eqb (get_or s i 0) sep n) at f in
    rw (add-one i) (omega (arith, z))

pub find_end : {u : ℕ} (sep : ℕ) (s : List ℕ) (i : ℕ) → length s ≤ i → i + up_to sep (drop i s) ≡ u → i ≡ u
unfolding up_to
find_end sep s i h f = let z : i + 0 ≡ _ = rw (drop_of_length-le s h) at f in omega (arith, z)

pub up_to-le : (sep : ℕ) (s : List ℕ) → up_to sep s ≤ length s
unfolding up_to
up_to-le sep [] = omega arith
up_to-le sep (b ∷ bs) = step (up_to-le sep bs) (decide (eqb b sep))
  where
    step : up_to sep bs ≤ length bs → (eqb b sep ≡ true) ⊎ (eqb b sep ≡ false) → cond (eqb b sep) 0 (suc (up_to sep bs)) ≤ suc (length bs)
    step below (inl t) = rw t (omega arith)
    step below (inr t) = rw t (omega arith)

pub end_within : (input : List ℕ) (at u : ℕ) → at ≤ length input → u ≡ up_to 0x0A (take (length input - at) (drop at input)) → at + u ≤ length input
end_within input at u h e = omega (arith, e, up_to-le 0x0A (take (length input - at) (drop at input)), ap length (part_from at input), length-drop at input)

pub rest-length : (input : List ℕ) (at : ℕ) → length (drop at input) ≡ length input - at
rest-length input at = length-drop at input

pub part-line : (input : List ℕ) (at u : ℕ) → take (at + u - at) (drop at input) ≡ take u (drop at input)
part-line input at u = let z : at + u - at ≡ u = omega arith in ap (λ (k : ℕ). take k (drop at input)) z

-- no separator stands before, and one stands there unless all are passed
not_before : (sep : ℕ) (s : List ℕ) (k : ℕ) → k < up_to sep s → get_or s k 0 ≢ sep
unfolding up_to
not_before sep [] k h = absurd (omega arith)
not_before sep (b ∷ bs) k h = step k (not_before sep bs) (decide (eqb b sep)) h
  where
    step : (k : ℕ) → ((j : ℕ) → j < up_to sep bs → get_or bs j 0 ≢ sep) → (eqb b sep ≡ true) ⊎ (eqb b sep ≡ false) → k < cond (eqb b sep) 0 (suc (up_to sep bs)) → get_or (b ∷ bs) k 0 ≢ sep
    step k below (inl t) l = let z : k < 0 = rw t at l in absurd (omega arith)
    step zero below (inr t) l = eqb-false b sep t
    step (suc k) below (inr t) l = let z : suc k < suc (up_to sep bs) = rw t at l in below k (omega (arith, z))

stands : (sep : ℕ) (s : List ℕ) → up_to sep s < length s → get_or s (up_to sep s) 0 ≡ sep
unfolding up_to
stands sep [] h = absurd (omega arith)
stands sep (b ∷ bs) h = step (stands sep bs) (decide (eqb b sep)) h
  where
    step : (up_to sep bs < length bs → get_or bs (up_to sep bs) 0 ≡ sep) → (eqb b sep ≡ true) ⊎ (eqb b sep ≡ false) → cond (eqb b sep) 0 (suc (up_to sep bs)) < suc (length bs) → get_or (b ∷ bs) (cond (eqb b sep) 0 (suc (up_to sep bs))) 0 ≡ sep
    step below (inl t) l = rw t (eqb-true b sep t)
    step below (inr t) l = let z : suc (up_to sep bs) < suc (length bs) = rw t at l in rw t (below (omega (arith, z)))

-- so it is the first separator, if there is one
pub up_to_first : (sep : ℕ) (s : List ℕ) → up_to sep s < length s → IsFirst sep s (up_to sep s)
up_to_first sep s h = record { within = h; here = stands sep s h; not-before = not_before sep s }

pub one_up_to : (sep : ℕ) (s : List ℕ) → up_to sep s ≡ length s → pieces sep s ≡ s ∷ []
one_up_to sep s e = pieces_one sep s (λ k h. not_before sep s k (omega (arith, e)))

pub more_up_to : (sep : ℕ) (s : List ℕ) → up_to sep s < length s → pieces sep s ≡ take (up_to sep s) s ∷ pieces sep (drop (up_to sep s + 1) s)
more_up_to sep s h = (split_at (up_to_first sep s h)).pieces

-- a digit
pub digit_low : (b : ℕ) → b < 0x30 → 10 ≡ digit_of b
unfolding digit_of
digit_low b h = rw (lt-leb 0x30 b h)

pub digit_high : (b : ℕ) → 0x30 ≤ b → 0x39 < b → 10 ≡ digit_of b
unfolding digit_of
digit_high b l h = rw (le-leb 0x30 b l, lt-leb b 0x39 h)

pub digit_is : (b : ℕ) → 0x30 ≤ b → b ≤ 0x39 → b - 0x30 ≡ digit_of b
unfolding digit_of
digit_is b l h = rw (le-leb 0x30 b l, le-leb b 0x39 h)

pub digit_test : (b : ℕ) → digit_of b ≤ 9 → (is_digit b ≡ true) × (digit_of b ≡ b - 0x30)
unfolding digit_of
digit_test b h = go (decide (is_digit b))
  where
    go : (is_digit b ≡ true) ⊎ (is_digit b ≡ false) → (is_digit b ≡ true) × (digit_of b ≡ b - 0x30)
    go (inl t) = (t, rw t)
    go (inr t) = let z : 10 ≤ 9 = rw t at h in absurd (omega arith)

pub digit_not : (b : ℕ) → 9 < digit_of b → is_digit b ≡ false
unfolding digit_of
digit_not b h = go (decide (is_digit b))
  where
    go : (is_digit b ≡ true) ⊎ (is_digit b ≡ false) → is_digit b ≡ false
    go (inl t) = let z : 9 < b - 0x30 = rw t at h in absurd (omega (arith, leb-true b 0x39 (and_snd (leb 0x30 b) (leb b 0x39) t)))
    go (inr t) = t

-- digits have no space among them
pub digits_spaceless : (s : List ℕ) → all s (λ d. leb 0x30 d && leb d 0x39) ≡ true → up_to 0x20 s ≡ length s
unfolding all up_to
digits_spaceless [] h = refl
digits_spaceless (b ∷ bs) h =
    let low = leb-true 0x30 b (and_fst (leb 0x30 b) (leb b 0x39) (and_fst (leb 0x30 b && leb b 0x39) (all bs (λ d. leb 0x30 d && leb d 0x39)) h)) in
    rw (ne_eqb b 0x20 (λ e. omega arith)) (ap suc (digits_spaceless bs (and_snd (leb 0x30 b && leb b 0x39) (all bs (λ d. leb 0x30 d && leb d 0x39)) h)))

-- the shape
pub shape_none : (s : List ℕ) → length s ≡ 0 → false ≡ shape s
unfolding shape
shape_none s h = rw (lt-leb 1 (length s) (omega arith))

pub shape_long : (s : List ℕ) → 5 < length s → false ≡ shape s
unfolding shape
shape_long s h = rw (le-leb 1 (length s) (omega arith), lt-leb (length s) 5 h)

pub shape_one : (s : List ℕ) → length s ≡ 1 → true ≡ shape s
unfolding shape
shape_one s h = rw (le-leb 1 (length s) (omega arith), le-leb (length s) 5 (omega arith), eq-eqb (length s) 1 h)

pub shape_more : (s : List ℕ) → (length s ≡ 0 → ⊥) → length s ≤ 5 → (length s ≡ 1 → ⊥) → not (eqb (get_or s 0 0) 0x30) ≡ shape s
unfolding shape
shape_more s a b d = rw (le-leb 1 (length s) (omega (arith, a)), le-leb (length s) 5 b, ne_eqb (length s) 1 d, head_is s)

-- the first piece
pub first_piece : (s : List ℕ) → field (pieces 0x20 s) 0 ≡ take (up_to 0x20 s) s
first_piece s = go (decide (ltb (up_to 0x20 s) (length s)))
  where
    go : (ltb (up_to 0x20 s) (length s) ≡ true) ⊎ (ltb (up_to 0x20 s) (length s) ≡ false) → field (pieces 0x20 s) 0 ≡ take (up_to 0x20 s) s
    go (inl t) = rw (more_up_to 0x20 s (ltb-true (up_to 0x20 s) (length s) t))
    go (inr t) =
        let h = ltb-false (up_to 0x20 s) (length s) t in
        rw (one_up_to 0x20 s (omega (arith, up_to-le 0x20 s, h))) (sym (take_all (up_to 0x20 s) s h))

pub take_one : (s : List ℕ) → 0 < length s → take 1 s ≡ get_or s 0 0 ∷ []
take_one [] h = absurd (omega arith)
take_one (x ∷ xs) h = refl

-- two numbers after the letter
pub edge_by : (wanted : Bool) (u : ℕ) (s : List ℕ) → u ≡ up_to 0x20 s → (u ≡ length s → ⊥) → line_in (edge_change wanted (number_of (take u s)) (number_of (drop (u + 1) s))) ≡ edge_line (from_bool wanted) ([] ∷ pieces 0x20 s)
edge_by wanted u s e n = step (number_of (take u s)) (number_of (drop (u + 1) s)) refl refl
  where
    at : SplitAt 0x20 s (take u s) (drop (u + 1) s)
    at = rw e (split_at (up_to_first 0x20 s (omega (arith, e, n, up_to-le 0x20 s))))

    step : (a b : Option ℕ) → a ≡ number_of (take u s) → b ≡ number_of (drop (u + 1) s) → line_in (edge_change wanted a b) ≡ edge_line (from_bool wanted) ([] ∷ pieces 0x20 s)
    step (Some p) (Some q) x y = unfold edge_change in edge_both (from_bool wanted) at p q x y
    step (Some p) None x y = unfold edge_change in edge_second (from_bool wanted) at p x y
    step None b x y = unfold edge_change in edge_first (from_bool wanted) at x

-- one number after the letter
pub mark_by : (wanted : Bool) (s : List ℕ) → line_in (mark_change wanted (number_of s)) ≡ mark_line (from_bool wanted) ([] ∷ pieces 0x20 s)
mark_by wanted s = step (number_of s) refl
  where
    step : (a : Option ℕ) → a ≡ number_of s → line_in (mark_change wanted a) ≡ mark_line (from_bool wanted) ([] ∷ pieces 0x20 s)
    step (Some u) x = unfold mark_change in mark_one (from_bool wanted) s u x
    step None x = unfold mark_change in mark_none (from_bool wanted) s x

-- from what the callees tell
pub edge_change-told : {a b : Option ℕ} {r : Option Change} (wanted : Bool) (u : ℕ) (s : List ℕ) → u ≡ up_to 0x20 s → (u ≡ length s → ⊥) → a ≡ number_of (take u s) → b ≡ number_of (take (length s - (u + 1)) (drop (u + 1) s)) → r ≡ edge_change wanted a b
    → line_in r ≡ edge_line (from_bool wanted) ([] ∷ pieces 0x20 s)
edge_change-told wanted u s e n x y z = rw (z, x, y, part_from (u + 1) s) (edge_by wanted u s e n)

pub mark_change-told : {a : Option ℕ} {r : Option Change} (wanted : Bool) (s : List ℕ) → a ≡ number_of s → r ≡ mark_change wanted a → line_in r ≡ mark_line (from_bool wanted) ([] ∷ pieces 0x20 s)
mark_change-told wanted s x z = rw (z, x) (mark_by wanted s)

-- a change into the batch, number by number
pub change_wrote : (batch : List ℕ) (count kind u v wanted : ℕ)
    → Wrote batch (update_numbers * count) (kind ∷ u ∷ v ∷ wanted ∷ []) (set (set (set (set batch (update_numbers * count) kind) (update_numbers * count + 1) u) (update_numbers * count + 2) v) (update_numbers * count + 3) wanted) (update_numbers * (count + 1))
change_wrote batch count kind u v wanted =
    let a : update_numbers * count + 1 ≡ suc (update_numbers * count) = omega arith in
    let b : update_numbers * count + 2 ≡ suc (suc (update_numbers * count)) = omega arith in
    let d : update_numbers * count + 3 ≡ suc (suc (suc (update_numbers * count))) = omega arith in
    rw (a, b, d) (record { bytes = refl; place = omega arith })

-- refused for its length
pub first_long : (input batch : List ℕ) → max_bytes < length input → ParsedAs (input_of input) batch batch (Err (record { line = 0 }))
first_long input batch h = input_long input batch h
