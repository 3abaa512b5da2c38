-- Laws of edges put in one after the other.
use Rattle.std.specs.Prelude.{◌≡◌, refl, Bool, true, false, ◌&&◌, ◌||◌, List, ◌⊎◌, ℕ, ◌+◌, ◌/◌, ◌≤◌, ◌<◌, eqb, ltb}
use Rattle.std.proofs.Common.{sym, ◌∙◌, inl, inr, arith}
use Rattle.std.proofs.Math.Path.{ap}
use Rattle.std.proofs.Math.Bool.{not, or-false}
use borrow.Author.Tests.{eqb-false, le-ltb, lt-ltb, ltb-false, ltb-true, ne_eqb}
use Rattle.model.specs.Tables.{edge_bit}
use Rattle.model.proofs.TestLaws.{decide}
use Rattle.drawing.specs.Drawing.{Added, Adding, one_bit, pair_bits, row_from, row_to, row_word_to}

split : (u v w : Bool) → ((u || v) && w) ≡ ((u && w) || (v && w))
split true true true = refl
split true false true = refl
split true true false = refl
split true false false = refl
split false v w = refl

or_assoc : (a b c : Bool) → ((a || b) || c) ≡ (a || (b || c))
or_assoc true b c = refl
or_assoc false b c = refl

pub added_as : {f g : ℕ → ℕ → Bool} {t after : List ℕ} → ((a b : ℕ) → f a b ≡ g a b) → Added f t after → Added g t after
added_as {t = t} e h = record { size = h.size; bits = λ a b l. h.bits a b l ∙ ap (λ (x : Bool). edge_bit t a b || x) (e a b) }

pub added_none : (f : ℕ → ℕ → Bool) (t : List ℕ) → ((a b : ℕ) → f a b ≡ false) → Added f t t
added_none f t e = record { size = refl; bits = λ a b l. sym (ap (λ (x : Bool). edge_bit t a b || x) (e a b) ∙ or-false (edge_bit t a b)) }

pub added_then : {f g h : ℕ → ℕ → Bool} {s t u : List ℕ} → Added f s t → Added g t u → ((a b : ℕ) → (f a b || g a b) ≡ h a b) → Added h s u
added_then {f = f} {g = g} {s = s} x y e = record {
  size = y.size ∙ x.size;
  bits = λ a b l. y.bits a b l ∙ ap (λ (z : Bool). z || g a b) (x.bits a b l) ∙ or_assoc (edge_bit s a b) (f a b) (g a b) ∙ ap (λ (z : Bool). edge_bit s a b || z) (e a b);
}

pub adding_start : (f g : ℕ → ℕ → Bool) (t : List ℕ) → ((a b : ℕ) → g a b ≡ f a b) → Adding f g t t
adding_start f g t e = record { size = refl; bits = λ a b l. ap (λ (z : Bool). edge_bit t a b || z) (e a b) }

pub adding_step : {all rest f more : ℕ → ℕ → Bool} {t now after : List ℕ} → Adding all rest t now → Added f now after → ((a b : ℕ) → rest a b ≡ (f a b || more a b)) → Adding all more t after
adding_step {f = f} {more = more} {now = now} x y e = record {
  size = y.size ∙ x.size;
  bits =
      λ a b l.
      ap (λ (z : Bool). z || more a b) (y.bits a b l)
      ∙ or_assoc (edge_bit now a b) (f a b) (more a b)
      ∙ ap (λ (z : Bool). edge_bit now a b || z) (sym (e a b))
      ∙ x.bits a b l;
}

adding_under : {all rest : ℕ → ℕ → Bool} {t now : List ℕ} → Adding all rest t now → ((a b : ℕ) → b < 512 → rest a b ≡ false) → Added all t now
adding_under {rest = rest} {now = now} x e = record {
  size = x.size;
  bits = λ a b l. sym (ap (λ (z : Bool). edge_bit now a b || z) (e a b l) ∙ or-false (edge_bit now a b)) ∙ x.bits a b l;
}

pub adding_done : {all rest : ℕ → ℕ → Bool} {t now : List ℕ} → Adding all rest t now → ((a b : ℕ) → rest a b ≡ false) → Added all t now
adding_done x e = adding_under x (λ a b l. e a b)

-- one bit of a pair, or both
pub pair_one : (both : Bool) (p q : ℕ) {r t : List ℕ} → both ≡ false → Added (one_bit q p) r t → Added (pair_bits both p q) r t
unfolding pair_bits
pair_one both p q e x = added_as (λ a b. rw e (sym (or-false (one_bit q p a b)))) x

pub pair_both : (both : Bool) (p q : ℕ) {r t u : List ℕ} → both ≡ true → Added (one_bit q p) r t → Added (one_bit p q) t u → Added (pair_bits both p q) r u
unfolding pair_bits
pair_both both p q e x y = added_then x y (λ a b. rw e)

-- a set in a row, word by word
module _ (p : ℕ) (set : List ℕ) where
  pub words_start : (t : List ℕ) → Adding (row_to p set) (row_from p set 0) t t
  unfolding row_from
  words_start t = adding_start (row_to p set) (λ a b. not (ltb (b / 64) 0) && row_to p set a b) t (λ a b. rw (le-ltb (b / 64) 0 (omega arith)))

  pub words_step : (w : ℕ) {t now after : List ℕ} → Adding (row_to p set) (row_from p set w) t now → Added (row_word_to p set w) now after → Adding (row_to p set) (row_from p set (w + 1)) t after
  unfolding row_from row_word_to
  words_step w x y = adding_step x y (λ a b. ap (λ (z : Bool). z && row_to p set a b) (next (b / 64) (decide (ltb (b / 64) w)) (decide (eqb (b / 64) w))) ∙ split (eqb (b / 64) w) (not (ltb (b / 64) (w + 1))) (row_to p set a b))
    where
      next : (v : ℕ) → (ltb v w ≡ true) ⊎ (ltb v w ≡ false) → (eqb v w ≡ true) ⊎ (eqb v w ≡ false) → not (ltb v w) ≡ (eqb v w || not (ltb v (w + 1)))
      next v (inl h) d = rw (h, ne_eqb v w (let l = ltb-true v w h in λ e. omega arith), lt-ltb v (w + 1) (let l = ltb-true v w h in omega arith))
      next v (inr h) (inl d) = rw (h, d)
      next v (inr h) (inr d) = rw (h, d, le-ltb v (w + 1) (let l = ltb-false v w h in omega (arith, eqb-false v w d)))

  pub words_done : (w : ℕ) {t now : List ℕ} → 8 ≤ w → Adding (row_to p set) (row_from p set w) t now → Added (row_to p set) t now
  unfolding row_from
  words_done w h x = adding_under x (λ a b l. rw (lt-ltb (b / 64) w (omega arith)))
