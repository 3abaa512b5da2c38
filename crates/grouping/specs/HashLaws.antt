-- Laws of the hash of a row: the closed row's follows from the open row's, since rotating and adding up bits go together.
use Rattle.std.specs.Prelude.{◌≡◌, ℕ, zero, suc, ◌+◌, ◌-◌, ◌*◌, ◌/◌, ◌%◌, ◌^◌, ◌<◌, Bool, true, false, List, [], nat_eq, slice_index, ◌≤◌, length, drop, take, fold}
use Rattle.std.proofs.Math.Path.{refl, sym, ap₂}
use Rattle.std.proofs.Common.{ap, ◌∙◌, add-zero, mod-eq_of_lt, arith, pow_pos, eqb-true}
use Rattle.std.proofs.Math.Bool.{xor}
use Rattle.std.specs.Int.Bits.{bit_xor, xor_zero_r}
use Rattle.std.proofs.lemmas.List.{get_or-drop, length-drop}
use Rattle.std.proofs.lemmas.List.Sums.{fold_more}
use Rattle.std.proofs.lemmas.Nat.{xor_block, xor_mod, xor_shr}
use Rattle.std.proofs.Math.Pow.{pow-lt}
use Rattle.model.specs.Lists.{all, from, nodes}
use Rattle.model.specs.Tables.{bit_at}
use Rattle.model.proofs.ListLaws.{all_elim, nodes_in_lem}
use Rattle.search.specs.Search.{own_bit}
use Rattle.rows.specs.BitLaws.{bit_xor_lem, word_bits, word_cong}
use Rattle.grouping.specs.Chains.{hash_of, own_rotated, rotated, row_slot, row_word, slot_for, slot_in, unrotated}

-- numbers with the same bits are equal
below_pow : (x : ℕ) → x < 2 ^ x
below_pow zero = pow_pos 0
below_pow (suc x) = omega (arith, below_pow x, pow-lt {i = x} {j = suc x} (omega arith))

bits_eq : (x y : ℕ) → ((j : ℕ) → bit_at x j ≡ bit_at y j) → x ≡ y
bits_eq x y h =
    sym (mod-eq_of_lt (omega (arith, below_pow (x + y)))) ∙ sym (word_bits (x + y) x) ∙ word_cong (x + y) (bit_at x) (bit_at y) (λ j l. h j) ∙ word_bits (x + y) y ∙ mod-eq_of_lt (omega (arith, below_pow (x + y)))

-- four numbers added up, sorted the other way
four : (p q r s : Bool) → xor (xor p q) (xor r s) ≡ xor (xor p r) (xor q s)
unfolding xor
four true true true true = refl
four true true true false = refl
four true true false true = refl
four true true false false = refl
four true false true true = refl
four true false true false = refl
four true false false true = refl
four true false false false = refl
four false true true true = refl
four false true true false = refl
four false true false true = refl
four false true false false = refl
four false false true true = refl
four false false true false = refl
four false false false true = refl
four false false false false = refl

xor_four : (a b c d : ℕ) → bit_xor (bit_xor a b) (bit_xor c d) ≡ bit_xor (bit_xor a c) (bit_xor b d)
xor_four a b c d =
    bits_eq (bit_xor (bit_xor a b) (bit_xor c d)) (bit_xor (bit_xor a c) (bit_xor b d))
    (λ j. bit_xor_lem (bit_xor a b) (bit_xor c d) j ∙ ap₂ xor (bit_xor_lem a b j) (bit_xor_lem c d j) ∙ four (bit_at a j) (bit_at b j) (bit_at c j) (bit_at d j) ∙ sym (bit_xor_lem (bit_xor a c) (bit_xor b d) j ∙ ap₂ xor (bit_xor_lem a c j) (bit_xor_lem b d j)))

xor_shl : (a b k : ℕ) → bit_xor a b * 2 ^ k ≡ bit_xor (a * 2 ^ k) (b * 2 ^ k)
xor_shl a b k = sym (ap₂ bit_xor (sym (add-zero (a * 2 ^ k))) (sym (add-zero (b * 2 ^ k))) ∙ xor_block k a b 0 0 (pow_pos k) (pow_pos k) ∙ add-zero (bit_xor a b * 2 ^ k))

pub rotated_xor : (a b : ℕ) → rotated (bit_xor a b) ≡ bit_xor (rotated a) (rotated b)
unfolding rotated
rotated_xor a b = ap₂ bit_xor (ap (λ (x : ℕ). x % 2 ^ 64) (xor_shl a b 9) ∙ xor_mod (a * 2 ^ 9) (b * 2 ^ 9) 64) (xor_shr a b 55) ∙ xor_four (a * 2 ^ 9 % 2 ^ 64) (b * 2 ^ 9 % 2 ^ 64) (a / 2 ^ 55) (b / 2 ^ 55)

-- word by word
pub hash_folded : (rotate : ℕ → ℕ) (edges : List ℕ) (p : ℕ) → 8 * p + 8 ≤ length edges → fold (λ h x. bit_xor (rotate h) x) 0 (take (8 * p + 8 - 8 * p) (drop (8 * p) edges)) ≡ hash_of rotate edges false p 8
unfolding hash_of row_word
hash_folded rotate edges p l = let e : 8 * p + 8 - 8 * p ≡ 8 = omega arith in rw e (words 8 (omega arith))
  where
    words : (k : ℕ) → k ≤ 8 → fold (λ h x. bit_xor (rotate h) x) 0 (take k (drop (8 * p) edges)) ≡ hash_of rotate edges false p k
    words zero h = refl
    words (suc k) h =
        let e : suc k ≡ k + 1 = omega arith in
        ap (λ (m : ℕ). fold (λ h x. bit_xor (rotate h) x) 0 (take m (drop (8 * p) edges))) e
        ∙ fold_more (λ h x. bit_xor (rotate h) x) 0 (drop (8 * p) edges) k 0 (simp length-drop (omega arith))
        ∙ ap₂ (λ (a b : ℕ). bit_xor (rotate a) b) (words k (omega arith)) (get_or-drop (8 * p) edges k 0 ∙ sym (xor_zero_r (slice_index edges (8 * p + k))))

pub hash_same : (rotate : ℕ → ℕ) (edges : List ℕ) (closed : Bool) (p q k : ℕ) → ((w : ℕ) → w < k → row_word edges closed p w ≡ row_word edges closed q w) → hash_of rotate edges closed p k ≡ hash_of rotate edges closed q k
unfolding hash_of
hash_same rotate edges closed p q zero h = refl
hash_same rotate edges closed p q (suc k) h = ap₂ (λ (a b : ℕ). bit_xor (rotate a) b) (hash_same rotate edges closed p q k (λ w l. h w (omega arith))) (h k (omega arith))

-- the closed row is the open one and the own bit
hash_split : (rotate : ℕ → ℕ) → ((a b : ℕ) → rotate (bit_xor a b) ≡ bit_xor (rotate a) (rotate b)) → (edges : List ℕ) (p k : ℕ) → hash_of rotate edges true p k ≡ bit_xor (hash_of rotate edges false p k) (hash_of rotate [] true p k)
unfolding hash_of row_word
hash_split rotate adds edges p zero = refl
hash_split rotate adds edges p (suc k) =
    ap₂ bit_xor (ap rotate (hash_split rotate adds edges p k) ∙ adds (hash_of rotate edges false p k) (hash_of rotate [] true p k)) (ap (λ (x : ℕ). bit_xor x (own_bit p k)) (sym (xor_zero_r (slice_index edges (8 * p + k)))))
    ∙ xor_four (rotate (hash_of rotate edges false p k)) (rotate (hash_of rotate [] true p k)) (bit_xor (slice_index edges (8 * p + k)) 0) (own_bit p k)

-- the own bit alone, for each of the 512 nodes
own_rotated_lem : (p : ℕ) → p < 512 → hash_of rotated [] true p 8 ≡ own_rotated p
own_rotated_lem p l = eqb-true _ _ (all_elim (nodes 512) (λ x. nat_eq (hash_of rotated [] true x 8) (own_rotated x)) each p (nodes_in_lem 512 p l))
  where
    each : all (nodes 512) (λ x. nat_eq (hash_of rotated [] true x 8) (own_rotated x)) ≡ true
    each = unfold all nodes from hash_of rotated row_word own_bit own_rotated in refl

pub own_at : (p : ℕ) {w : ℕ} → w ≡ p / 64 → 2 ^ ((p + 63 - 9 * w) % 64) ≡ own_rotated p
unfolding own_rotated
own_at p e = rw e

own_plain : (p : ℕ) → p < 512 → hash_of unrotated [] true p 8 ≡ 2 ^ (p % 64)
own_plain p l = eqb-true _ _ (all_elim (nodes 512) (λ x. nat_eq (hash_of unrotated [] true x 8) (2 ^ (x % 64))) each p (nodes_in_lem 512 p l))
  where
    each : all (nodes 512) (λ x. nat_eq (hash_of unrotated [] true x 8) (2 ^ (x % 64))) ≡ true
    each = unfold all nodes from hash_of row_word own_bit in refl

-- the slot, of the open and of the closed row
module _ (edges : List ℕ) (closed : Bool) (p : ℕ) {h k r : ℕ} (eh : h ≡ hash_of rotated edges false p 8) (ek : k ≡ hash_of unrotated edges false p 8) where
  pub slot_open : closed ≡ false → r ≡ slot_for h k → r ≡ row_slot edges closed p
  unfolding row_slot
  slot_open c e = rw c (e ∙ ap₂ slot_for eh ek)

  pub slot_closed : {o m : ℕ} → p < 512 → closed ≡ true → o ≡ own_rotated p → m ≡ 2 ^ (p % 64) → r ≡ slot_for (bit_xor h o) (bit_xor k m) → r ≡ row_slot edges closed p
  unfolding row_slot
  slot_closed l c eo em e =
      rw c
      (e
      ∙ ap₂ slot_for
      (ap₂ bit_xor eh (eo ∙ sym (own_rotated_lem p l)) ∙ sym (hash_split rotated rotated_xor edges p 8))
      (ap₂ bit_xor ek (em ∙ sym (own_plain p l)) ∙ sym (hash_split unrotated (λ a b. refl) edges p 8)))

pub slot_in-lt : (y : ℕ) → slot_in y < 1024
unfolding slot_in
slot_in-lt y = omega arith

pub slot_lt : (edges : List ℕ) (closed : Bool) (p : ℕ) → row_slot edges closed p < 1024
unfolding row_slot slot_for
slot_lt edges closed p = slot_in-lt (bit_xor (bit_xor (hash_of rotated edges closed p 8) (hash_of unrotated edges closed p 8 / 2 ^ 5)) (hash_of unrotated edges closed p 8 / 2 ^ 23))

pub small_slot : (edges : List ℕ) (closed : Bool) (p : ℕ) {s : ℕ} → s ≡ row_slot edges closed p → s < 1024
small_slot edges closed p e = omega (arith, slot_lt edges closed p)
