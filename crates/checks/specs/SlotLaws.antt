-- Keys of leaders, by slots: where a slot is free, no leader of the class so far has the key.
use Rattle.std.specs.Prelude.{◌≡◌, ℕ, ◌+◌, ◌*◌, ◌/◌, ◌%◌, ◌^◌, ◌<◌, Bool, true, false, not, ◌||◌, ◌⊎◌, List, length, ◌==◌, ◌≢◌, bit_or, slice_index, slice_set}
use Rattle.std.proofs.Math.Path.{refl, sym}
use Rattle.std.proofs.Common.{ap, ap₂, ◌∙◌, inl, inr, add-zero, arith}
use Rattle.std.proofs.Math.Bool.{or-true}
use Rattle.std.proofs.Math.Decide.{ℕ_discrete}
use borrow.Author.Tests.{eqb-true, eq-eqb}
use Rattle.model.specs.Graph.{node_numbers, whole}
use Rattle.model.specs.Grouping.{false_twins, true_twins}
use Rattle.model.specs.Tables.{bit_at, node_number, graph_in}
use Rattle.model.proofs.TestLaws.{and_fst, and_snd, decide, differ}
use Rattle.model.proofs.TwinLaws.{similar_cases}
use Rattle.rows.specs.BitLaws.{edge_at}
use Rattle.search.specs.Search.{Ready, first_from, joins, key_agrees, same_class}
use Rattle.search.specs.SearchLaws.{first_none, similar_by_class}
use Rattle.search.specs.TwinRowLaws.{false_key, true_key}
use Rattle.drawing.specs.BitLaws.{bit-set}
use Rattle.drawing.specs.Drawing.{one_bit}
use Rattle.checks.specs.Checks.{alone}
use Rattle.checks.specs.Slots.{Seen, SlotTaken, is_taken, key_slot, slot_words}

-- no leader below u of its class has its key k
abbrev pub NewKey : List ℕ → List ℕ → ℕ → ℕ → Type 0
NewKey table keys k u = (q : ℕ) → q < u → node_number table q 0 ≡ q → same_class table u q ≡ true → key_agrees keys k u q ≢ true

-- the bit that the code has found, set and read
pub slot_taken : (slots : List ℕ) (key class s i m : ℕ) {r : Bool} → length slots ≡ slot_words → s ≡ key_slot key class → i ≡ s / 64 → m ≡ 2 ^ (s % 64) → r ≡ bit_at (slice_index slots i) (s % 64)
    → SlotTaken key class slots (slice_set slots i (bit_or (slice_index slots i) m)) r
unfolding is_taken
slot_taken slots key class s i m size es ei em er =
    let p : i ≡ 8 * (key_slot key class / 512) + key_slot key class % 512 / 64 = omega arith in
    let b : s % 64 ≡ key_slot key class % 512 % 64 = omega arith in
    record {
      added = bit-set slots (key_slot key class / 512) (key_slot key class % 512) i m (omega arith) (omega arith) p (em ∙ ap (λ (x : ℕ). 2 ^ x) b);
      was = er ∙ ap (bit_at (slice_index slots i)) b ∙ edge_at slots (key_slot key class / 512) (key_slot key class % 512) p;
    }

module _ {key class : ℕ} {slots after : List ℕ} {r : Bool} (t : SlotTaken key class slots after r) where
  taken_more : (other kind : ℕ) → is_taken after other kind ≡ (is_taken slots other kind || one_bit (key_slot key class / 512) (key_slot key class % 512) (key_slot other kind / 512) (key_slot other kind % 512))
  unfolding is_taken
  taken_more other kind = t.added.bits (key_slot other kind / 512) (key_slot other kind % 512) (omega arith)

  taken-now : is_taken after key class ≡ true
  unfolding one_bit
  taken-now = taken_more key class ∙ rw (eq-eqb (key_slot key class / 512) (key_slot key class / 512) refl, eq-eqb (key_slot key class % 512) (key_slot key class % 512) refl) (or-true (is_taken slots key class))

  taken-still : (other kind : ℕ) → is_taken slots other kind ≡ true → is_taken after other kind ≡ true
  taken-still other kind h = taken_more other kind ∙ rw h

-- the open key is key 0
pub even_place : (keys : List ℕ) (u : ℕ) → slice_index keys (2 * u) ≡ slice_index keys (2 * u + 0)
even_place keys u = rw (add-zero (2 * u))

-- the class of u where the code reads it
pub class_place : (table : List ℕ) (u : ℕ) → slice_index table (node_numbers * u + 4) ≡ node_number table u 4
unfolding node_number
class_place table u = refl

module _ {table keys : List ℕ} {k : ℕ} where
  module _ {u : ℕ} {slots : List ℕ} (s : Seen table keys k u slots) where
    pub seen_member : (node_number table u 0 ≢ u) → Seen table keys k (u + 1) slots
    seen_member d = record { size = s.size; taken = λ q l e. s.taken q (below q l e (ℕ_discrete q u)) e }
      where
        below : (q : ℕ) → q < u + 1 → node_number table q 0 ≡ q → Dec (q ≡ u) → q < u
        below q l e (yes z) = absurd (d (rw z at e))
        below q l e (no z) = omega arith

    -- u's key and class
    module _ {key class : ℕ} {after : List ℕ} {r : Bool} (is : key ≡ slice_index keys (2 * u + k)) (of : class ≡ node_number table u 4) (t : SlotTaken key class slots after r) where
      pub seen_leader : Seen table keys k (u + 1) after
      seen_leader = record { size = t.added.size ∙ s.size; taken = λ q l e. step q l e (ℕ_discrete q u) }
        where
          step : (q : ℕ) → q < u + 1 → node_number table q 0 ≡ q → Dec (q ≡ u) → is_taken after (slice_index keys (2 * q + k)) (node_number table q 4) ≡ true
          step q l e (yes z) = rw (z, ← is, ← of) (taken-now t)
          step q l e (no z) = taken-still t (slice_index keys (2 * q + k)) (node_number table q 4) (s.taken q (omega arith) e)

      -- its slot was free
      pub seen_new : r ≡ false → NewKey table keys k u
      unfolding key_agrees same_class
      seen_new free q l e same h =
          differ (s.taken q l e)
          (ap₂ (is_taken slots) (sym (is ∙ eqb-true (slice_index keys (2 * u + k)) (slice_index keys (2 * q + k)) h)) (sym (of ∙ eqb-true (node_number table u 4) (node_number table q 4) same)) ∙ sym t.was ∙ free)

-- where both keys are new, nobody below is similar
module _ {n : ℕ} {edges keys : List ℕ} (table : List ℕ) {u : ℕ} (ready : Ready n edges keys) (inside : u < n) (leads : node_number table u 0 ≡ u) (open-new : NewKey table keys 0 u) (closed-new : NewKey table keys 1 u) where
  no-twin : (q : ℕ) → q < u → node_number table q 0 ≡ q → same_class table u q ≡ true → (false_twins (whole (graph_in n edges)) u q ≡ true) ⊎ (true_twins (whole (graph_in n edges)) u q ≡ true) → ⊥
  no-twin q l e same (inl h) = open-new q l e same (false_key n edges keys ready u q inside (omega arith) h)
  no-twin q l e same (inr h) = closed-new q l e same (true_key n edges keys ready u q inside (omega arith) h)

  no_join : (q : ℕ) → q < u → joins n edges table u u q ≡ false
  unfolding joins
  no_join q l = step (decide (joins n edges table u u q))
    where
      step : (joins n edges table u u q ≡ true) ⊎ (joins n edges table u u q ≡ false) → joins n edges table u u q ≡ false
      step (inl h) =
          let b = and_snd (not (q == u)) _ (and_snd (not (q == u)) _ h) in
          let d = sym (similar_by_class n edges table u q) ∙ and_snd (node_number table q 0 == q) _ b in
          absurd (no-twin q l (eqb-true (node_number table q 0) q (and_fst (node_number table q 0 == q) _ b)) (and_fst (same_class table u q) _ d) (similar_cases (whole (graph_in n edges)) u q (and_snd (same_class table u q) _ d)))
      step (inr h) = h

  pub alone_fresh : true ≡ alone n edges table u
  unfolding alone
  alone_fresh = rw (eq-eqb (node_number table u 0) u leads, eq-eqb (first_from (joins n edges table u u) 0 u) u (sym (first_none (joins n edges table u u) u no_join)))
