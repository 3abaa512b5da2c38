-- Laws of the slots of groups' rows: rows that agree have one slot, by sums as by words.
use Rattle.std.specs.Prelude.{◌≡◌, ℕ, ◌+◌, ◌%◌, ◌^◌, ◌<◌, Bool, true, false, List, slice_index, refl}
use Rattle.std.proofs.Math.Path.{ap}
use Rattle.std.proofs.Common.{◌∙◌, arith}
use Rattle.rows.specs.Rows.{Words}
use Rattle.compressed.specs.Compressed.{alike}
use Rattle.sums.specs.AlikeLaws.{alike-closed, alike_open}
use Rattle.grouping.specs.Chains.{SlotsTell, classed_slot, row_slot, slot_in}
use Rattle.grouping.specs.HashLaws.{slot_in-lt, slot_lt}
use Rattle.grouping.specs.ChainLaws.{alike_slot, classed_tell}
use Rattle.grouping.specs.Slots.{SumsTold, group_slot, row_sum}

-- the slot by a sum
module _ (sums : List ℕ) {closed : Bool} (u : ℕ) {r : ℕ} where
  pub sum_open : closed ≡ false → r ≡ slot_in (slice_index sums u) → r ≡ slot_in (row_sum sums closed u)
  unfolding row_sum
  sum_open c e = rw c e

  pub sum-closed : {x : ℕ} → closed ≡ true → x ≡ (slice_index sums u + slice_index sums (512 + u)) % 2 ^ 32 → r ≡ slot_in x → r ≡ slot_in (row_sum sums closed u)
  unfolding row_sum
  sum-closed c ex e = rw c (e ∙ ap slot_in ex)

-- by the sum or by the words
module _ (joined : List ℕ) {few : Bool} (sums : List ℕ) (closed : Bool) (u : ℕ) {r : ℕ} where
  pub by_sum : few ≡ true → r ≡ slot_in (row_sum sums closed u) → r ≡ group_slot joined few sums closed u
  unfolding group_slot
  by_sum f e = rw f e

  pub by_words : few ≡ false → r ≡ row_slot joined closed u → r ≡ group_slot joined few sums closed u
  unfolding group_slot
  by_words f e = rw f e

-- by the words alone
pub rows_tell : (edges classes : List ℕ) → Words edges → (u : ℕ) → SlotsTell edges classes (classed_slot classes (row_slot edges)) u
rows_tell edges classes fit u = classed_tell edges classes (row_slot edges) (λ closed q m h. alike_slot edges fit closed u q h)

module _ (joined : List ℕ) (few : Bool) (sums : List ℕ) where
  group-slot-lt : (closed : Bool) (q : ℕ) → group_slot joined few sums closed q < 1024
  group-slot-lt closed q = step few
    where
      step : (f : Bool) → group_slot joined f sums closed q < 1024
      step true = unfold group_slot in slot_in-lt (row_sum sums closed q)
      step false = unfold group_slot in slot_lt joined closed q

  pub small_group_slot : (closed : Bool) (q : ℕ) {s : ℕ} → s ≡ group_slot joined few sums closed q → s < 1024
  small_group_slot closed q e = omega (arith, group-slot-lt closed q)

  sum_same : SumsTold joined sums → (closed : Bool) (u q : ℕ) → u < 512 → q < 512 → alike joined closed u q ≡ true → row_sum sums closed q ≡ row_sum sums closed u
  unfolding row_sum
  sum_same t true u q l m h = alike-closed t.summed l m t.irreflexive h
  sum_same t false u q l m h = alike_open t.summed l m h

  pub slots_tell : (classes : List ℕ) → Words joined → (few ≡ true → SumsTold joined sums) → {u : ℕ} → u < 512 → SlotsTell joined classes (classed_slot classes (group_slot joined few sums)) u
  slots_tell classes fit told {u} l = classed_tell joined classes (group_slot joined few sums) (λ closed q m h. step few told closed q m h)
    where
      step : (f : Bool) → (f ≡ true → SumsTold joined sums) → (closed : Bool) (q : ℕ) → q < u → alike joined closed u q ≡ true → group_slot joined f sums closed q ≡ group_slot joined f sums closed u
      step true t closed q m h = unfold group_slot in ap slot_in (sum_same (t refl) closed u q l (omega arith) h)
      step false t closed q m h = unfold group_slot in alike_slot joined fit closed u q h
