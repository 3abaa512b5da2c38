-- Laws of slots by keys: rows that agree have one slot; and where nobody is hidden, the groups of all nodes are those of the visible ones.
use Rattle.std.specs.Prelude.{◌≡◌, ℕ, ◌+◌, ◌*◌, ◌<◌, Bool, true, false, cond, ◌&&◌, ◌⊎◌, List, length, ◌==◌, nat_lt, slice_index, refl}
use Rattle.std.proofs.Common.{sym, ◌∙◌, inl, inr}
use Rattle.std.proofs.Math.Path.{ap}
use Rattle.std.proofs.Math.Bool.{and-false}
use native.Mathlib.Omega.{arith}
use Rattle.std.proofs.Math.ListN.{length-replicate}
use borrow.Author.Tests.{eqb-true, le-ltb, lt-ltb, ltb-true}
use Rattle.model.specs.Lists.{head_or, nodes}
use Rattle.model.specs.Graph.{whole}
use Rattle.model.specs.Grouping.{group, least, similar}
use Rattle.model.specs.Tables.{classed_in, edges_in, graph_in}
use Rattle.model.specs.Release.{is_visible}
use Rattle.model.proofs.TestLaws.{and_fst, and_one, decide, differ}
use Rattle.model.proofs.TableLaws.{length_keys}
use Rattle.model.proofs.ListLaws.{filter_cong, nodes_out}
use Rattle.model.proofs.BoundLaws.{SameAt, similar_cong}
use Rattle.model.proofs.HiddenLaws.{least-visible}
use Rattle.buffers.specs.FilledLaws.{get_d_zeros}
use Rattle.search.specs.Search.{Ready, key_agrees}
use Rattle.search.specs.SearchLaws.{meets_words}
use Rattle.search.specs.TwinRowLaws.{false_key, meet_false, meet_true, true_key}
use Rattle.keys.specs.KeySums.{LeastTold}
use Rattle.compressed.specs.Compressed.{alike}
use Rattle.layout.specs.Truth.{Truth}
use Rattle.masking.specs.Masking.{Apart, drawn, shown}
use Rattle.masking.specs.MaskLaws.{visible_is}
use Rattle.grouping.specs.Chains.{SlotsTell, classed_slot, slot_in}
use Rattle.grouping.specs.HashLaws.{slot_in-lt}
use Rattle.grouping.specs.ChainLaws.{classed_tell}
use Rattle.grouping.specs.Keyed.{KeysTold, key_slot, nobody}

-- where nobody is hidden
pub shown-all : (p : ℕ) → shown nobody p ≡ true
unfolding shown nobody
shown-all p = rw (get_d_zeros 512 p)

module _ {n : ℕ} {edges keys classes : List ℕ} (k : KeysTold n edges keys classes) where
  pub nobody_hidden : Apart n edges nobody classes
  unfolding drawn
  nobody_hidden = record {
    proper = record { small = k.proper.small; symmetric = k.proper.symmetric; irreflexive = k.proper.irreflexive; inside = k.proper.inside; held = λ p t. ltb-true p n (and_fst (nat_lt p n) (slice_index nobody p == 1) t); classed = λ p. class p (decide (nat_lt p n)); unclassed = λ p l. rw (le-ltb p n l) };
    within = k.within;
    marked = unfold nobody in omega (arith, length-replicate {A = ℕ} 512 0, k.within.small);
    labelled = k.labelled;
    none = λ p q e. differ (shown-all q) e;
  }
    where
      class : (p : ℕ) → (nat_lt p n ≡ true) ⊎ (nat_lt p n ≡ false) → cond (nat_lt p n) (slice_index classes p) 0 < 256
      class p (inl t) = rw t (k.classed p (ltb-true p n t))
      class p (inr t) = rw t (omega arith)

  seen : (p : ℕ) → is_visible (drawn n edges nobody classes) p ≡ nat_lt p n
  seen p = visible_is n edges nobody classes p ∙ ap (λ (b : Bool). nat_lt p n && b) (shown-all p) ∙ and_one (nat_lt p n)

  unseen : (p q : ℕ) → is_visible (drawn n edges nobody classes) q ≡ false → (drawn n edges nobody classes).edge p q ≡ false
  unseen p q e = unfold drawn edges_in in rw (sym (seen q) ∙ e) (and-false (nat_lt p n))

  -- classes are read below n only
  least-same : (p : ℕ) → p < n → least (nodes n) (similar (whole (drawn n edges nobody classes))) p ≡ least (nodes n) (similar (whole (classed_in n edges (λ p. slice_index classes p)))) p
  unfolding least group drawn
  least-same p l = ap (head_or p) (filter_cong _ _ (nodes n) (λ q m. similar_cong (whole (drawn n edges nobody classes)) (edges_in n edges) (λ p. slice_index classes p) p q (same p l) (same q (nodes_out n q m))))
    where
      same : (q : ℕ) → q < n → SameAt (whole (drawn n edges nobody classes)) (whole (classed_in n edges (λ p. slice_index classes p))) q
      same q h = record { edge = λ r. refl; class = rw (lt-ltb q n h) }

  pub least-told : {lst : List ℕ} → Truth (drawn n edges nobody classes) lst classes edges → LeastTold n edges (λ p. slice_index classes p) lst
  unfolding drawn
  least-told t = record {
    size = t.size;
    told = λ p l. let v = seen p ∙ lt-ltb p n l in t.visible-least p v ∙ least-visible (drawn n edges nobody classes) t.proper unseen p v (λ q m a. seen q ∙ lt-ltb q n m) ∙ least-same p l;
  }

  -- rows that agree have one key
  pub keys_size : length keys ≡ 2 * n
  keys_size = ap length k.keys_of_lem ∙ length_keys (graph_in n edges)

  ready : Ready n edges keys
  ready = record { small = k.within.small; loops = λ p. k.proper.irreflexive p; edges_of_lem = k.within.edges_of_lem; keys_of_lem = k.keys_of_lem }

  key-same : (c : ℕ) (u q : ℕ) → key_agrees keys c u q ≡ true → slot_in (slice_index keys (2 * q + c)) ≡ slot_in (slice_index keys (2 * u + c))
  unfolding key_agrees
  key-same c u q h = ap slot_in (sym (eqb-true (slice_index keys (2 * u + c)) (slice_index keys (2 * q + c)) h))

  pub keys_tell : {u : ℕ} → u < n → SlotsTell edges classes (classed_slot classes (key_slot keys)) u
  unfolding key_slot alike
  keys_tell {u} hu = classed_tell edges classes (key_slot keys) same
    where
      same : (closed : Bool) (q : ℕ) → q < u → alike edges closed u q ≡ true → key_slot keys closed q ≡ key_slot keys closed u
      same true q l h = key-same 1 u q (true_key n edges keys ready u q hu (omega arith) (meet_true n edges keys ready u q hu (omega arith) (meets_words true u q edges h)))
      same false q l h = key-same 0 u q (false_key n edges keys ready u q hu (omega arith) (meet_false n edges keys ready u q hu (omega arith) (meets_words false u q edges h)))

pub slot_small : (y : ℕ) {r : ℕ} → r ≡ slot_in y → r < 1024
slot_small y e = omega (arith, slot_in-lt y)
