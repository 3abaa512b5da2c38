-- Nodes in groups: those of the graph, with a first member. They are its visible ones.
use Rattle.std.specs.Prelude.{◌≡◌, Bool, ◌&&◌, List, ◌⊎◌, ℕ, ◌<◌, eqb, ltb, get_or}
use Rattle.std.proofs.Math.Path.{refl}
use Rattle.std.proofs.Math.Bool.{true, false, not}
use Rattle.std.proofs.Common.{inl, inr}
use borrow.Author.Tests.{eqb-false, eqb-true, lt-ltb, ltb-true, ne_eqb}
use Rattle.model.specs.Release.{is_visible}
use Rattle.model.proofs.TestLaws.{and_fst, decide, differ}
use Rattle.rows.specs.Rows.{no_node}
use Rattle.compressed.specs.Compressed.{placed, unfolded}

module _ (n : ℕ) (least : List ℕ) (p : ℕ) where
  pub placed-lt : placed n least p ≡ true → p < n
  unfolding placed
  placed-lt t = ltb-true p n (and_fst (ltb p n) (not (eqb (get_or least p 0) no_node)) t)

  pub placed_in : p < n → (get_or least p 0 ≡ no_node → ⊥) → placed n least p ≡ true
  unfolding placed
  placed_in b d = rw (lt-ltb p n b, ne_eqb (get_or least p 0) no_node d)

  pub placed_out : p < n → placed n least p ≡ false → get_or least p 0 ≡ no_node
  placed_out b t = step (decide (eqb (get_or least p 0) no_node))
    where
      step : (eqb (get_or least p 0) no_node ≡ true) ⊎ (eqb (get_or least p 0) no_node ≡ false) → get_or least p 0 ≡ no_node
      step (inl z) = eqb-true (get_or least p 0) no_node z
      step (inr z) = differ (placed_in b (eqb-false (get_or least p 0) no_node z)) t

  pub placed-visible : (kinds joined : List ℕ) → is_visible (unfolded n least kinds joined) p ≡ placed n least p
  unfolding is_visible unfolded placed
  placed-visible kinds joined = step (ltb p n) (eqb (get_or least p 0) no_node)
    where
      step : (a b : Bool) → (a && not (a && b)) ≡ (a && not b)
      step true b = refl
      step false b = refl
