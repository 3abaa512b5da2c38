-- Two nodes that are asked for.
use Rattle.std.specs.Prelude.{◌≡◌, ℕ, ◌<◌, ◌≤◌, not, ◌≢◌, nat_lt, refl}
use Rattle.std.proofs.Common.{sym, ◌∙◌}
use borrow.Author.Tests.{eqb-false, eq-eqb, ne_eqb, ltb-true, lt-ltb, le-ltb, not-false}
use Rattle.model.specs.Refusals.{first_of, pair_reasons}
use Rattle.model.proofs.RefusalLaws.{first_none}
use Rattle.model.proofs.TestLaws.{or_none}

module _ (n u v : ℕ) where
  pub first_outside : n ≤ u → 14 ≡ first_of (pair_reasons n u v)
  unfolding first_of pair_reasons
  first_outside h = rw (le-ltb u n h)

  pub second_outside : u < n → n ≤ v → 14 ≡ first_of (pair_reasons n u v)
  unfolding first_of pair_reasons
  second_outside h k = rw (lt-ltb u n h, le-ltb v n k)

  module _ (h : u < n) (k : v < n) where
    pub one_node_lem : u ≡ v → 15 ≡ first_of (pair_reasons n u v)
    unfolding first_of pair_reasons
    one_node_lem e = rw (lt-ltb u n h, lt-ltb v n k, eq-eqb u v e)

    pub two_nodes : u ≢ v → 0 ≡ first_of (pair_reasons n u v)
    unfolding first_of pair_reasons
    two_nodes d = rw (lt-ltb u n h, lt-ltb v n k, ne_eqb u v d)

-- where nothing stands against them
pub pair_ends : (n u v : ℕ) {r : ℕ} → r ≡ first_of (pair_reasons n u v) → r ≡ 0 → (u < n) × (v < n) × (u ≢ v)
unfolding pair_reasons
pair_ends n u v e z =
    let a = first_none _ 14 _ refl (sym e ∙ z) in
    let b = or_none (not (nat_lt u n)) _ a.0 in
    (ltb-true u n (not-false _ b.0), ltb-true v n (not-false _ b.1), eqb-false u v (first_none _ 15 _ refl a.1).0)
