-- The keys of a graph that is held by its groups are those of the graph that they unfold to.
use Rattle.std.specs.Prelude.{◌≡◌, ℕ, ◌+◌, ◌-◌, ◌*◌, ◌%◌, ◌^◌, ◌<◌, ◌≤◌, Bool, true, false, cond, not, ◌&&◌, ◌⊎◌, List, length, ◌==◌, ◌≢◌, nat_eq, nat_lt, slice_index, slice_index_or, refl}
use Rattle.std.proofs.Math.Path.{sym, ap}
use Rattle.std.proofs.Common.{◌∙◌, inl, inr, arith}
use Rattle.std.proofs.Math.Bool.{and-false}
use borrow.Author.Tests.{eq-eqb, eqb-false, eqb-true, ne_eqb}
use Rattle.model.specs.Graph.{whole}
use Rattle.model.specs.Grouping.{cube, open_key}
use Rattle.model.specs.Tables.{edge_bit, keys_of}
use Rattle.model.proofs.TestLaws.{decide}
use Rattle.rows.specs.Rows.{moved_key}
use Rattle.keys.specs.Totals.{sum_of, sum_to}
use Rattle.keys.specs.TotalLaws.{total_add, total_cong, total_cubes, total_mod, total_none, total_one, total_set, total_swap}
use Rattle.keys.specs.SumLaws.{weights_cong}
use Rattle.keys.specs.KeySums.{Summed}
use Rattle.keys.specs.KeySumLaws.{summed_all}
use Rattle.keys.specs.TwinKeyLaws.{moved_back}
use Rattle.compressed.specs.Compressed.{Compressed, placed, unfolded, unfolded_edge}
use Rattle.compressed.specs.PlacedLaws.{placed_in, placed-lt, placed_out}
use Rattle.sums.specs.Joined.{JoinedSummed, chosen_cubes, own_cubes}
use Rattle.sums.specs.Sums.{Cubed, FirstsAreNodes, group_cubes, member_key, node_key}

-- choices by a test
cond_mod : (b : Bool) (x : ℕ) → cond b (x % 2 ^ 32) 0 ≡ cond b x 0 % 2 ^ 32
cond_mod true x = refl
cond_mod false x = refl

cond-sum : (b : Bool) (n : ℕ) (f : ℕ → ℕ) → cond b (sum_to n f) 0 ≡ sum_to n (λ q. cond b (f q) 0)
cond-sum true n f = refl
cond-sum false n f = sym (total_none n (λ q. 0) (λ q l. refl))

cond_none : (b : Bool) → ◌≡◌ {A = ℕ} (cond b 0 0) 0
cond_none true = refl
cond_none false = refl

module _ {n : ℕ} {least kinds joined : List ℕ} (h : Compressed n least kinds joined) where
  -- the edges of p, by its first member l
  edge_by : (p l q : ℕ) → placed n least p ≡ true → slice_index least p ≡ l
      → (unfolded n least kinds joined).edge p q ≡ (placed n least q && cond (l == slice_index least q) (slice_index kinds l == 2 && not (p == q)) (edge_bit joined l (slice_index least q)))
  unfolding unfolded unfolded_edge
  edge_by p l q t e = rw (t, e)

  -- the cubes of p's neighbours
  abbrev near : ℕ → ℕ
  near p = sum_of n ((unfolded n least kinds joined).edge p) (λ q. cube q)

  open-near : (p : ℕ) → open_key (whole (unfolded n least kinds joined)) p ≡ near p % 2 ^ 32
  unfolding open_key unfolded
  open-near p = ap (λ (x : ℕ). x % 2 ^ 32) (total_cubes n ((unfolded n least kinds joined).edge p))

  -- a node of no group
  none-near : (p : ℕ) → slice_index least p ≡ 65535 → near p ≡ 0
  unfolding unfolded placed
  none-near p e =
      let off : nat_eq (slice_index least p) 65535 ≡ true = eq-eqb (slice_index least p) 65535 e in
      total_none n (λ q. cond ((unfolded n least kinds joined).edge p q) (cube q) 0) (λ q l. rw (off, and-false (nat_lt p n)))

  -- the nodes of the groups joined to l's, and with them those of l's own
  abbrev far : ℕ → ℕ → Bool
  far l q = placed n least q && edge_bit joined l (slice_index least q)

  abbrev around : ℕ → ℕ → Bool
  around l q = placed n least q && cond (l == slice_index least q) true (edge_bit joined l (slice_index least q))

  module _ (p l : ℕ) (tp : placed n least p ≡ true) (ep : slice_index_or least p 0 ≡ l) where
    inside : l < 512
    inside = let b : p < n = placed-lt n least p tp in omega (arith, h.before p tp, h.small)

    not-joined : (q : ℕ) → (l == slice_index least q) ≡ true → edge_bit joined l (slice_index least q) ≡ false
    not-joined q z = ap (edge_bit joined l) (sym (eqb-true l (slice_index least q) z)) ∙ h.irreflexive l inside

    -- the neighbours of a member of no clique
    far-near : nat_eq (slice_index kinds l) 2 ≡ false → near p ≡ sum_of n (far l) (λ q. cube q)
    far-near k =
        weights_cong n ((unfolded n least kinds joined).edge p) (far l) (λ q. cube q) (λ q b. edge_by p l q tp ep ∙ same q (decide (l == slice_index least q)))
      where
        same : (q : ℕ) → ((l == slice_index least q) ≡ true) ⊎ ((l == slice_index least q) ≡ false)
            → (placed n least q && cond (l == slice_index least q) (slice_index kinds l == 2 && not (p == q)) (edge_bit joined l (slice_index least q))) ≡ far l q
        same q (inl z) = rw (k, z, not-joined q z)
        same q (inr z) = rw z

    around-parts : sum_of n (around l) (λ q. cube q) ≡ sum_of n (far l) (λ q. cube q) + group_cubes n least l
    unfolding group_cubes
    around-parts =
        total_cong n (λ q. cond (around l q) (cube q) 0) (λ q. cond (far l q) (cube q) 0 + cond (slice_index least q == l) (cube q) 0) (λ q b. step q b (decide (l == slice_index least q)))
        ∙ total_add n (λ q. cond (far l q) (cube q) 0) (λ q. cond (slice_index least q == l) (cube q) 0)
      where
        step : (q : ℕ) → q < n → ((l == slice_index least q) ≡ true) ⊎ ((l == slice_index least q) ≡ false)
            → cond (around l q) (cube q) 0 ≡ cond (far l q) (cube q) 0 + cond (slice_index least q == l) (cube q) 0
        step q b (inl z) =
            let e : slice_index_or least q 0 ≡ l = sym (eqb-true l (slice_index least q) z) in
            let t : placed n least q ≡ true = placed_in n least q b (λ y. omega (arith, inside)) in
            rw (t, z, not-joined q z, eq-eqb (slice_index least q) l e) (omega arith)
        step q b (inr z) = rw (z, ne_eqb (slice_index least q) l (λ y. eqb-false l (slice_index least q) z (sym y))) (omega arith)

  -- a member of a clique, with itself
  module _ (p l : ℕ) (tp : placed n least p ≡ true) (ep : slice_index_or least p 0 ≡ l) (k : nat_eq (slice_index kinds l) 2 ≡ true) where
    edge_in : (q : ℕ) → (unfolded n least kinds joined).edge p q ≡ (placed n least q && cond (l == slice_index least q) (not (p == q)) (edge_bit joined l (slice_index least q)))
    edge_in q = edge_by p l q tp ep ∙ ap (λ (b : Bool). placed n least q && cond (l == slice_index least q) (b && not (p == q)) (edge_bit joined l (slice_index least q))) k

    around-near : sum_of n (around l) (λ q. cube q) ≡ cube p + near p
    around-near = total_set n p (cube p) (λ q. cond (around l q) (cube q) 0) (λ q. cond ((unfolded n least kinds joined).edge p q) (cube q) 0) (placed-lt n least p tp) own other
      where
        led : nat_eq l (slice_index least p) ≡ true
        led = eq-eqb l (slice_index least p) (sym ep)

        on : around l p ≡ true
        on = rw (tp, led)

        off : (unfolded n least kinds joined).edge p p ≡ false
        off = edge_in p ∙ rw (tp, led, eq-eqb p p refl)

        own : cond (around l p) (cube p) 0 ≡ cube p + cond ((unfolded n least kinds joined).edge p p) (cube p) 0
        own = ap (λ (b : Bool). cond b (cube p) 0) on ∙ (let z : cube p ≡ cube p + 0 = omega arith in z) ∙ ap (λ (b : Bool). cube p + cond b (cube p) 0) (sym off)

        other : (j : ℕ) → (j ≢ p) → cond (around l j) (cube j) 0 ≡ cond ((unfolded n least kinds joined).edge p j) (cube j) 0
        other j d = ap (λ (b : Bool). cond b (cube j) 0) (sym (edge_in j ∙ ap (λ (b : Bool). placed n least j && cond (l == slice_index least j) (not b) (edge_bit joined l (slice_index least j))) (ne_eqb p j (λ e. d (sym e)))))

  -- the cubes of the groups joined to p's
  module _ {sums : List ℕ} (c : Cubed n least sums) (p : ℕ) where
    one-group : (q : ℕ) → q < n → sum_to 512 (λ f. cond (edge_bit joined p f) (cond (slice_index least q == f) (cube q) 0) 0) ≡ cond (far p q) (cube q) 0
    one-group q b = step (decide (placed n least q))
      where
        off : (f : ℕ) → (f ≢ slice_index least q) → cond (edge_bit joined p f) (cond (slice_index least q == f) (cube q) 0) 0 ≡ 0
        off f d = ap (λ (x : Bool). cond (edge_bit joined p f) (cond x (cube q) 0) 0) (ne_eqb (slice_index least q) f (λ e. d (sym e))) ∙ cond_none (edge_bit joined p f)

        step : (placed n least q ≡ true) ⊎ (placed n least q ≡ false) → sum_to 512 (λ f. cond (edge_bit joined p f) (cond (slice_index least q == f) (cube q) 0) 0) ≡ cond (far p q) (cube q) 0
        step (inl t) =
            total_one 512 (slice_index least q) (λ f. cond (edge_bit joined p f) (cond (slice_index least q == f) (cube q) 0) 0) (omega (arith, h.before q t, h.small)) off
            ∙ ap (λ (x : Bool). cond (edge_bit joined p (slice_index least q)) (cond x (cube q) 0) 0) (eq-eqb (slice_index least q) (slice_index least q) refl)
            ∙ ap (λ (x : Bool). cond (x && edge_bit joined p (slice_index least q)) (cube q) 0) (sym t)
        step (inr t) =
            let e : slice_index_or least q 0 ≡ 65535 = placed_out n least q b t in
            total_none 512 (λ f. cond (edge_bit joined p f) (cond (slice_index least q == f) (cube q) 0) 0) (λ f l. off f (λ z. omega arith))
            ∙ ap (λ (x : Bool). cond (x && edge_bit joined p (slice_index least q)) (cube q) 0) (sym t)

    chosen-far : chosen_cubes (edge_bit joined p) sums % 2 ^ 32 ≡ sum_of n (far p) (λ q. cube q) % 2 ^ 32
    unfolding group_cubes
    chosen-far =
        ap (λ (x : ℕ). x % 2 ^ 32)
        (total_cong 512 (λ f. cond (edge_bit joined p f) (own_cubes sums f) 0) (λ f. cond (edge_bit joined p f) (group_cubes n least f) 0 % 2 ^ 32) at)
        ∙ total_mod 512 (λ f. cond (edge_bit joined p f) (group_cubes n least f) 0)
        ∙ ap (λ (x : ℕ). x % 2 ^ 32)
        (total_cong 512 (λ f. cond (edge_bit joined p f) (group_cubes n least f) 0) (λ f. sum_to n (λ q. cond (edge_bit joined p f) (cond (slice_index least q == f) (cube q) 0) 0))
        (λ f l. cond-sum (edge_bit joined p f) n (λ q. cond (slice_index least q == f) (cube q) 0))
        ∙ total_swap 512 n (λ f q. cond (edge_bit joined p f) (cond (slice_index least q == f) (cube q) 0) 0)
        ∙ total_cong n (λ q. sum_to 512 (λ f. cond (edge_bit joined p f) (cond (slice_index least q == f) (cube q) 0) 0)) (λ q. cond (far p q) (cube q) 0) one-group)
      where
        at : (f : ℕ) → f < 512 → cond (edge_bit joined p f) (own_cubes sums f) 0 ≡ cond (edge_bit joined p f) (group_cubes n least f) 0 % 2 ^ 32
        at f l = ap (λ (x : ℕ). cond (edge_bit joined p f) x 0) (c.own f l) ∙ cond_mod (edge_bit joined p f) (group_cubes n least f)

  -- the key that the sums tell
  module _ {sums : List ℕ} (c : Cubed n least sums) (j : JoinedSummed joined sums) where
    member-near : (p l : ℕ) → placed n least p ≡ true → slice_index least p ≡ l → member_key sums (slice_index kinds l) l p ≡ near p % 2 ^ 32
    unfolding member_key moved_key
    member-near p l t e = step (decide (slice_index kinds l == 2))
      where
        b : l < 512
        b = inside p l t e

        step : ((slice_index kinds l == 2) ≡ true) ⊎ ((slice_index kinds l == 2) ≡ false)
            → cond (slice_index kinds l == 2) (((slice_index sums l + own_cubes sums l) % 2 ^ 32 + (2 ^ 32 - cube p % 2 ^ 32)) % 2 ^ 32) (slice_index sums l) ≡ near p % 2 ^ 32
        step (inl k) =
            rw k
            (moved_back (near p) (cube p) ((slice_index sums l + own_cubes sums l) % 2 ^ 32)
            (omega (arith, j.near l b, c.own l b, chosen-far c l, around-near p l t e k, around-parts p l t e)))
        step (inr k) = rw k (j.near l b ∙ chosen-far c l ∙ ap (λ (x : ℕ). x % 2 ^ 32) (sym (far-near p l t e k)))

    pub key_grouped : {p x : ℕ} → p < n → x ≡ node_key least kinds sums p → x ≡ open_key (whole (unfolded n least kinds joined)) p
    unfolding node_key
    key_grouped {p} {x} b e = e ∙ step (decide (slice_index least p == 65535)) ∙ sym (open-near p)
      where
        step : ((slice_index least p == 65535) ≡ true) ⊎ ((slice_index least p == 65535) ≡ false)
            → cond (slice_index least p == 65535) 0 (member_key sums (slice_index kinds (slice_index least p)) (slice_index least p) p) ≡ near p % 2 ^ 32
        step (inl z) = rw z (ap (λ (v : ℕ). v % 2 ^ 32) (sym (none-near p (eqb-true (slice_index least p) 65535 z))))
        step (inr z) = rw z (member-near p (slice_index least p) (placed_in n least p b (eqb-false (slice_index least p) 65535 z)) refl)

  -- as the sums ask it
  pub compressed_led : FirstsAreNodes n least
  compressed_led = record { small = h.small; size = h.nodes; first = λ p t. let b : p < n = placed-lt n least p t in omega (arith, h.before p t, h.small) }

-- all keys
pub grouped-all : (n : ℕ) (least kinds joined : List ℕ) {i : ℕ} {t t₁ : List ℕ} → Summed (unfolded n least kinds joined) i t t₁ → length t ≡ 2 * n → n ≤ i → t₁ ≡ keys_of (unfolded n least kinds joined)
unfolding unfolded
grouped-all n least kinds joined a l b = summed_all a l b
