-- An update as a whole: two nodes, or one, are taken out, the relation changes at them alone, and they are put back one after the other.
use Rattle.std.specs.Prelude.{◌≡◌, ◌≢◌, Bool, true, List, ℕ, ◌+◌, ◌*◌, ◌≤◌, ◌<◌, eqb, length}
use Rattle.std.proofs.Common.{sym, subst, ◌∙◌, ap, arith, le_antisymm}
use Rattle.std.proofs.Math.Decide.{ℕ_discrete}
use Rattle.model.specs.Graph.{max_nodes, node_numbers}
use Rattle.model.specs.Tables.{node_number}
use Rattle.rings.specs.Ring.{Best, Parts, Out, Ring, Table, Of}
use Rattle.rings.specs.RingLaws.{out_parts}
use Rattle.rings.specs.Steps.{Sound, Taken, OthersLeft, stayed, left, Fit, Back, joined, alone}
use Rattle.rings.specs.MoveLaws.{sound, taken, placed}
use Rattle.rings.specs.CountLaws.{count, count_joined, count_same, count-taken, leads_in}

-- the search for a group among n nodes: r is the one, or none is
pub data Found (n u w : ℕ) (S : ℕ → Bool) (t : List ℕ) (r : ℕ) : Type 0 where
  at : r < n → Fit u w S t r → Found n u w S t r
  nowhere : r ≡ n → ((p : ℕ) → p < n → ¬ Fit u w S t p) → Found n u w S t r

pub found_at : {n u w : ℕ} {S : ℕ → Bool} {t : List ℕ} {r : ℕ} → Found n u w S t r → r < n → Fit u w S t r
found_at (at h x) i = x
found_at (nowhere e f) i = absurd (omega arith)

pub found_none : {n u w : ℕ} {S : ℕ → Bool} {t : List ℕ} {r : ℕ} → Found n u w S t r → n ≤ r → (p : ℕ) → p < n → ¬ Fit u w S t p
found_none (at h x) i = absurd (omega arith)
found_none (nowhere e f) i = f

pub back_size : {n u w z : ℕ} {S : ℕ → Bool} {t t' : List ℕ} → Back n u w z S t t' → length t' ≡ length t
back_size (joined g h f x i) = x.put.size
back_size (alone f e i) = ap length e

pub back_rest : {n u w z : ℕ} {S : ℕ → Bool} {t t' : List ℕ} → Back n u w z S t t' → (p k : ℕ) → p < n → 3 ≤ k → k < node_numbers → node_number t' p k ≡ node_number t p k
back_rest (joined g h f x i) p k hp h3 hk = x.put.rest p k hp h3 hk
back_rest (alone f e i) p k hp h3 hk = ap (λ x. node_number x p k) e

-- the test of a leader is asked for nodes alone
pub back_cong : {n u w z : ℕ} {S S' : ℕ → Bool} {t t' : List ℕ} → ((q : ℕ) → q < n → S q ≡ S' q) → Back n u w z S t t' → Back n u w z S' t t'
back_cong e (joined g h f x i) = joined g h (record { not_u = f.not_u; not_w = f.not_w; leads = f.leads; alike = sym (e g h) ∙ f.alike }) x i
back_cong e (alone f d i) = alone (λ p h y. f p h (record { not_u = y.not_u; not_w = y.not_w; leads = y.leads; alike = e p h ∙ y.alike })) d i

pub others_left_small : {b u r : ℕ} → OthersLeft b u r → r ≤ 1
others_left_small (stayed e i) = omega arith
others_left_small (left e i) = omega arith

pub back_small : {n u w z : ℕ} {S : ℕ → Bool} {t t' : List ℕ} → Back n u w z S t t' → z ≤ 1
back_small (joined g h f x i) = omega arith
back_small (alone f e i) = omega arith

-- the table depends on the relation alone
pub same : {n : ℕ} {R R' : ℕ → ℕ → Type 0} {t : List ℕ} → ((p q : ℕ) → R p q → R' p q) → ((p q : ℕ) → R' p q → R p q) → Table n R t → Table n R' t
same {n} {R} {R'} f g a = record { least = ring a.least; next = ring a.next; prev = ring a.prev }
  where
    ring : {δ : ℕ → ℕ → ℕ} {N : ℕ → ℕ} → Ring n R δ N → Ring n R' δ N
    ring h p hp = record { mem = f p _ (h p hp).mem; near = λ r x. (h p hp).near r (g p r x) }

-- how many groups there are once u is put back
pub back_count : {n : ℕ} {R : ℕ → ℕ → Type 0} → Parts n R → {u : ℕ} {t : List ℕ} → Table n (Out u R) t → {w z : ℕ} {S : ℕ → Bool} {t' : List ℕ}
    → ((r : ℕ) → r < n → r ≢ u → r ≢ w → S r ≡ true → R u r) → Back n u w z S t t' → count n (leads_in t') + z ≡ count n (leads_in t)
back_count k a f (joined r hr y x i) =
    let c = count_joined k (f r hr y.not_u y.not_w y.alike) y.not_u a y.leads x in
    omega arith
back_count {n} k a f (alone no_one e i) =
    let c = ap (λ x. count n (leads_in x)) e in
    omega arith

module _ {n : ℕ} {R : ℕ → ℕ → Type 0} (k : Parts n R) {u : ℕ} (hu : u < n) {t : List ℕ} (a : Table n (Out u R) t) where
  -- the least member's least member is itself
  leader : (q : ℕ) → q < n → node_number t (node_number t q 0) 0 ≡ node_number t q 0
  leader q hq =
      let o = out_parts k u in
      let l = a.least q hq in
      let l' = a.least (node_number t q 0) (o.below l.mem) in
      le_antisymm (l'.near (node_number t q 0) (o.own (o.below l.mem))) (l.near _ (o.on l.mem l'.mem))

  pub back : {w z : ℕ} {S : ℕ → Bool} {t' : List ℕ}
      → ((r : ℕ) → r < n → r ≢ u → r ≢ w → S r ≡ true → R u r) → ((r : ℕ) → R u r → r ≢ u → (r < n) × (r ≢ w) × (S r ≡ true))
      → Back n u w z S t t' → Table n R t'
  back f g (joined r hr y x i) = placed k (f r hr y.not_u y.not_w y.alike) y.not_u a y.leads x
  back f g (alone no_one e o) =
      subst (λ v. Table n R v) (sym e)
      (same (λ p q x. x.0) (λ p q x. (x, (λ i. no_other q (subst (λ v. R v q) i x) (ℕ_discrete q u)), (λ i. no_other p (k.back (subst (λ v. R p v) i x)) (ℕ_discrete p u)))) a)
    where
      no_other : (q : ℕ) → R u q → Dec (q ≡ u) → q ≡ u
      no_other q x (yes i) = i
      no_other q x (no ne) =
          let hq = k.below x in
          let l = (a.least q hq).mem in
          let y : R u (node_number t q 0) = k.on x l.0 in
          let nl : node_number t q 0 ≢ u = λ i. ne (l.2 i) in
          absurd (no_one (node_number t q 0) (g _ y nl).0 (record { not_u = nl; not_w = (g _ y nl).1; leads = leader q hq; alike = (g _ y nl).2 }))

-- two relations that agree at the nodes other than u and v, on a table of the first
pub record Shift (n u v : ℕ) (sim sim' : ℕ → ℕ → Bool) (t : List ℕ) : Type 0 where
  pub small : n ≤ max_nodes
  pub parts : Parts n (Of n sim)
  pub parts' : Parts n (Of n sim')
  pub hu : u < n
  pub hv : v < n
  pub ne : u ≢ v
  pub agree : (p q : ℕ) → p ≢ u → p ≢ v → q ≢ u → q ≢ v → sim p q ≡ sim' p q
  pub size : length t ≡ node_numbers * n
  pub table : Table n (Of n sim) t

shift : {n : ℕ} (sim sim' : ℕ → ℕ → Bool) → Parts n (Of n sim') → {u v : ℕ} → u < n → v < n
    → ((p q : ℕ) → p ≢ u → p ≢ v → q ≢ u → q ≢ v → sim p q ≡ sim' p q)
    → (p q : ℕ) → Of n sim p q → (p ≡ u → q ≡ u) → (q ≡ u → p ≡ u) → (p ≡ v → q ≡ v) → (q ≡ v → p ≡ v) → Of n sim' p q
shift {n} sim sim' k' {u} {v} hu hv agree p q x f g f' g' = go (ℕ_discrete p u) (ℕ_discrete p v)
  where
    both-are : {w : ℕ} → w < n → p ≡ w → q ≡ w → Of n sim' p q
    both-are hw i j = (x.0, x.1, rw (i, j) (k'.own hw).2)

    go : Dec (p ≡ u) → Dec (p ≡ v) → Of n sim' p q
    go (yes i) d = both-are hu i (f i)
    go (no nu) (yes i) = both-are hv i (f' i)
    go (no nu) (no nv) = (x.0, x.1, sym (agree p q nu nv (λ i. nu (g i)) (λ i. nv (g' i))) ∙ x.2)

module _ {n u v : ℕ} {sim sim' : ℕ → ℕ → Bool} {t : List ℕ} (a : Shift n u v sim sim' t) where
  pub sound₀ : Sound n t
  sound₀ = sound a.parts a.table a.small a.size

  module _ {t₁ : List ℕ} (x₁ : Taken n u t t₁) where
    table₁ : Table n (Out u (Of n sim)) t₁
    table₁ = taken a.parts a.hu a.table x₁

    pub sound₁ : Sound n t₁
    sound₁ = sound (out_parts a.parts u) table₁ a.small (x₁.size ∙ a.size)

    module _ {t₂ : List ℕ} (x₂ : Taken n v t₁ t₂) where
      over : (p q : ℕ) → Out v (Out u (Of n sim)) p q → Out u (Out v (Of n sim')) p q
      over p q x = ((shift sim sim' a.parts' a.hu a.hv a.agree p q x.0.0 x.0.1 x.0.2 x.1 x.2, x.1, x.2), x.0.1, x.0.2)

      rev : (p q : ℕ) → Out u (Out v (Of n sim')) p q → Out v (Out u (Of n sim)) p q
      rev p q x = ((shift sim' sim a.parts a.hu a.hv (λ y z i j i' j'. sym (a.agree y z i j i' j')) p q x.0.0 x.1 x.2 x.0.1 x.0.2, x.1, x.2), x.0.1, x.0.2)

      table₂ : Table n (Out u (Out v (Of n sim'))) t₂
      table₂ = same over rev (taken (out_parts a.parts u) a.hv table₁ x₂)

      pub sound₂ : Sound n t₂
      sound₂ = sound (out_parts (out_parts a.parts' v) u) table₂ a.small (x₂.size ∙ x₁.size ∙ a.size)

      module _ {z₃ : ℕ} {t₃ : List ℕ} (x₃ : Back n u v z₃ (sim' u) t₂ t₃) where
        table₃ : Table n (Out v (Of n sim')) t₃
        table₃ =
            back (out_parts a.parts' v) a.hu table₂
            (λ r hr nu nv s. ((a.hu, hr, s), (λ i. absurd (a.ne i)), (λ i. absurd (nv i))))
            (λ r x nu. (x.0.1, (λ i. a.ne (x.2 i)), x.0.2))
            x₃

        pub sound₃ : Sound n t₃
        sound₃ = sound (out_parts a.parts' v) table₃ a.small (back_size x₃ ∙ x₂.size ∙ x₁.size ∙ a.size)

        module _ {z₄ : ℕ} {t₄ : List ℕ} (x₄ : Back n v v z₄ (sim' v) t₃ t₄) where
          pub moved : Table n (Of n sim') t₄
          moved = back a.parts' a.hv table₃ (λ r hr nv nv' s. (a.hv, hr, s)) (λ r x nv. (x.1, nv, x.2)) x₄

          pub moved_size : length t₄ ≡ node_numbers * n
          moved_size = back_size x₄ ∙ back_size x₃ ∙ x₂.size ∙ x₁.size ∙ a.size

          pub moved_rest : (p k : ℕ) → p < n → 3 ≤ k → k < node_numbers → node_number t₄ p k ≡ node_number t p k
          moved_rest p k hp h3 hk = back_rest x₄ p k hp h3 hk ∙ back_rest x₃ p k hp h3 hk ∙ x₂.rest p k hp h3 hk ∙ x₁.rest p k hp h3 hk

          -- as many groups more as nodes left theirs, less those that joined one
          pub counted : {b₁ b₂ z₁ z₂ : ℕ} → b₁ ≡ node_number t u 1 → OthersLeft b₁ u z₁ → b₂ ≡ node_number t₁ v 1 → OthersLeft b₂ v z₂
              → count n (leads_in t₄) + (z₃ + z₄) ≡ count n (leads_in t) + (z₁ + z₂)
          counted e₁ p₁ e₂ p₂ =
              let c₁ = count-taken a.parts a.table a.hu x₁ e₁ p₁ in
              let c₂ = count-taken (out_parts a.parts u) table₁ a.hv x₂ e₂ p₂ in
              let c₃ = back_count (out_parts a.parts' v) table₂ (λ r hr nu nv s. ((a.hu, hr, s), (λ i. absurd (a.ne i)), (λ i. absurd (nv i)))) x₃ in
              let c₄ = back_count a.parts' table₃ (λ r hr nv nv' s. (a.hv, hr, s)) x₄ in
              omega arith

-- the rings stay
pub record RingsKept (t t' : List ℕ) : Type 0 where
  pub rings : (p k : ℕ) → k < 3 → node_number t' p k ≡ node_number t p k
  pub size : length t' ≡ length t

pub rings_table : {n : ℕ} {R : ℕ → ℕ → Type 0} {t t' : List ℕ} → RingsKept t t' → Table n R t → Table n R t'
rings_table {n} {R} x a = record {
  least = λ p hp. near (x.rings p 0 (omega arith)) (a.least p hp);
  next = λ p hp. near (x.rings p 1 (omega arith)) (a.next p hp);
  prev = λ p hp. near (x.rings p 2 (omega arith)) (a.prev p hp);
}
  where
    near : {P : ℕ → Type 0} {δ : ℕ → ℕ} {v v' : ℕ} → v' ≡ v → Best P δ v → Best P δ v'
    near {P} {δ} e b = subst (λ z. Best P δ z) (sym e) b

-- u is taken out of the groups of sim and put into those of sim', which differ at u alone
pub record Move (n u : ℕ) (sim sim' : ℕ → ℕ → Bool) (t : List ℕ) : Type 0 where
  pub small : n ≤ max_nodes
  pub parts : Parts n (Of n sim)
  pub parts' : Parts n (Of n sim')
  pub hu : u < n
  pub agree : (p q : ℕ) → p ≢ u → q ≢ u → sim p q ≡ sim' p q
  pub size : length t ≡ node_numbers * n
  pub table : Table n (Of n sim) t

module _ {n u : ℕ} {sim sim' : ℕ → ℕ → Bool} {t : List ℕ} (a : Move n u sim sim' t) where
  pub alone₀ : Sound n t
  alone₀ = sound a.parts a.table a.small a.size

  module _ {t₁ : List ℕ} (x₁ : Taken n u t t₁) where
    out₁ : Table n (Out u (Of n sim)) t₁
    out₁ = taken a.parts a.hu a.table x₁

    module _ {t₂ : List ℕ} (x₂ : RingsKept t₁ t₂) where
      over-u : (p q : ℕ) → Out u (Of n sim) p q → Out u (Of n sim') p q
      over-u p q x = (shift sim sim' a.parts' a.hu a.hu (λ y z i j k l. a.agree y z i k) p q x.0 x.1 x.2 x.1 x.2, x.1, x.2)

      back_u : (p q : ℕ) → Out u (Of n sim') p q → Out u (Of n sim) p q
      back_u p q x = (shift sim' sim a.parts a.hu a.hu (λ y z i j k l. sym (a.agree y z i k)) p q x.0 x.1 x.2 x.1 x.2, x.1, x.2)

      out₂ : Table n (Out u (Of n sim')) t₂
      out₂ = rings_table x₂ (same over-u back_u out₁)

      pub alone₂ : Sound n t₂
      alone₂ = sound (out_parts a.parts' u) out₂ a.small (x₂.size ∙ x₁.size ∙ a.size)

      module _ {z : ℕ} {t₃ : List ℕ} (x₃ : Back n u u z (sim' u) t₂ t₃) where
        pub moved_alone : Table n (Of n sim') t₃
        moved_alone = back a.parts' a.hu out₂ (λ r hr nu nu' s. (a.hu, hr, s)) (λ r x nu. (x.1, nu, x.2)) x₃

        pub alone-size : length t₃ ≡ node_numbers * n
        alone-size = back_size x₃ ∙ x₂.size ∙ x₁.size ∙ a.size

        pub counted_alone : {b r : ℕ} → b ≡ node_number t u 1 → OthersLeft b u r → count n (leads_in t₃) + z ≡ count n (leads_in t) + r
        counted_alone e p =
            let c₁ = count-taken a.parts a.table a.hu x₁ e p in
            let c₂ : count n (leads_in t₂) ≡ count n (leads_in t₁) = count_same n (λ q hq. ap (λ (v : ℕ). eqb v q) (x₂.rings q 0 (omega arith))) in
            let c₃ = back_count a.parts' out₂ (λ r hr nu nu' s. (a.hu, hr, s)) x₃ in
            omega arith
