-- A node taken out of the table, and put in: which groups the table holds then.
use Rattle.std.specs.Prelude.{◌≡◌, refl, ◌≢◌, ◌⊎◌, List, ℕ, ◌*◌, ◌≤◌, ◌<◌, min, length}
use Rattle.std.proofs.Common.{sym, subst, ◌∙◌, inl, inr, ⊎_elim, arith, le_antisymm}
use Rattle.std.proofs.Math.Decide.{ℕ_discrete, dec_lt}
use Rattle.model.specs.Graph.{max_nodes, node_numbers}
use Rattle.model.specs.Tables.{node_number}
use Rattle.rings.specs.Ring.{up, Parts, Best, Out, Table}
use Rattle.rings.specs.RingLaws.{Way, after_in, below', both, followed, inverse, move, out_parts, over, reversed, ring_in, ring_out, round, up_circle, way}
use Rattle.rings.specs.Steps.{Sound, Taken, Before, lower, wrapped, Placed}

module _ {n : ℕ} {R : ℕ → ℕ → Type 0} (k : Parts n R) {t : List ℕ} (a : Table n R t) where
  -- members of one group have one least member
  pub one_least : {p q : ℕ} → R p q → node_number t p 0 ≡ node_number t q 0
  one_least {p} {q} x =
      let lp = a.least p (below' k x) in
      let lq = a.least q (k.below x) in
      le_antisymm (lp.near _ (k.on x lq.mem)) (lq.near _ (k.on (k.back x) lp.mem))

  shares : (p r : ℕ) → p < n → r < n → node_number t r 0 ≡ node_number t p 0 → R p r
  shares p r hp hr e = k.on (subst (λ v. R p v) (sym e) (a.least p hp).mem) (k.back (a.least r hr).mem)

  pub sound : n ≤ max_nodes → length t ≡ node_numbers * n → Sound n t
  sound h l =
      record {
        small = h;
        size = l;
        next = λ p hp. k.below (a.next p hp).mem;
        prev = λ p hp. k.below (a.prev p hp).mem;
        under = λ p hp. (a.least p hp).near p (k.own hp);
        same_least = λ p hp. sym (one_least (a.next p hp).mem);
        skips = λ p r hp hr e i. skip i hr ((a.next p hp).near r (shares p r hp hr e)) (way n p (node_number t p 1)) (way n p r);
        behind = λ p hp. sym (one_least (a.prev p hp).mem);
        last = λ g r hg hr l e.
            let z = shares g r hg hr e in
            let b = a.prev g hg in
            greatest l hr ((a.least g hg).near _ b.mem) ((a.least g hg).near r z) (b.near r z) (way n (node_number t g 2) g) (way n r g);
      }
    where
      greatest : {g l r b : ℕ} → l ≡ g → r < n → l ≤ b → l ≤ r → up n b g ≤ up n r g → Way n b g (up n b g) → Way n r g (up n r g) → r ≤ b
      greatest e hr hb lr h (round i d) (round j f) = omega arith
      greatest e hr hb lr h (over i d) w = absurd (omega arith)
      greatest e hr hb lr h (round i d) (over j f) = absurd (omega arith)

      skip : {p r b : ℕ} → p < r → r < n → up n p b ≤ up n p r → Way n p b (up n p b) → Way n p r (up n p r) → (p < b) × (b ≤ r)
      skip i hr h (over j e) (over j' e') = (omega arith, omega arith)
      skip i hr h (round j e) (over j' e') = absurd (omega arith)
      skip i hr h w (round j' e') = absurd (omega arith)

module _ {n : ℕ} {R : ℕ → ℕ → Type 0} (k : Parts n R) {u : ℕ} (hu : u < n) {t t' : List ℕ} where
  -- taken out of the table of R, u is alone
  pub taken : Table n R t → Taken n u t t' → Table n (Out u R) t'
  taken a x =
      record {
        least = λ p hp. least p hp (ℕ_discrete p u) (ℕ_discrete (node_number t p 0) u);
        next = ring_out k (up_circle n) a.next a.prev hu x.next_u x.next_hit x.next_off;
        prev = ring_out k (reversed (up_circle n)) a.prev a.next hu x.prev_u x.prev_hit x.prev_off;
      }
    where
      within : {b r : ℕ} → Way n u b (up n u b) → Way n u r (up n u r) → u < b → u < r → up n u b ≤ up n u r → b ≤ r
      within (over i e) (over j f) hb hr h = omega arith
      within (over i e) (round j f) hb hr h = omega arith
      within (round i e) v hb hr h = omega arith

      least : (p : ℕ) → p < n → Dec (p ≡ u) → Dec (node_number t p 0 ≡ u) → Best (Out u R p) (λ q. q) (node_number t' p 0)
      least p hp (yes e) d =
          move (Out u R) (λ p q. q) (λ p. node_number t' p 0) e x.least_u
          (record { mem = (k.own hu, (λ f. f), (λ f. f)); near = λ r y. omega (arith, y.1 refl) })
      least p hp (no ne) (yes e) =
          let lp = a.least p hp in
          let xpu : R p u = subst (λ v. R p v) e lp.mem in
          let nb = followed k (up_circle n) a.next (k.back xpu) ne in
          let bu = a.next u hu in
          let lu = a.least u hu in
          let eu : node_number t u 0 ≡ u = le_antisymm (lu.near u (k.own hu)) (subst (λ v. v ≤ node_number t u 0) e (lp.near _ (k.on xpu lu.mem))) in
          let xpb : R p (node_number t u 1) = k.on xpu bu.mem in
          move (Out u R) (λ p q. q) (λ p. node_number t' p 0) refl (x.least_hit p hp ne eu e)
          (record {
            mem = both R ne nb xpb;
            near = λ r y.
                let nr : r ≢ u = λ f. ne (y.2 f) in
                let lr : node_number t p 0 ≤ r = lp.near r y.0 in
                let lb : node_number t p 0 ≤ node_number t u 1 = lp.near (node_number t u 1) xpb in
                within (way n u (node_number t u 1)) (way n u r) (omega arith) (omega arith) (bu.near r (k.on (k.back xpu) y.0));
          })
      least p hp (no ne) (no nl) =
          move (Out u R) (λ p q. q) (λ p. node_number t' p 0) refl (x.least_off p hp ne nl)
          (record { mem = both R ne nl (a.least p hp).mem; near = λ r y. (a.least p hp).near r y.0 })

pub min_is : (x y : ℕ) {h : ℕ} → h ≡ min x y → (h ≡ y) ⊎ (h ≡ x)
min_is x y {h} e = step (dec_lt x y)
  where
    step : Dec (x < y) → (h ≡ y) ⊎ (h ≡ x)
    step (yes i) = inr (omega arith)
    step (no i) = inl (omega arith)

module _ {n : ℕ} {R : ℕ → ℕ → Type 0} (k : Parts n R) {u g : ℕ} (x : R u g) (ng : g ≢ u) {t : List ℕ} (a : Table n (Out u R) t) (lg : node_number t g 0 ≡ g) where
  hu : u < n
  hu = below' k x

  hg : g < n
  hg = k.below x

  -- the other members of u's group are those whose least member is g
  same_least : (p : ℕ) → p ≢ u → R u p → node_number t p 0 ≡ g
  same_least p ne y =
      let hp : p < n = k.below y in
      let z : R p g = k.on (k.back y) x in
      let lp = a.least p hp in
      let low : node_number t p 0 ≤ g = lp.near g (both R ne ng z) in
      let b = (out_parts k u).on (both R ng ne (k.back z)) lp.mem in
      let high : node_number t g 0 ≤ node_number t p 0 = (a.least g hg).near (node_number t p 0) b in
      omega arith

  joins : (p : ℕ) → p < n → node_number t p 0 ≡ g → R u p
  joins p hp e = k.on x (k.back (subst (λ v. R p v) e (a.least p hp).mem.0))

  pub before : {b : ℕ} → Before u g b t → Best (λ r. R u r × r ≢ u) (λ r. up n r u) b
  before {b} (lower h e f) =
      record {
        mem = (joins b (omega (arith, hu)) e, (λ i. omega arith));
        near = λ r y. go r (k.below y.0) y.1 (λ i j. f r i j (same_least r y.1 y.0)) (dec_lt b r) (way n b u) (way n r u);
      }
    where
      go : (r : ℕ) → r < n → r ≢ u → (b < r → r < u → ⊥) → Dec (b < r) → Way n b u (up n b u) → Way n r u (up n r u) → up n b u ≤ up n r u
      go r hr nr none (yes d) (over i e') (over j f') = absurd (none d j)
      go r hr nr none (no d) (over i e') (over j f') = omega arith
      go r hr nr none d (over i e') (round j f') = omega (arith, hu)
      go r hr nr none d (round i e') w = omega arith
  before {b} (wrapped e f) =
      let bg : Best (Out u R g) (λ r. up n r g) b = subst (λ v. Best (Out u R g) (λ r. up n r g) v) (sym e) (a.prev g hg) in
      let nb : b ≢ u = λ i. ng (bg.mem.2 i) in
      let xb : R u b = k.on x bg.mem.0 in
      record {
        mem = (xb, nb);
        near = λ r y.
            let z : Out u R g r = both R ng y.1 (k.on (k.back x) y.0) in
            go r (k.below y.0) (above r y.0 y.1) (above b xb nb) ((a.least g hg).near r z) ((a.least g hg).near b bg.mem) (bg.near r z)
            (way n b g) (way n r g) (way n b u) (way n r u);
      }
    where
      le_of_not_lt : (r : ℕ) → ¬ (r < u) → u ≤ r
      le_of_not_lt r i = omega arith

      above : (r : ℕ) → R u r → r ≢ u → u ≤ r
      above r y ne = le_of_not_lt r (λ i. f r i (same_least r ne y))

      go : (r : ℕ) → r < n → u ≤ r → u ≤ b → node_number t g 0 ≤ r → node_number t g 0 ≤ b → up n b g ≤ up n r g
          → Way n b g (up n b g) → Way n r g (up n r g) → Way n b u (up n b u) → Way n r u (up n r u) → up n b u ≤ up n r u
      go r hr ur ub gr gb h (round i₁ e₁) (round i₂ e₂) (round i₃ e₃) (round i₄ e₄) = omega (arith, lg)
      go r hr ur ub gr gb h (over i₁ e₁) w₂ w₃ w₄ = omega (arith, lg)
      go r hr ur ub gr gb h (round i₁ e₁) (over i₂ e₂) w₃ w₄ = omega (arith, lg)
      go r hr ur ub gr gb h (round i₁ e₁) (round i₂ e₂) (over i₃ e₃) w₄ = omega (arith, lg)
      go r hr ur ub gr gb h (round i₁ e₁) (round i₂ e₂) (round i₃ e₃) (over i₄ e₄) = omega (arith, lg)

  -- put in, u has the group that R gives it
  pub placed : {t' : List ℕ} → Placed n u g t t' → Table n R t'
  placed {t'} z =
      let o = up_circle n in
      let y = z.put in
      let la = before z.place in
      let lb = after_in k o hu la a.next in
      record {
        least = λ p hp. least p hp (ℕ_discrete p u) (ℕ_discrete (node_number t p 0) g);
        next = ring_in k o hu la a.next y.next_u (y.next_hit la.mem.1) y.next_off;
        prev = ring_in k (reversed o) hu lb a.prev (y.prev_u lb.mem.1 ∙ sym (inverse (out_parts k u) (reversed o) a.prev a.next (k.below la.mem.0))) y.prev_hit y.prev_off;
      }
    where
      low : (r : ℕ) → R u r → Dec (r ≡ u) → z.h ≤ r
      low r w (yes e) = omega arith
      low r w (no ne) = omega (arith, (a.least g hg).near r (both R ng ne (k.on (k.back x) w)))

      least-of : (p : ℕ) → R u p → Best (R p) (λ q. q) z.h
      least-of p v =
          record {
            mem = ⊎_elim (λ e. subst (λ i. R p i) (sym e) (k.on (k.back v) x)) (λ e. subst (λ i. R p i) (sym e) (k.back v)) (min_is u g z.lesser);
            near = λ r w. low r (k.on v w) (ℕ_discrete r u);
          }

      least : (p : ℕ) → p < n → Dec (p ≡ u) → Dec (node_number t p 0 ≡ g) → Best (R p) (λ q. q) (node_number t' p 0)
      least p hp (yes e) d = move R (λ p q. q) (λ p. node_number t' p 0) e z.put.least_u (least-of u (k.own hu))
      least p hp (no ne) (yes e) = move R (λ p q. q) (λ p. node_number t' p 0) refl (z.put.least_hit p hp ne e) (least-of p (joins p hp e))
      least p hp (no ne) (no ne') =
          move R (λ p q. q) (λ p. node_number t' p 0) refl (z.put.least_off p hp ne ne')
          (record {
            mem = (a.least p hp).mem.0;
            near = λ r w. (a.least p hp).near r (both R ne (λ e. ne' (same_least p ne (k.back (subst (λ v. R p v) e w)))) w);
          })
