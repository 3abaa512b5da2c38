-- Laws of the rings of groups: next and previous are inverse, and how a ring changes where one number leaves it or joins it.
use Rattle.std.specs.Prelude.{◌≡◌, refl, ◌≢◌, ◌⊎◌, Bool, true, false, cond, ℕ, ◌+◌, ◌-◌, ◌≤◌, ◌<◌, ltb}
use Rattle.std.proofs.Common.{sym, subst, ◌∙◌, ap, inl, inr, ⊎_elim, arith, ltb-true, ltb-false}
use Rattle.std.proofs.Math.Decide.{ℕ_discrete}
use Rattle.rings.specs.Ring.{up, Parts, Best, Out, Ring}

-- what both ways round the circle share: one way's steps from p to q and on from q to r are those from p to r, or a whole turn more
pub record Circle (n : ℕ) (δ : ℕ → ℕ → ℕ) : Type 0 where
  pub pos : {p q : ℕ} → p < n → q < n → 0 < δ p q
  pub cap : {p q : ℕ} → p < n → q < n → δ p q ≤ n
  pub self : {p : ℕ} → p < n → δ p p ≡ n
  pub full : {p q : ℕ} → p < n → q < n → δ p q ≡ n → p ≡ q
  pub turn : {p q r : ℕ} → p < n → q < n → r < n → (δ p r ≡ δ p q + δ q r) ⊎ (δ p r + n ≡ δ p q + δ q r)

pub data Way (n p q d : ℕ) : Type 0 where
  over : p < q → d ≡ q - p → Way n p q d
  round : q ≤ p → d ≡ q + n - p → Way n p q d

pub way : (n p q : ℕ) → Way n p q (up n p q)
unfolding up
way n p q = go (ltb p q) refl
  where
    go : (b : Bool) → ltb p q ≡ b → Way n p q (cond (ltb p q) (q - p) (q + n - p))
    go true e = over (ltb-true p q e) (ap (λ (b : Bool). cond b (q - p) (q + n - p)) e)
    go false e = round (ltb-false p q e) (ap (λ (b : Bool). cond b (q - p) (q + n - p)) e)

module _ {n p q : ℕ} where
  way-pos : {d : ℕ} → Way n p q d → p < n → q < n → (0 < d) × (d ≤ n) × (d ≡ n → p ≡ q) × (p ≡ q → d ≡ n)
  way-pos (over h e) hp hq = (omega arith, omega arith, (λ f. omega arith), (λ f. omega arith))
  way-pos (round h e) hp hq = (omega arith, omega arith, (λ f. omega arith), (λ f. omega arith))

  way-turn : {r a b c : ℕ} → Way n p r c → Way n p q a → Way n q r b → p < n → q < n → r < n → (c ≡ a + b) ⊎ (c + n ≡ a + b)
  way-turn (over h e) (over h' e') (over h'' e'') hp hq hr = inl (omega arith)
  way-turn (over h e) (over h' e') (round h'' e'') hp hq hr = inr (omega arith)
  way-turn (over h e) (round h' e') (over h'' e'') hp hq hr = inr (omega arith)
  way-turn (over h e) (round h' e') (round h'' e'') hp hq hr = inl (omega arith)
  way-turn (round h e) (over h' e') (over h'' e'') hp hq hr = inl (omega arith)
  way-turn (round h e) (over h' e') (round h'' e'') hp hq hr = inl (omega arith)
  way-turn (round h e) (round h' e') (over h'' e'') hp hq hr = inl (omega arith)
  way-turn (round h e) (round h' e') (round h'' e'') hp hq hr = inr (omega arith)

pub up_circle : (n : ℕ) → Circle n (up n)
up_circle n =
    record {
      pos = λ {p} {q} hp hq. (way-pos (way n p q) hp hq).0;
      cap = λ {p} {q} hp hq. (way-pos (way n p q) hp hq).1;
      self = λ {p} hp. (way-pos (way n p p) hp hp).3 refl;
      full = λ {p} {q} hp hq. (way-pos (way n p q) hp hq).2;
      turn = λ {p} {q} {r} hp hq hr. way-turn (way n p r) (way n p q) (way n q r) hp hq hr;
    }

pub reversed : {n : ℕ} {δ : ℕ → ℕ → ℕ} → Circle n δ → Circle n (λ p q. δ q p)
reversed o =
    record {
      pos = λ hp hq. o.pos hq hp;
      cap = λ hp hq. o.cap hq hp;
      self = λ hp. o.self hp;
      full = λ hp hq e. sym (o.full hq hp e);
      turn = λ hp hq hr. ⊎_elim (λ e. inl (omega arith)) (λ e. inr (omega arith)) (o.turn hr hq hp);
    }

module _ {n : ℕ} {R : ℕ → ℕ → Type 0} (k : Parts n R) where
  pub below' : {p q : ℕ} → R p q → p < n
  below' x = k.below (k.back x)

  pub out_parts : (u : ℕ) → Parts n (Out u R)
  out_parts u =
      record {
        below = λ x. k.below x.0;
        own = λ h. (k.own h, (λ e. e), (λ e. e));
        back = λ x. (k.back x.0, x.2, x.1);
        on = λ x y. (k.on x.0 y.0, (λ e. y.1 (x.1 e)), (λ e. x.2 (y.2 e)));
      }

-- one of the same class that is not u, of one that is not u
pub both : (R : ℕ → ℕ → Type 0) {u p q : ℕ} → p ≢ u → q ≢ u → R p q → Out u R p q
both R f g x = (x, (λ e. absurd (f e)), (λ e. absurd (g e)))

pub move : (R : ℕ → ℕ → Type 0) (δ : ℕ → ℕ → ℕ) (N : ℕ → ℕ) {p q v : ℕ} → p ≡ q → N q ≡ v → Best (R q) (δ q) v → Best (R p) (δ p) (N p)
move R δ N {p} {q} e f b = subst (λ x. Best (R x) (δ x) (N x)) (sym e) (subst (λ v. Best (R q) (δ q) v) (sym f) b)

module _ {n : ℕ} {R : ℕ → ℕ → Type 0} (k : Parts n R) {δ : ℕ → ℕ → ℕ} (o : Circle n δ) where
  -- the one after the one before u is u
  pub inverse : {N P : ℕ → ℕ} → Ring n R δ N → Ring n R (λ p q. δ q p) P → {u : ℕ} → u < n → N (P u) ≡ u
  inverse {N} {P} h_n h_p {u} hu =
      let bu = h_p u hu in
      let ha : P u < n = k.below bu.mem in
      let ba = h_n (P u) ha in
      let hq : N (P u) < n = k.below ba.mem in
      let near = ba.near u (k.back bu.mem) in
      let near' = bu.near (N (P u)) (k.on bu.mem ba.mem) in
      ⊎_elim
      (λ e. omega (arith, o.pos ha hq))
      (λ e. o.full hq hu (omega (arith, o.cap hq hu)))
      (o.turn ha hq hu)

  -- who is not alone is not followed by itself
  pub followed : {N : ℕ → ℕ} → Ring n R δ N → {u p : ℕ} → R u p → p ≢ u → N u ≢ u
  followed {N} h_n {u} {p} x ne e =
      let hu : u < n = below' k x in
      let hp : p < n = k.below x in
      let near : δ u u ≤ δ u p = subst (λ v. δ u v ≤ δ u p) e ((h_n u hu).near p x) in
      ne (sym (o.full hu hp (omega (arith, o.cap hu hp, o.self hu))))

module _ {n : ℕ} {R : ℕ → ℕ → Type 0} (k : Parts n R) {δ : ℕ → ℕ → ℕ} (o : Circle n δ) where
  -- a ring without u
  pub ring_out : {N P N' : ℕ → ℕ} → Ring n R δ N → Ring n R (λ p q. δ q p) P → {u : ℕ} → u < n
      → N' u ≡ u → ((p : ℕ) → p < n → p ≢ u → p ≡ P u → N' p ≡ N u) → ((p : ℕ) → p < n → p ≢ u → p ≢ P u → N' p ≡ N p)
      → Ring n (Out u R) δ N'
  ring_out {N} {P} {N'} h_n h_p {u} hu at-u at_a off p hp = go (ℕ_discrete p u) (ℕ_discrete p (P u))
    where
      -- p, followed by u, is now followed by the one after u
      skip : p ≢ u → N p ≡ u → Best (Out u R p) (δ p) (N u)
      skip ne e =
          let bu = h_n u hu in
          let xpu : R p u = subst (λ v. R p v) e (h_n p hp).mem in
          let hb : N u < n = k.below bu.mem in
          record {
            mem = both R ne (followed k o h_n (k.back xpu) ne) (k.on xpu bu.mem);
            near = λ r x.
                let hr : r < n = k.below x.0 in
                let nr : r ≢ u = λ f. ne (x.2 f) in
                let nf : δ u r ≢ n = λ f. nr (sym (o.full hu hr f)) in
                let far : δ p u ≤ δ p r = subst (λ v. δ p v ≤ δ p r) e ((h_n p hp).near r x.0) in
                let far' : δ u (N u) ≤ δ u r = bu.near r (k.on (k.back xpu) x.0) in
                ⊎_elim
                (λ s. ⊎_elim (λ t. omega arith) (λ t. omega (arith, o.cap hu hr)) (o.turn hp hu hb))
                (λ s. omega (arith, o.cap hu hr))
                (o.turn hp hu hr);
          }

      go : Dec (p ≡ u) → Dec (p ≡ P u) → Best (Out u R p) (δ p) (N' p)
      go (yes e) d =
          move (Out u R) δ N' e at-u
          (record {
            mem = (k.own hu, (λ f. f), (λ f. f));
            near = λ r x. subst (λ v. δ u u ≤ δ u v) (sym (x.1 refl)) (omega arith);
          })
      go (no ne) (yes e) = move (Out u R) δ N' refl (at_a p hp ne e) (skip ne (ap N e ∙ inverse k o h_n h_p hu))
      go (no ne) (no nea) =
          move (Out u R) δ N' refl (off p hp ne nea)
          (record {
            mem = both R ne (λ e. nea (sym (inverse k (reversed o) h_p h_n hp) ∙ ap P e)) (h_n p hp).mem;
            near = λ r x. (h_n p hp).near r x.0;
          })

  -- a ring with u put in after a, the last of its new group before u
  module _ {u a : ℕ} (hu : u < n) (la : Best (λ r. R u r × r ≢ u) (λ r. δ r u) a) where
    ha : a < n
    ha = k.below la.mem.0

    -- from a, u comes before each other member
    first : (r : ℕ) → R u r → r ≢ u → δ a u < δ a r
    first r x ne =
        let hr : r < n = k.below x in
        let nf : δ r u ≢ n = λ f. ne (o.full hr hu f) in
        let near : δ a u ≤ δ r u = la.near r (x, ne) in
        ⊎_elim (λ e. omega (arith, o.pos ha hr)) (λ e. omega (arith, o.cap hr hu)) (o.turn ha hr hu)

    -- u is followed by the one that followed a
    next-in : {N : ℕ → ℕ} → Ring n (Out u R) δ N → Best (R u) (δ u) (N a)
    next-in {N} h_n =
        let ba = h_n a ha in
        let nb : N a ≢ u = λ e. la.mem.1 (ba.mem.2 e) in
        let xb : R u (N a) = k.on la.mem.0 ba.mem.0 in
        let hb : N a < n = k.below xb in
        record {
          mem = xb;
          near = λ r x. near nb xb hb r x (ℕ_discrete r u);
        }
      where
        near : N a ≢ u → R u (N a) → N a < n → (r : ℕ) → R u r → Dec (r ≡ u) → δ u (N a) ≤ δ u r
        near nb xb hb r x (yes e) = subst (λ v. δ u (N a) ≤ δ u v) (sym e) (omega (arith, o.self hu, o.cap hu hb))
        near nb xb hb r x (no ne) =
            let hr : r < n = k.below x in
            let f = first r x ne in
            let f' = first (N a) xb nb in
            let le : δ a (N a) ≤ δ a r = (h_n a ha).near r (both R la.mem.1 ne (k.on (k.back la.mem.0) x)) in
            ⊎_elim
            (λ s. ⊎_elim (λ t. omega arith) (λ t. omega (arith, o.cap hu hb)) (o.turn ha hu hb))
            (λ s. omega (arith, o.cap hu hr))
            (o.turn ha hu hr)

    pub after_in : {N : ℕ → ℕ} → Ring n (Out u R) δ N → Best (λ r. R u r × r ≢ u) (δ u) (N a)
    after_in h_n =
        record {
          mem = ((next-in h_n).mem, (λ e. la.mem.1 ((h_n a ha).mem.2 e)));
          near = λ r x. (next-in h_n).near r x.0;
        }

    pub ring_in : {N N' : ℕ → ℕ} → Ring n (Out u R) δ N
        → N' u ≡ N a → N' a ≡ u → ((p : ℕ) → p < n → p ≢ u → p ≢ a → N' p ≡ N p)
        → Ring n R δ N'
    ring_in {N} {N'} h_n at-u at_a off p hp = go (ℕ_discrete p u) (ℕ_discrete p a)
      where
        near-a : (r : ℕ) → R a r → Dec (r ≡ u) → δ a u ≤ δ a r
        near-a r x (yes e) = subst (λ v. δ a u ≤ δ a v) (sym e) (omega arith)
        near-a r x (no ne) = omega (arith, first r (k.on la.mem.0 x) ne)

        near_p : p ≢ u → p ≢ a → (r : ℕ) → R p r → Dec (r ≡ u) → δ p (N p) ≤ δ p r
        near_p ne nea r x (no nr) = (h_n p hp).near r (both R ne nr x)
        near_p ne nea r x (yes e) =
            let xu : R p u = subst (λ v. R p v) e x in
            let le : δ p (N p) ≤ δ p a = (h_n p hp).near a (both R ne la.mem.1 (k.on xu la.mem.0)) in
            let le' : δ a u ≤ δ p u = la.near p (k.back xu, ne) in
            let nf : δ p a ≢ n = λ f. nea (o.full hp ha f) in
            subst (λ v. δ p (N p) ≤ δ p v) (sym e)
            (⊎_elim (λ s. omega arith) (λ s. omega (arith, o.cap hp ha)) (o.turn hp ha hu))

        go : Dec (p ≡ u) → Dec (p ≡ a) → Best (R p) (δ p) (N' p)
        go (yes e) d = move R δ N' e at-u (next-in h_n)
        go (no ne) (yes e) = move R δ N' e at_a (record { mem = k.back la.mem.0; near = λ r x. near-a r x (ℕ_discrete r u) })
        go (no ne) (no nea) =
            move R δ N' refl (off p hp ne nea)
            (record { mem = (h_n p hp).mem.0; near = λ r x. near_p ne nea r x (ℕ_discrete r u) })
