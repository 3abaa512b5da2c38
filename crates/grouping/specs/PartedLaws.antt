-- A group is apart from those before it exactly if its row agrees with none in the chains that it is sought in.
use Rattle.std.specs.Prelude.{◌≡◌, ℕ, ◌+◌, ◌<◌, ◌≤◌, Bool, true, false, not, ◌&&◌, ◌⊎◌, List, ◌==◌, ◌≢◌, nat_eq, slice_index, Option, None, Some, is_some}
use Rattle.std.proofs.Math.Path.{refl, sym, ap}
use Rattle.std.proofs.Common.{◌∙◌}
use Rattle.std.proofs.Math.Logic.{inl, inr}
use borrow.Author.Tests.{eq-eqb, ne_eqb, not-false, not-true}
use Rattle.model.specs.Lists.{nodes}
use Rattle.model.proofs.TestLaws.{and_fst, and_snd, and_true, decide, differ, or_cases, or_left, or_right}
use Rattle.model.proofs.ListLaws.{all_intro, nodes_out}
use Rattle.buffers.specs.AllLaws.{all_fail, all_pass_lem, failed}
use Rattle.rows.specs.Rows.{leads}
use Rattle.compressed.specs.Compressed.{alike, apart, merges}
use Rattle.grouping.specs.declared.Leaders.{Leaders}
use Rattle.grouping.specs.Chains.{Chains, Links, Met, SlotsTell, class_alike}
use Rattle.grouping.specs.ChainLaws.{chains_keep, chains_none, links_keep}
use Rattle.grouping.specs.Parted.{New, Parted, apart_at, candidate, chained}

-- one node sought in a chain
pub new_hit : {twin : ℕ → Bool} {a : Bool} {u s : ℕ} {t : Leaders} → not a ≡ false → (x : Option ℕ) → ((slot : ℕ → ℕ) (leads : ℕ → Bool) → slot u ≡ s → Chains slot leads u t → Met slot leads twin u x) → is_some x ≡ true → New twin a u s t t false
new_hit y None m e = differ e refl
new_hit {a = a} y (Some q) m e = record {
  hit = λ f. (not-false a y, λ slot leads es k. let h = (m slot leads es k).hit q refl in (q, h.0, h.1, h.2));
  miss = λ e. differ e refl;
  links = λ e. differ e refl;
  chains = λ e. differ e refl;
}

-- who could be one with u's group
module _ (kinds classes joined : List ℕ) (u q : ℕ) where
  abbrev same_class : Bool
  same_class = slice_index classes u == slice_index classes q

  -- by open rows, or by closed ones
  abbrev by_open : Bool
  by_open = not (slice_index kinds u == 2) && (not (slice_index kinds q == 2) && alike joined false u q)

  abbrev by_closed : Bool
  by_closed = not (slice_index kinds u == 1) && (not (slice_index kinds q == 1) && alike joined true u q)

  merges-by : (closed : Bool) → candidate kinds closed u ≡ true → candidate kinds closed q ≡ true → class_alike joined classes closed u q ≡ true → merges kinds classes joined u q ≡ true
  unfolding merges candidate class_alike
  merges-by true a b h = and_true (and_fst same_class (alike joined true u q) h) (or_right by_open (and_true a (and_true b (and_snd same_class (alike joined true u q) h))))
  merges-by false a b h = and_true (and_fst same_class (alike joined false u q) h) (or_left by_closed (and_true a (and_true b (and_snd same_class (alike joined false u q) h))))

  abbrev Merging : Bool → Type 0
  Merging closed = (candidate kinds closed u ≡ true) × (candidate kinds closed q ≡ true) × (class_alike joined classes closed u q ≡ true)

  three : (a b c : Bool) → (a && (b && c)) ≡ true → (a ≡ true) × (b ≡ true) × (c ≡ true)
  three a b c h = let k = and_snd a (b && c) h in (and_fst a (b && c) h, and_fst b c k, and_snd b c k)

  merges-cases : merges kinds classes joined u q ≡ true → Merging false ⊎ Merging true
  unfolding merges candidate class_alike
  merges-cases h = step (and_fst same_class _ h) (or_cases by_open by_closed (and_snd same_class _ h))
    where
      step : nat_eq (slice_index classes u) (slice_index classes q) ≡ true → (by_open ≡ true) ⊎ (by_closed ≡ true) → Merging false ⊎ Merging true
      step e (inl k) = let t = three (not (slice_index kinds u == 2)) (not (slice_index kinds q == 2)) (alike joined false u q) k in inl (t.0, t.1, and_true e t.2)
      step e (inr k) = let t = three (not (slice_index kinds u == 1)) (not (slice_index kinds q == 1)) (alike joined true u q) k in inr (t.0, t.1, and_true e t.2)

-- u leads no group
module _ {slot : Bool → ℕ → ℕ} {least kinds : List ℕ} {u : ℕ} where
  pub parted_member : {x : ℕ} {opens closeds : Leaders} → x ≡ slice_index least u → (x ≢ u) → Parted slot least kinds u opens closeds → Parted slot least kinds (u + 1) opens closeds
  parted_member e d h = record {
    open_links = links_keep h.open_links;
    closed_links = links_keep h.closed_links;
    open_chains = chains_keep h.open_chains (out false);
    closed_chains = chains_keep h.closed_chains (out true);
  }
    where
      out : (closed : Bool) → chained least kinds closed u ≡ false
      out closed = unfold chained leads in rw (ne_eqb (slice_index least u) u (λ z. d (e ∙ z)))

module _ (least kinds classes joined : List ℕ) (u : ℕ) where
  pub apart-member : {x : ℕ} → x ≡ slice_index least u → (x ≢ u) → true ≡ apart_at least kinds classes joined u
  unfolding apart_at leads
  apart-member e d = rw (ne_eqb (slice_index least u) u (λ z. d (e ∙ z)))

  -- u leads one
  module _ (slot : Bool → ℕ → ℕ) {x : ℕ} (ex : x ≡ slice_index least u) (led : x ≡ u) where
    leading : leads least u ≡ true
    unfolding leads
    leading = eq-eqb (slice_index least u) u (sym ex ∙ led)

    chained-is : (closed : Bool) → chained least kinds closed u ≡ candidate kinds closed u
    unfolding chained
    chained-is closed = rw leading

    -- a leader before u that could be one with it
    found : (q : ℕ) → q < u → leads least q ≡ true → merges kinds classes joined u q ≡ true → apart_at least kinds classes joined u ≡ false
    unfolding apart_at
    found q l a m = rw leading (sym (all_fail (λ (p : ℕ). not (leads least p && merges kinds classes joined u p)) u q l (ap not (and_true a m))))

    -- the chains of open or of closed rows
    module _ (closed : Bool) {t after : Leaders} {s : ℕ} {a r : Bool} (k : Chains (slot closed) (chained least kinds closed) u t) (es : s ≡ slot closed u) (ea : candidate kinds closed u ≡ a) (w : New (class_alike joined classes closed u) a u s t after r) where
      hit-apart : r ≡ false → apart_at least kinds classes joined u ≡ false
      hit-apart f =
          let i = w.hit f in
          let h = i.1 (slot closed) (chained least kinds closed) (sym es) k in
          let c = both h.0 h.2 in
          found h.0 h.1 c.0 (merges-by kinds classes joined u h.0 closed (ea ∙ i.0) c.1 h.3)
        where
          both : (q : ℕ) → chained least kinds closed q ≡ true → (leads least q ≡ true) × (candidate kinds closed q ≡ true)
          both q c = unfold chained in (and_fst (leads least q) (candidate kinds closed q) c, and_snd (leads least q) (candidate kinds closed q) c)

      miss-apart : SlotsTell joined classes slot u → r ≡ true → (q : ℕ) → q < u → leads least q ≡ true → candidate kinds closed u ≡ true → candidate kinds closed q ≡ true → class_alike joined classes closed u q ≡ false
      miss-apart told e q l h cu cq = step (decide (class_alike joined classes closed u q))
        where
          step : (class_alike joined classes closed u q ≡ true) ⊎ (class_alike joined classes closed u q ≡ false) → class_alike joined classes closed u q ≡ false
          step (inl y) = w.miss e (sym ea ∙ cu) (slot closed) (chained least kinds closed) (sym es) k q l (unfold chained in and_true h cq) (told.same closed q l y)
          step (inr y) = y

      next : ((q : ℕ) → slot closed q < 1024) → r ≡ true → Chains (slot closed) (chained least kinds closed) (u + 1) after
      next small e = w.chains e (slot closed) (chained least kinds closed) small (sym es) (chained-is closed ∙ ea) k

    open-candidate : candidate kinds false u ≡ not (slice_index kinds u == 2)
    unfolding candidate
    open-candidate = refl

    closed-candidate : candidate kinds true u ≡ not (slice_index kinds u == 1)
    unfolding candidate
    closed-candidate = refl

    module _ {opens closeds opens₁ : Leaders} {s : ℕ} {r : Bool} (h : Parted slot least kinds u opens closeds) (es : s ≡ slot false u) (w : New (class_alike joined classes false u) (not (slice_index kinds u == 2)) u s opens opens₁ r) where
      pub apart_refuted : not r ≡ true → false ≡ apart_at least kinds classes joined u
      apart_refuted n = sym (hit-apart false h.open_chains es open-candidate w (not-true r n))

      module _ (n : not r ≡ false) {closeds₁ : Leaders} {s' : ℕ} {r' : Bool} (es' : s' ≡ slot true u) (w' : New (class_alike joined classes true u) (not (slice_index kinds u == 1)) u s' closeds closeds₁ r') where
        pub apart-told : SlotsTell joined classes slot u → r' ≡ apart_at least kinds classes joined u
        apart-told told = step (decide r')
          where
            each : r' ≡ true → (q : ℕ) → q < u → leads least q ≡ true → merges kinds classes joined u q ≡ true → merges kinds classes joined u q ≡ false
            each e q l b m = clash (merges-cases kinds classes joined u q m)
              where
                clash : Merging kinds classes joined u q false ⊎ Merging kinds classes joined u q true → merges kinds classes joined u q ≡ false
                clash (inl c) = differ c.2 (miss-apart false h.open_chains es open-candidate w told (not-false r n) q l b c.0 c.1)
                clash (inr c) = differ c.2 (miss-apart true h.closed_chains es' closed-candidate w' told e q l b c.0 c.1)

            none : r' ≡ true → (q : ℕ) → q < u → (leads least q && merges kinds classes joined u q) ≡ false
            none e q l = at (decide (leads least q && merges kinds classes joined u q))
              where
                at : ((leads least q && merges kinds classes joined u q) ≡ true) ⊎ ((leads least q && merges kinds classes joined u q) ≡ false) → (leads least q && merges kinds classes joined u q) ≡ false
                at (inl y) = let m = and_snd (leads least q) (merges kinds classes joined u q) y in differ m (each e q l (and_fst (leads least q) (merges kinds classes joined u q) y) m)
                at (inr y) = y

            step : (r' ≡ true) ⊎ (r' ≡ false) → r' ≡ apart_at least kinds classes joined u
            step (inl e) = e ∙ sym (unfold apart_at in rw leading (all_intro (nodes u) (λ (p : ℕ). not (leads least p && merges kinds classes joined u p)) (λ q m. ap not (none e q (nodes_out u q m)))))
            step (inr e) = e ∙ sym (hit-apart true h.closed_chains es' closed-candidate w' e)

        pub parted_leader : SlotsTell joined classes slot u → r' ≡ true → Parted slot least kinds (u + 1) opens₁ closeds₁
        parted_leader told e = record {
          open_links = w.links (not-false r n);
          closed_links = w'.links e;
          open_chains = next false h.open_chains es open-candidate w (told.small false) (not-false r n);
          closed_chains = next true h.closed_chains es' closed-candidate w' (told.small true) e;
        }

pub parted_none : (slot : Bool → ℕ → ℕ) (least kinds : List ℕ) {opens closeds : Leaders} → Links 0 opens → Links 0 closeds → Parted slot least kinds 0 opens closeds
parted_none slot least kinds x y = record {
  open_links = x;
  closed_links = y;
  open_chains = chains_none (slot false) (chained least kinds false) x;
  closed_chains = chains_none (slot true) (chained least kinds true) y;
}

-- all groups, or up to one that is not apart
module _ (n : ℕ) (least kinds classes joined : List ℕ) where
  pub all_apart : {u : ℕ} → ((q : ℕ) → q < u → apart_at least kinds classes joined q ≡ true) → n ≤ u → true ≡ apart n least kinds classes joined
  unfolding apart apart_at
  all_apart {u} h l = all_pass_lem (apart_at least kinds classes joined) n u l h

  pub one_merges : {u : ℕ} {b : Bool} → u < n → b ≡ apart_at least kinds classes joined u → not b ≡ true → false ≡ apart n least kinds classes joined
  unfolding apart apart_at
  one_merges {u} l e f = all_fail (apart_at least kinds classes joined) n u l (failed e f)
