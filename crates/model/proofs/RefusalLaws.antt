-- What is judged: the first reason that holds decides, and two that are judged alike are related if each case is.
use Rattle.std.specs.Prelude.{◌≡◌, refl, Bool, true, false, [], ◌∷◌, map, ◌⊎◌, ℕ, eqb}
use Rattle.std.proofs.Common.{sym, ap, ◌∙◌, inl, inr, eqb-true, eq-eqb, ne_eqb}
use Rattle.std.proofs.lemmas.Bool.{eqb-false}
use Rattle.model.specs.Lists.{all}
use Rattle.model.specs.Refusals.{Reasons, first_of, judged}
use Rattle.model.proofs.TestLaws.{and_fst, and_snd, decide}

-- reasons that do not hold, where nothing is refused
pub first_none : (t : Bool) (r : ℕ) (ts : Reasons) → eqb r 0 ≡ false → first_of ((t, r) ∷ ts) ≡ 0 → (t ≡ false) × (first_of ts ≡ 0)
unfolding first_of
first_none true r ts z h = absurd (eqb-false r 0 z h)
first_none false r ts z h = (refl, h)

-- the same is given, if the first reason is the same, and the rest where it does not hold
pub first_same : {t s : Bool} (r : ℕ) (ts ss : Reasons) → t ≡ s → (t ≡ false → first_of ts ≡ first_of ss) → first_of ((t, r) ∷ ts) ≡ first_of ((s, r) ∷ ss)
unfolding first_of
first_same {t = true} r ts ss e k = rw (← e)
first_same {t = false} r ts ss e k = rw (← e) (k refl)

-- a test that 0 and the numbers pass is passed by what is given
pub first_passes : (P : ℕ → Bool) (rs : Reasons) → P 0 ≡ true → all (map (λ (r : Bool × ℕ). r.1) rs) P ≡ true → P (first_of rs) ≡ true
unfolding first_of all
first_passes P [] h k = h
first_passes P ((true, r) ∷ ts) h k = and_fst (P r) _ k
first_passes P ((false, r) ∷ ts) h k = first_passes P ts h (and_snd (P r) _ k)

module _ {A : Type 0} (rs : Reasons) (refused : ℕ → A) (done : A) where
  pub judged_done : first_of rs ≡ 0 → judged rs refused done ≡ done
  judged_done h = rw (eq-eqb (first_of rs) 0 h)

  pub judged_refused : (first_of rs ≡ 0 → ⊥) → judged rs refused done ≡ refused (first_of rs)
  judged_refused h = rw (ne_eqb (first_of rs) 0 h)

-- a call that is refused by r, or done
pub call_refused : {A : Type 0} (rs : Reasons) (refused : ℕ → A) (done : A) (r : ℕ) → first_of rs ≡ r → (r ≡ 0 → ⊥) → refused r ≡ judged rs refused done
call_refused rs refused done r e d = ap refused (sym e) ∙ sym (judged_refused rs refused done (λ z. d (sym e ∙ z)))

pub call_done : {A : Type 0} (rs : Reasons) (refused : ℕ → A) (done : A) → first_of rs ≡ 0 → done ≡ judged rs refused done
call_done rs refused done e = sym (judged_done rs refused done e)

-- two that are judged for the same first reason
pub judged_related : {A B : Type 0} (R : A → B → Type 0) (rs qs : Reasons) (refused : ℕ → A) (refused' : ℕ → B) (done : A) (done' : B) → first_of rs ≡ first_of qs
    → ((first_of qs ≡ 0 → ⊥) → R (refused (first_of qs)) (refused' (first_of qs))) → (first_of qs ≡ 0 → R done done') → R (judged rs refused done) (judged qs refused' done')
judged_related R rs qs refused refused' done done' e refuses ok = rw e (step (decide (eqb (first_of qs) 0)))
  where
    step : (eqb (first_of qs) 0 ≡ true) ⊎ (eqb (first_of qs) 0 ≡ false) → R (judged qs refused done) (judged qs refused' done')
    step (inl t) = rw t (ok (eqb-true (first_of qs) 0 t))
    step (inr t) = rw t (refuses (eqb-false (first_of qs) 0 t))

-- what holds of both cases
pub judged_keeps : {A : Type 0} (P : A → Type 0) (rs : Reasons) (refused : ℕ → A) (done : A) → P (refused (first_of rs)) → (first_of rs ≡ 0 → P done) → P (judged rs refused done)
judged_keeps P rs refused done k d = judged_related (λ x y. P x) rs rs refused refused done done refl (λ z. k) d

-- the number of what is judged
pub judged_result : {A : Type 0} (result : A → ℕ) (rs : Reasons) (refused : ℕ → A) (done : A) → ((r : ℕ) → result (refused r) ≡ r) → result done ≡ 0 → result (judged rs refused done) ≡ first_of rs
judged_result result rs refused done k d = judged_keeps (λ x. result x ≡ first_of rs) rs refused done (k (first_of rs)) (λ z. d ∙ sym z)
