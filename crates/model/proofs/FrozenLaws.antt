-- Edges of hidden nodes are frozen, and their classes free: what the refusals of an update and of a batch do not depend on.
use Rattle.std.specs.Prelude.{◌≡◌, Bool, ◌&&◌, ◌⊎◌, ℕ, suc, zero, ◌<◌, ltb, take}
use Rattle.std.proofs.Math.Path.{refl, sym, ap, ap₂}
use Rattle.std.proofs.Common.{◌∙◌, inl, inr}
use Rattle.std.proofs.Math.Bool.{true, false, not, ◌||◌, cond, and-false}
use mathlib.Core.List.{List, [], ◌∷◌, map, Memᴰ}
use Rattle.std.proofs.Math.Dec.{eqb}
use borrow.Author.Tests.{eqb-true, lt-ltb, ltb-true, ne_eqb, not-true}
use Rattle.model.specs.Graph.{Graph, Proper}
use Rattle.model.specs.Steps.{run}
use Rattle.model.specs.Updates.{LeavesClasses, RevealsNobody, Update, answers, asked, batch_graph, is_frozen, is_pair, on_class, on_edge, on_mark, refusal, refusal_in, update, update_reasons, update_refused, updated}
use Rattle.model.specs.Release.{is_visible}
use Rattle.model.specs.History.{Alike, SameHidden}
use Rattle.model.proofs.TestLaws.{and_fst, and_snd, and_true, decide, differ, fails, or_none}
use Rattle.model.proofs.RefusalLaws.{first_same, judged_related}
use Rattle.model.proofs.UpdateLaws.{answer-told, below_u, below_v, not_frozen, proper_stepped, update_cases}

-- on graphs with equally many nodes and the same ones hidden
module _ (a b : Graph) (h : SameHidden a b) (c : Update) where
  -- an update is refused by the same number, if the edge or the class that is looked at is the same
  same-refusal : (is_frozen a c ≡ false → on_edge c ≡ true → c.u < a.node_count → c.v < a.node_count → a.edge c.u c.v ≡ b.edge c.u c.v)
      → (on_class c ≡ true → c.u < a.node_count → a.class c.u ≡ b.class c.u) → refusal a c ≡ refusal b c
  unfolding refusal update_reasons
  same-refusal same_edge same_Class =
      first_same 13 _ _ refl
      (λ k. first_same 14 _ _ (ap (λ (n : ℕ). not (ltb c.u n) || (on_edge c && not (ltb c.v n))) h.node_count)
      (λ t. first_same 15 _ _ refl
      (λ w. first_same 24 _ _ (frozen (below_u _ c t) (below_v _ c t) _ refl)
      (λ f. first_same 16 _ _ (ap (λ (x : ℕ). eqb x (asked c)) (told (below_u _ c t) (below_v _ c t) f _ refl _ refl))
      (λ z. refl)))))
    where
      frozen : c.u < a.node_count → (on_edge c ≡ true → c.v < a.node_count) → (x : Bool) → on_edge c ≡ x → (x && (a.hidden c.u || a.hidden c.v)) ≡ (x && (b.hidden c.u || b.hidden c.v))
      frozen lu lv true e = ap₂ ◌||◌ (h.hidden c.u lu) (h.hidden c.v (lv e))
      frozen lu lv false e = refl

      told : c.u < a.node_count → (on_edge c ≡ true → c.v < a.node_count) → is_frozen a c ≡ false → (y : Bool) → on_class c ≡ y → (x : Bool) → on_edge c ≡ x
          → cond y (a.class c.u) (cond (cond x (a.edge c.u c.v) (a.hidden c.u)) 1 0) ≡ cond y (b.class c.u) (cond (cond x (b.edge c.u c.v) (b.hidden c.u)) 1 0)
      told lu lv f true k x e = same_Class k lu
      told lu lv f false k true e = ap (λ (t : Bool). cond t 1 0) (same_edge f e lu (lv e))
      told lu lv f false k false e = ap (λ (t : Bool). cond t 1 0) (h.hidden c.u lu)

  pub frozen_refused : is_frozen a c ≡ true → (refusal a c ≡ 0 → ⊥) × (refusal a c ≡ refusal b c)
  frozen_refused f = (λ ok. differ f (not_frozen a c ok), same-refusal (λ z. differ f z) (λ k. differ k (ap (λ (x : ℕ). eqb x 3) (eqb-true c.kind 1 (and_fst (on_edge c) _ f)))))

-- alike, with the same edges among all that were not hidden at first and the same classes of them; whoever was is hidden still
record Since (was : ℕ → Bool) (a b : Graph) : Type 0 where
  marks : SameHidden a b
  stays : (p : ℕ) → was p ≡ true → a.hidden p ≡ true
  edge : (p q : ℕ) → p < a.node_count → q < a.node_count → was p ≡ false → was q ≡ false → a.edge p q ≡ b.edge p q
  class : (p : ℕ) → p < a.node_count → was p ≡ false → a.class p ≡ b.class p

-- x is g but for classes of those who were hidden at first
record Spared (was : ℕ → Bool) (g x : Graph) : Type 0 where
  node_count : x.node_count ≡ g.node_count
  hidden : (p : ℕ) → x.hidden p ≡ g.hidden p
  edge : (p q : ℕ) → x.edge p q ≡ g.edge p q
  class : (p : ℕ) → was p ≡ false → x.class p ≡ g.class p

module _ (was : ℕ → Bool) where
  not-then : (a b : Graph) → Since was a b → (p : ℕ) → a.hidden p ≡ false → was p ≡ false
  not-then a b h p z = fails (was p) (λ t. differ (h.stays p t) z)

  since-refusal : (a b : Graph) → Since was a b → (c : Update) → (on_class c ≡ true → was c.u ≡ false) → refusal a c ≡ refusal b c
  since-refusal a b h c seen =
      same-refusal a b h.marks c
      (λ f e x y. let z = or_none (a.hidden c.u) _ (sym (ap (λ (o : Bool). o && (a.hidden c.u || a.hidden c.v)) e) ∙ f) in h.edge c.u c.v x y (not-then a b h c.u z.0) (not-then a b h c.v z.1))
      (λ k x. h.class c.u x (seen k))

  -- after an update they are alike, if it reveals nobody
  since-told : (a b : Graph) → Since was a b → (c : Update) → (on_class c ≡ true → was c.u ≡ false) → ((p : ℕ) → was p ≡ true → (update a c).after.hidden p ≡ true) → Since was (update a c).after (update b c).after
  unfolding update refusal updated
  since-told a b h c seen still =
      judged_related (λ x y. ((p : ℕ) → was p ≡ true → x.after.hidden p ≡ true) → Since was x.after y.after) (update_reasons a c) (update_reasons b c) (update_refused a) (update_refused b) _ _ (since-refusal a b h c seen)
      (λ z s. h)
      (λ z s. record {
        marks = record { node_count = h.marks.node_count; hidden = λ p l. ap (λ (x : Bool). cond (on_mark c && eqb p c.u) (eqb c.wanted 1) x) (h.marks.hidden p l) };
        stays = s;
        edge = λ p q x y k m. ap (λ (e : Bool). cond (on_edge c && is_pair c.u c.v p q) (eqb c.wanted 1) e) (h.edge p q x y k m);
        class = λ p l w. ap (λ (x : ℕ). cond (on_class c && eqb p c.u) c.v x) (h.class p l w);
      })
      still

  -- the class of a node that was hidden may be set in one of them alone
  spared : (g : Graph) (c : Update) → on_class c ≡ true → was c.u ≡ true → Spared was g (update g c).after
  unfolding updated
  spared g c k w = update_cases g c (λ x. Spared was g x.after) (λ z. record { node_count = refl; hidden = λ p. refl; edge = λ p q. refl; class = λ p e. refl }) (λ ok. record {
    node_count = refl;
    hidden = λ p. rw kind;
    edge = λ p q. rw kind;
    class = λ p e. rw (ne_eqb p c.u (λ z. differ (ap was z ∙ w) e), and-false (on_class c));
  })
    where
      kind : c.kind ≡ 3
      kind = eqb-true c.kind 3 k

  since-spared : (a b x y : Graph) → Since was a b → Spared was a x → Spared was b y → Since was x y
  since-spared a b x y h s t = record {
    marks = record { node_count = s.node_count ∙ h.marks.node_count ∙ sym t.node_count; hidden = λ p l. s.hidden p ∙ h.marks.hidden p (rw (← s.node_count) l) ∙ sym (t.hidden p) };
    stays = λ p w. s.hidden p ∙ h.stays p w;
    edge = λ p q k l v w. s.edge p q ∙ h.edge p q (rw (← s.node_count) k) (rw (← s.node_count) l) v w ∙ sym (t.edge p q);
    class = λ p l w. s.class p w ∙ h.class p (rw (← s.node_count) l) w ∙ sym (t.class p w);
  }

  since-next : (a b : Graph) → Since was a b → (c : Update) → ((p : ℕ) → was p ≡ true → (update a c).after.hidden p ≡ true) → Since was (update a c).after (update b c).after
  since-next a b h c still = step (decide (on_class c)) (decide (was c.u))
    where
      step : (on_class c ≡ true) ⊎ (on_class c ≡ false) → (was c.u ≡ true) ⊎ (was c.u ≡ false) → Since was (update a c).after (update b c).after
      step (inl k) (inl w) = since-spared a b (update a c).after (update b c).after h (spared a c k w) (spared b c k w)
      step (inl k) (inr w) = since-told a b h c (λ z. w) still
      step (inr k) w = since-told a b h c (λ z. differ z k) still

  since-batch : (cs : List Update) (a b : Graph) → Proper a → Proper b → Since was a b → ((p k : ℕ) → was p ≡ true → (batch_graph a (take k cs)).hidden p ≡ true)
      → (((c : Update) → Memᴰ c cs → on_class c ≡ true → was c.u ≡ false) → map refusal_in (answers a cs) ≡ map refusal_in (answers b cs)) × Since was (batch_graph a cs) (batch_graph b cs)
  unfolding batch_graph answers run
  since-batch [] a b pa pb h still = (λ z. refl, h)
  since-batch (c ∷ cs) a b pa pb h still =
      let r = since-batch cs (update a c).after (update b c).after (proper_stepped a c pa).0 (proper_stepped b c pb).0 (since-next a b h c (λ p. still p 1)) (λ p k. still p (suc k)) in
      (λ seen. ap₂ ◌∷◌ (answer-told a c pa ∙ since-refusal a b h c (seen c (Memᴰ.head refl)) ∙ sym (answer-told b c pb)) (r.0 (λ d m. seen d (Memᴰ.tail m))), r.1)

-- graphs alike in what is visible, given one batch that reveals nobody, are alike afterwards, and refuse the same updates by the same
-- numbers if none is of the class of a hidden node
pub batch_alike : (a b : Graph) → Proper a → Proper b → Alike a b → (cs : List Update) → RevealsNobody a cs
    → (LeavesClasses a cs → map refusal_in (answers a cs) ≡ map refusal_in (answers b cs)) × Alike (batch_graph a cs) (batch_graph b cs)
unfolding is_visible
batch_alike a b pa pb h cs nobody = (
  r.0,
  record {
    marks = r.1.marks;
    edge = λ p q x y. r.1.edge p q (inside p x) (inside q y) (not-then _ _ _ r.1 p (seen p x)) (not-then _ _ _ r.1 q (seen q y));
    class = λ p x. r.1.class p (inside p x) (not-then _ _ _ r.1 p (seen p x));
  },
)
  where
    start : Since a.hidden a b
    start = record {
      marks = h.marks;
      stays = λ p t. t;
      edge = λ p q x y s t. h.edge p q (and_true (lt-ltb p a.node_count x) (ap not s)) (and_true (lt-ltb q a.node_count y) (ap not t));
      class = λ p x s. h.class p (and_true (lt-ltb p a.node_count x) (ap not s));
    }

    r : (LeavesClasses a cs → map refusal_in (answers a cs) ≡ map refusal_in (answers b cs)) × Since a.hidden (batch_graph a cs) (batch_graph b cs)
    r = since-batch a.hidden cs a b pa pb start nobody

    inside : (p : ℕ) → is_visible (batch_graph a cs) p ≡ true → p < (batch_graph a cs).node_count
    inside p x = ltb-true p _ (and_fst (ltb p (batch_graph a cs).node_count) _ x)

    seen : (p : ℕ) → is_visible (batch_graph a cs) p ≡ true → (batch_graph a cs).hidden p ≡ false
    seen p x = not-true _ (and_snd (ltb p (batch_graph a cs).node_count) _ x)

-- an update of an edge or a class, or to hide, leaves hidden whoever is
hidden_still : (g : Graph) (c : Update) → (not (on_mark c) || eqb c.wanted 1) ≡ true → (p : ℕ) → g.hidden p ≡ true → (update g c).after.hidden p ≡ true
unfolding updated
hidden_still g c h p t = update_cases g c (λ x. x.after.hidden p ≡ true) (λ z. t) (λ ok. rw t (step (on_mark c) (eqb p c.u) (eqb c.wanted 1) h))
  where
    step : (x y z : Bool) → (not x || z) ≡ true → cond (x && y) z true ≡ true
    step false y z e = refl
    step true true z e = e
    step true false z e = refl

pub reveals_nobody : (cs : List Update) (g : Graph) → ((c : Update) → Memᴰ c cs → (not (on_mark c) || eqb c.wanted 1) ≡ true) → RevealsNobody g cs
unfolding batch_graph run
reveals_nobody [] g h p zero t = t
reveals_nobody [] g h p (suc k) t = t
reveals_nobody (c ∷ cs) g h p zero t = t
reveals_nobody (c ∷ cs) g h p (suc k) t = reveals_nobody cs (update g c).after (λ d m. h d (Memᴰ.tail m)) p k (hidden_still g c (h c (Memᴰ.head refl)) p t)
