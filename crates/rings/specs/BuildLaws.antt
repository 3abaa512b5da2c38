-- A node table made from least members: each node is put at the end of its leader's ring.
use Rattle.std.specs.Prelude.{◌≡◌, refl, ◌≢◌, ◌⊎◌, List, ℕ, ◌+◌, ◌*◌, ◌≤◌, ◌<◌, length, get_or}
use Rattle.std.proofs.Common.{sym, subst, ◌∙◌, ap, inl, inr, arith}
use Rattle.std.proofs.Math.Decide.{ℕ_discrete}
use Rattle.model.specs.Graph.{Graph, node_numbers, whole}
use Rattle.model.specs.Grouping.{similar}
use Rattle.model.specs.Tables.{node_number, nodes_of}
use Rattle.model.proofs.TableLaws.{least_at}
use Rattle.rings.specs.Ring.{Of, Parts}
use Rattle.rings.specs.Steps.{Built, Follows, Leading, LeastAndLabels, Linked, LabelsKept, Rings, Stored}
use Rattle.rings.specs.StoreLaws.{at, off, beside, size}
use Rattle.rings.specs.NodesLaws.{graph_parts, is_nodes, of_nodes}
use Rattle.rings.specs.CertificateLaws.{LedByClass, certified, led}

pub rings_none : (lst t : List ℕ) → Rings 0 lst t
rings_none lst t = record { least = λ p h. absurd (omega arith); follows = λ p h. absurd (omega arith) }

pub kept_none : (t : List ℕ) → LabelsKept t t
kept_none t = record { labels = λ p k h l. refl; size = refl }

pub kept_more : {t t₁ t₂ : List ℕ} → LabelsKept t t₁ → LabelsKept t₁ t₂ → LabelsKept t t₂
kept_more a b = record { labels = λ p k h l. b.labels p k h l ∙ a.labels p k h l; size = b.size ∙ a.size }

-- p follows a
by_previous : {n p : ℕ} (a : ℕ) {t : List ℕ} → node_number t p 2 ≡ a → a < n → node_number t a 0 ≡ node_number t p 0 → node_number t a 1 ≡ p → (node_number t p 0 ≡ p) ⊎ (a < p) → Follows n t p
by_previous {n} {p} a {t} e h f g o = record { below = rw e h; same_least = rw e f; next = rw e g; order = rw e o }

-- node i is put at the end of the ring of l
module _ {n i l : ℕ} {lst t t₁ : List ℕ} (k : Leading n lst) (s : length t ≡ node_numbers * n) (h : i < n) (r : Rings i lst t) (el : l ≡ get_or lst i 0) (e : Stored i 0 l t t₁) where
  pub end_before : l ≢ i → l < i
  end_before d = omega (arith, k.low i h)

  -- it leads the ring
  pub leader_put : {t₂ : List ℕ} → l ≡ i → Linked i i t₁ t₂ → Rings (i + 1) lst t₂ × LabelsKept t t₂
  leader_put {t₂} d f = (record { least = λ p hp. least p hp (ℕ_discrete p i); follows = λ p hp. follows p hp (ℕ_discrete p i) }, record { labels = λ p k h₃ l₅. f.rest p k h₃ l₅ ∙ beside e p k l₅ (omega arith) (omega arith); size = f.size ∙ size e })
    where
      here : node_number t₂ i 0 ≡ l
      here = f.least i ∙ at e (omega arith)

      old : (p : ℕ) → p ≢ i → node_number t₂ p 0 ≡ node_number t p 0
      old p ne = f.least p ∙ off e p 0 (omega arith) (omega arith) ne

      least : (p : ℕ) → p < i + 1 → Dec (p ≡ i) → node_number t₂ p 0 ≡ get_or lst p 0
      least p hp (yes j) = rw j (here ∙ el)
      least p hp (no j) = old p j ∙ r.least p (omega arith)

      follows : (p : ℕ) → p < i + 1 → Dec (p ≡ i) → Follows (i + 1) t₂ p
      follows p hp (yes j) = rw j (by_previous i f.prev_at (omega arith) refl f.next_at (inl (here ∙ d)))
      follows p hp (no j) =
          let w = r.follows p (omega arith) in
          let b = w.below in
          by_previous (node_number t p 2)
          (f.prev_off p j ∙ beside e p 2 (omega arith) (omega arith) (omega arith)) (omega arith)
          (old (node_number t p 2) (omega arith) ∙ w.same_least ∙ sym (old p j))
          (f.next_off (node_number t p 2) (omega arith) ∙ beside e (node_number t p 2) 1 (omega arith) (omega arith) (omega arith) ∙ w.next)
          (subst (λ x. (x ≡ p) ⊎ (node_number t p 2 < p)) (sym (old p j)) w.order)

  -- it follows a, the last member so far
  module _ {a : ℕ} (d : l ≢ i) (ea : a ≡ node_number t₁ l 2) where
    hl : l < i
    hl = end_before d

    last : Follows i t l
    last = r.follows l hl

    is_last : node_number t l 2 ≡ a
    is_last = sym (ea ∙ beside e l 2 (omega arith) (omega arith) (omega arith))

    pub end_inside : a < i
    end_inside = omega (arith, last.below, is_last)

    leads : node_number t l 0 ≡ l
    leads = r.least l hl ∙ ap (λ (x : ℕ). get_or lst x 0) el ∙ k.leads i h ∙ sym el

    pub member_put : {t₂ t₃ : List ℕ} → Linked a i t₁ t₂ → Linked i l t₂ t₃ → Rings (i + 1) lst t₃ × LabelsKept t t₃
    member_put {t₂} {t₃} f g = (
      record { least = λ p hp. least p hp (ℕ_discrete p i); follows = λ p hp. follows p hp (ℕ_discrete p i) (ℕ_discrete p l) },
      record { labels = λ p k h₃ l₅. g.rest p k h₃ l₅ ∙ f.rest p k h₃ l₅ ∙ beside e p k l₅ (omega arith) (omega arith); size = g.size ∙ f.size ∙ size e },
    )
      where
        ha : a < i
        ha = end_inside

        here : node_number t₃ i 0 ≡ l
        here = g.least i ∙ f.least i ∙ at e (omega arith)

        old : (p : ℕ) → p ≢ i → node_number t₃ p 0 ≡ node_number t p 0
        old p ne = g.least p ∙ f.least p ∙ off e p 0 (omega arith) (omega arith) ne

        last-leads : node_number t a 0 ≡ l
        last-leads = rw is_last at last.same_least ∙ leads

        last-next : node_number t a 1 ≡ l
        last-next = rw is_last at last.next

        least : (p : ℕ) → p < i + 1 → Dec (p ≡ i) → node_number t₃ p 0 ≡ get_or lst p 0
        least p hp (yes j) = rw j (here ∙ el)
        least p hp (no j) = old p j ∙ r.least p (omega arith)

        follows : (p : ℕ) → p < i + 1 → Dec (p ≡ i) → Dec (p ≡ l) → Follows (i + 1) t₃ p
        follows p hp (yes j) y = rw j (by_previous a (g.prev_off i (omega arith) ∙ f.prev_at) (omega (arith, ha)) (old a (omega (arith, ha)) ∙ last-leads ∙ sym here) (g.next_off a (omega (arith, ha)) ∙ f.next_at) (inr ha))
        follows p hp (no j) (yes y) = rw y (by_previous i g.prev_at (omega arith) (here ∙ sym (old l (omega arith) ∙ leads)) g.next_at (inl (old l (omega arith) ∙ leads)))
        follows p hp (no j) (no y) =
            let w = r.follows p (omega arith) in
            let b = w.below in
            let c : node_number t p 2 ≢ a = λ x. y (sym w.next ∙ ap (λ (z : ℕ). node_number t z 1) x ∙ last-next) in
            by_previous (node_number t p 2)
            (g.prev_off p y ∙ f.prev_off p j ∙ beside e p 2 (omega arith) (omega arith) (omega arith)) (omega arith)
            (old (node_number t p 2) (omega arith) ∙ w.same_least ∙ sym (old p j))
            (g.next_off (node_number t p 2) (omega arith) ∙ f.next_off (node_number t p 2) c ∙ beside e (node_number t p 2) 1 (omega arith) (omega arith) (omega arith) ∙ w.next)
            (subst (λ x. (x ≡ p) ⊎ (node_number t p 2 < p)) (sym (old p j)) w.order)

-- what a table must have of the model's: the least members
led_same : {n : ℕ} {R : ℕ → ℕ → Type 0} (t : List ℕ) {t' : List ℕ} → Parts n R → LedByClass n R t → ((p : ℕ) → p < n → node_number t' p 0 ≡ node_number t p 0) → LedByClass n R t'
led_same {n} {R} t {t'} k a s = record {
  low = λ p hp. omega (arith, s p hp, a.low p hp);
  leads = λ p hp. rw (s p hp) (s (node_number t p 0) (k.below (a.alike p hp)) ∙ a.leads p hp);
  alike = λ p hp. rw (s p hp) (a.alike p hp);
  apart = λ u q l eu eq x. a.apart u q l (sym (s u (k.below (k.back x))) ∙ eu) (sym (s q (k.below x)) ∙ eq) x;
}

-- lst has the least members of the groups, so the table is the model's
module _ {g : Graph} {lst t : List ℕ} (a : LeastAndLabels g lst t) where
  abbrev R : ℕ → ℕ → Type 0
  R = Of g.node_count (similar (whole g))

  parts : Parts g.node_count (Of g.node_count (similar (whole g)))
  parts = graph_parts g a.proper

  model : LedByClass g.node_count (Of g.node_count (similar (whole g))) (nodes_of g)
  model = led parts (nodes_of g) (of_nodes g a.proper)

  is-least : (p : ℕ) → p < g.node_count → get_or lst p 0 ≡ node_number (nodes_of g) p 0
  is-least p hp = a.least p hp ∙ sym (least_at g p hp)

  pub grouped-leading : g.node_count ≤ length lst → Leading g.node_count lst
  grouped-leading s = record {
    size = s;
    low = λ p hp. omega (arith, is-least p hp, model.low p hp);
    leads = λ p hp. rw (is-least p hp) (is-least (node_number (nodes_of g) p 0) (omega (arith, model.low p hp)) ∙ model.leads p hp);
  }

  pub grouped-nodes : {t' : List ℕ} → Rings g.node_count lst t' → LabelsKept t t' → t' ≡ nodes_of g
  grouped-nodes {t'} r x =
      is_nodes g a.proper
      (certified parts t' (led_same (nodes_of g) parts model (λ p hp. r.least p hp ∙ is-least p hp)) r.follows)
      (x.size ∙ a.size)
      (record { marks = λ p hp. x.labels p 3 (omega arith) (omega arith) ∙ a.labels.marks p hp; classes = λ p hp. x.labels p 4 (omega arith) (omega arith) ∙ a.labels.classes p hp })

pub built : {n i : ℕ} {lst t t' : List ℕ} → Rings i lst t' → LabelsKept t t' → i ≡ n → Built n lst t t'
built {n} {i} {lst} {t} {t'} r x e = record { nodes = λ g c a. grouped-nodes a (subst (λ z. Rings z lst t') (e ∙ sym c) r) x }
