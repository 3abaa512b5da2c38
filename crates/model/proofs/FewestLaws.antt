-- No summary has fewer groups than Algorithm 1's: each of its groups lies inside one of ours.
use Rattle.std.specs.Prelude.{◌≡◌, refl, Bool, true, false, ◌||◌, cond, ◌⊎◌, ℕ, ◌≤◌, eqb, length}
use Rattle.std.proofs.Math.Path.{sym, ap}
use Rattle.std.proofs.Common.{◌∙◌, inl, inr, eqb-true}
use Rattle.std.proofs.Math.Bool.{or-false}
use Rattle.std.proofs.lemmas.Bool.{eqb-false}
use Rattle.model.specs.Lists.{◌∈◌}
use Rattle.model.specs.Graph.{View}
use Rattle.model.specs.Grouping.{algorithm1, closed, similar}
use Rattle.model.specs.Summary.{Summarises, Summary, reconstruct}
use Rattle.model.proofs.TestLaws.{decide}
use Rattle.model.proofs.ListLaws.{Ascending}
use Rattle.model.proofs.TwinLaws.{Simple, false_twins_by, similar_N, similar_N+, true_twins_by}
use Rattle.model.proofs.ClassLaws.{fewest_classes}
use Rattle.model.proofs.SummaryLaws.{algorithm1-classes, equivalence}

module _ (v : View) (g : Simple v) (asc : Ascending v.nodes) (d : Summary) (s : Summarises v d) where
  -- a group of any summary lies inside one of ours
  pub inside_ours : (p q : ℕ) → p ∈ v.nodes → q ∈ v.nodes → d.group_of p ≡ d.group_of q → similar v p q ≡ true
  unfolding reconstruct closed
  inside_ours p q mp mq h = kind (decide (d.cliques (d.group_of p)))
    where
      one_class : v.class p ≡ v.class q
      one_class = sym (s.classed p mp) ∙ ap d.classes h ∙ s.classed q mq

      -- the nodes that p has an edge to, by p's group alone
      Tie : ℕ → ℕ → Bool
      Tie i x = cond (eqb i (d.group_of x)) (d.cliques i) (d.superedges i (d.group_of x) || d.superedges (d.group_of x) i)

      by-superedges : d.cliques (d.group_of p) ≡ false → (a x : ℕ) → a ∈ v.nodes → x ∈ v.nodes → d.group_of a ≡ d.group_of p → v.edge a x ≡ Tie (d.group_of p) x
      by-superedges c a x ma mx k = sym (s.exact a x ma mx) ∙ rw (k, c) refl

      full : d.cliques (d.group_of p) ≡ true → (a x : ℕ) → a ∈ v.nodes → x ∈ v.nodes → d.group_of a ≡ d.group_of p → (v.edge a x || eqb a x) ≡ Tie (d.group_of p) x
      full c a x ma mx k = ap (λ (t : Bool). t || eqb a x) (sym (s.exact a x ma mx)) ∙ by-case (decide (eqb a x)) (decide (eqb (d.group_of p) (d.group_of x)))
        where
          by-case : (eqb a x ≡ true) ⊎ (eqb a x ≡ false) → (eqb (d.group_of p) (d.group_of x) ≡ true) ⊎ (eqb (d.group_of p) (d.group_of x) ≡ false)
              → (reconstruct d a x || eqb a x) ≡ Tie (d.group_of p) x
          by-case (inl t) (inl u) = rw (k, u, c, t)
          by-case (inl t) (inr u) = absurd (eqb-false (d.group_of p) (d.group_of x) u (sym k ∙ ap d.group_of (eqb-true a x t)))
          by-case (inr t) (inl u) = rw (k, u, c, t)
          by-case (inr t) (inr u) = rw (k, u, t) (or-false (d.superedges (d.group_of p) (d.group_of x) || d.superedges (d.group_of x) (d.group_of p)))

      kind : (d.cliques (d.group_of p) ≡ true) ⊎ (d.cliques (d.group_of p) ≡ false) → similar v p q ≡ true
      kind (inl c) = similar_N+ v p q one_class (true_twins_by v p q (λ x m. full c p x mp m refl ∙ sym (full c q x mq m (sym h))))
      kind (inr c) = similar_N v p q one_class (false_twins_by v p q (λ x m. by-superedges c p x mp m refl ∙ sym (by-superedges c q x mq m (sym h))))

  pub fewest : length (algorithm1 v) ≤ d.count
  fewest = rw (algorithm1-classes v g asc) (fewest_classes v.nodes (similar v) (equivalence v g asc) asc d.count d.group_of s.placed inside_ours)
