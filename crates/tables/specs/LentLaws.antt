-- Tables are judged by their size, then by what they hold.
use Rattle.std.specs.Prelude.{◌≡◌, Bool, not, [], ◌∷◌, ◌≢◌, ℕ}
use Rattle.std.proofs.Math.Path.{refl, sym, ap}
use Rattle.std.proofs.Common.{subst, ◌∙◌}
use Rattle.std.proofs.Math.Bool.{true, false}
use Rattle.std.proofs.Math.ListN.{length}
use Rattle.std.proofs.lemmas.Bool.{not-true, not-false}
use Rattle.model.specs.Tables.{Tables, graph_of, holds, tables_of}
use Rattle.model.specs.Refusals.{Lengths, Reasons, first_of, lengths, wrong_size}
use Rattle.model.proofs.TableLaws.{held_proper, held_tables, length_edges, length_keys, length-nodes_of}
use Rattle.model.proofs.HistoryLaws.{right_size}
use Rattle.model.proofs.RefusalLaws.{first_none}
use Rattle.tables.specs.Lent.{Held, Sized, lent_reasons, table_reasons}

-- the sizes that are then right
pub sized : (n : ℕ) (t : Tables) (f : Bool) → f ≡ not (wrong_size n (lengths t)) → f ≡ true → Sized n t
unfolding lengths
sized n t f e h =
    let s = right_size n (lengths t) (not-true (wrong_size n (lengths t)) (sym e ∙ h)) in
    record { small = s.0; edges = ap (λ (l : Lengths). l.edges) s.1; nodes = ap (λ (l : Lengths). l.nodes) s.1; keys = ap (λ (l : Lengths). l.keys) s.1 }

pub at_n : (m n : ℕ) (l : Lengths) (f : Bool) → m ≡ n → f ≡ not (wrong_size m l) → f ≡ not (wrong_size n l)
at_n m n l f e h = rw e at h

-- the rest of a call's reasons
module _ (a b : Bool) (r : ℕ) (e : r ≡ first_of (lent_reasons a b [])) where
  pub lent_refused : (rs : Reasons) → r ≢ 0 → first_of (lent_reasons a b rs) ≡ r
  unfolding first_of
  lent_refused rs d = step a refl b refl ∙ sym e
    where
      step : (x : Bool) → a ≡ x → (y : Bool) → b ≡ y → first_of (lent_reasons a b rs) ≡ first_of (lent_reasons a b [])
      step true p y q = rw p
      step false p true q = rw (p, q)
      step false p false q = absurd (d (e ∙ rw (p, q)))

  module _ (done : r ≡ 0) where
    pub lent_passed : (a ≡ false) × (b ≡ false)
    lent_passed = let x = first_none a 11 ((b, 12) ∷ []) refl (sym e ∙ done) in (x.0, (first_none b 12 [] refl x.1).0)

    pub lent-rest : (rs : Reasons) → first_of (lent_reasons a b rs) ≡ first_of rs
    unfolding first_of
    lent-rest rs = rw (lent_passed.0, lent_passed.1)

-- 11 and 12, where lengths are wrong and where nothing is held
pub size_wrong : (wrong none : Bool) (f : Bool) → f ≡ not wrong → f ≡ false → 11 ≡ first_of (lent_reasons wrong none [])
unfolding first_of
size_wrong wrong none f e h = rw (not-false wrong (sym e ∙ h))

module _ (wrong holds : Bool) where
  pub none_held : (f b : Bool) → f ≡ not wrong → f ≡ true → b ≡ holds → b ≡ false → 12 ≡ first_of (lent_reasons wrong (not holds) [])
  unfolding first_of
  none_held f b e h d k = rw (not-true wrong (sym e ∙ h), sym d ∙ k)

  pub all_held : (f b : Bool) → f ≡ not wrong → f ≡ true → b ≡ holds → b ≡ true → 0 ≡ first_of (lent_reasons wrong (not holds) [])
  unfolding first_of
  all_held f b e h d k = rw (not-true wrong (sym e ∙ h), sym d ∙ k)

-- on tables
module _ (n : ℕ) (t : Tables) where
  module _ (r : ℕ) (e : r ≡ first_of (table_reasons n t [])) where
    pub table_refused : (rs : Reasons) → r ≢ 0 → first_of (table_reasons n t rs) ≡ r
    table_refused = lent_refused (wrong_size n (lengths t)) (not (holds n t)) r e

    module _ (done : r ≡ 0) where
      facts : (wrong_size n (lengths t) ≡ false) × (holds n t ≡ true)
      facts = let x = lent_passed (wrong_size n (lengths t)) (not (holds n t)) r e done in (x.0, not-false _ x.1)

      pub table_rest : (rs : Reasons) → first_of (table_reasons n t rs) ≡ first_of rs
      table_rest = lent-rest (wrong_size n (lengths t)) (not (holds n t)) r e done

      pub table_sized : Sized n t
      table_sized = sized n t true (sym (ap not facts.0)) refl

      pub table_held : Held n t
      table_held = record { same = held_tables n t facts.1; proper = held_proper n t facts.1 table_sized.small }

-- tables that hold a graph have its sizes
pub held_sized : {n : ℕ} {t : Tables} → Held n t → Sized n t
held_sized {n} {t} h = record {
  small = unfold graph_of in h.proper.small;
  edges = ap (λ (x : Tables). length x.edges) h.same ∙ (unfold tables_of graph_of in length_edges (graph_of n t));
  nodes = ap (λ (x : Tables). length x.nodes) h.same ∙ (unfold tables_of graph_of in length-nodes_of (graph_of n t));
  keys = ap (λ (x : Tables). length x.keys) h.same ∙ (unfold tables_of graph_of in length_keys (graph_of n t));
}

-- a count by another name
pub sized_at : {m n : ℕ} {t : Tables} → m ≡ n → Sized n t → Sized m t
sized_at {m} {n} {t} e h = subst (λ (k : ℕ). Sized k t) (sym e) h

-- tables with the right sizes that pass the test
pub held_if : (n : ℕ) (t : Tables) (f b : Bool) → f ≡ not (wrong_size n (lengths t)) → f ≡ true → b ≡ holds n t → b ≡ true → Held n t
held_if n t f b e h d k = record { same = held_tables n t (sym d ∙ k); proper = held_proper n t (sym d ∙ k) (sized n t f e h).small }
