-- A file that was read is a release exactly if no two of its groups could be one.
use Rattle.std.specs.Prelude.{◌≡◌, refl, Bool, false, cond, not, List, [], ◌∷◌, ◌⊎◌, ℕ, ◌*◌, ◌≤◌, ◌<◌, eqb, length, get_or, Option, Some, None}
use Rattle.std.proofs.lemmas.Option.{cond_some, none-some, same_Some}
use Rattle.std.proofs.Math.Path.{sym, ap, subst}
use Rattle.std.proofs.Common.{◌∙◌, inl, inr, arith}
use Rattle.std.proofs.Math.Bool.{true}
use Rattle.model.specs.Graph.{Graph, Proper, max_nodes, row_words}
use Rattle.model.specs.Grouping.{least, similar}
use Rattle.model.specs.Refusals.{first_of}
use Rattle.model.specs.Release.{is_visible, visible}
use Rattle.model.specs.Reading.{Head, decode, graph_by, is_release, summary_by, u16_at}
use Rattle.model.specs.InOrder.{file_by, groups_fit, in_order, superedges_fit, told_groups, told_superedges}
use Rattle.model.proofs.InOrderLaws.{in_order_parts}
use Rattle.model.proofs.ReleaseOrderLaws.{release-in_order}
use Rattle.model.proofs.ToldGraphLaws.{decode_file, told_proper}
use Rattle.model.proofs.MergeLaws.{in_order-release}
use Rattle.model.proofs.ReadBackLaws.{visible_inside}
use Rattle.model.proofs.TestLaws.{decide}
use Rattle.rows.specs.Rows.{Words}
use Rattle.compressed.specs.Compressed.{Compressed, Told, apart, unfolded}
use Rattle.compressed.specs.ToldLaws.{told_compressed, told-unfolded}
use Rattle.compressed.specs.ApartLaws.{told-apart}
use Rattle.compressed.specs.ReleasedLaws.{release-least}
use Rattle.sums.specs.Sums.{Cubed}
use Rattle.sums.specs.Joined.{JoinedSummed}
use Rattle.grouping.specs.Slots.{SumsTold}
use Rattle.reader.specs.Decoding.{Decodes, SumsKept, accepted, decoded, is_few}
use Rattle.reader.specs.Bytes.{Bytes}
use Rattle.reader.specs.BytesLaws.{accepted-in_order}
use Rattle.reader.specs.AcceptLaws.{in_order-accepted}
use Rattle.judging.specs.Numbers.{asked_number, read_number}
use Rattle.judging.specs.Judging.{Exact, Judged, held}

-- a release is accepted
release-accepted : (s : List ℕ) → is_release s ≡ true → accepted s ≡ true
release-accepted s t =
    let o = release-in_order s t in
    ap accepted o.1 ∙ in_order-accepted (u16_at s 2) (told_groups s) (told_superedges s) o.0

-- what the answer says of the bytes
answer_accepts : (s : List ℕ) (n : ℕ) → Some n ≡ decoded s → (accepted s ≡ true) × (n ≡ u16_at s 2)
unfolding decoded
answer_accepts s n e = let both = cond_some (accepted s) (u16_at s 2) n (sym e) in (both.0, sym both.1)

answer_none : (s : List ℕ) → None ≡ decoded s → is_release s ≡ false
unfolding decoded
answer_none s e = step (decide (is_release s))
  where
    step : (is_release s ≡ true) ⊎ (is_release s ≡ false) → is_release s ≡ false
    step (inl t) = absurd (none-some (u16_at s 2) (rw (release-accepted s t) at e))
    step (inr t) = t

-- no release, by its number
judged_no : (s : List ℕ) {first kinds classes joined sums : List ℕ} → is_release s ≡ false → Judged s first kinds classes joined sums None
judged_no s z = record {
  asked = unfold asked_number first_of in rw z;
  read = λ n. unfold read_number first_of in rw z;
  graph = λ n w. absurd (none-some n w);
  exact = λ n w. absurd (none-some n w);
  cubed = λ n w f. absurd (none-some n w);
  summed = λ n w f. absurd (none-some n w);
}

pub judged_none : (s : List ℕ) {first kinds classes joined sums : List ℕ} {r : Option ℕ} → Decodes s first kinds classes joined r → r ≡ None → Judged s first kinds classes joined sums None
judged_none s d e = judged_no s (answer_none s (sym e ∙ d.result))

-- the number of the release of a graph of n nodes
release-number : (s : List ℕ) (n : ℕ) → is_release s ≡ true → (decode s).node_count ≡ n → (m : ℕ) → read_number m (Some n) ≡ first_of ((not (is_release s), 19) ∷ (not (eqb (decode s).node_count m), 20) ∷ [])
unfolding read_number first_of
release-number s n t count m = rw (t, count) (step (eqb n m))
  where
    step : (b : Bool) → ◌≡◌ {A = ℕ} (cond b 0 20) (cond (not b) 20 0)
    step true = refl
    step false = refl

module _ (s : List ℕ) (bytes : Bytes s) {first kinds classes joined sums : List ℕ} (n : ℕ) {r : Option ℕ} (d : Decodes s first kinds classes joined r) (k : SumsKept s first joined sums) (e : r ≡ Some n) (w : Words joined) where
  abbrev gs : List (Head × List ℕ)
  gs = told_groups s

  abbrev js : List (ℕ × ℕ)
  js = told_superedges s

  known : (accepted s ≡ true) × (n ≡ u16_at s 2)
  known = answer_accepts s n (sym e ∙ d.result)

  ordered : in_order n (told_groups s) (told_superedges s) ≡ true
  ordered = subst (λ (k : ℕ). in_order k (told_groups s) (told_superedges s) ≡ true) (sym known.1) (accepted-in_order s bytes known.0).0

  parts : (n ≤ max_nodes) × (groups_fit n (λ p. false) 0 (told_groups s) ≡ true) × (superedges_fit (length (told_groups s)) 0 (told_superedges s) ≡ true)
  parts = in_order_parts n (told_groups s) (told_superedges s) ordered

  file : s ≡ file_by n (told_groups s) (told_superedges s)
  file = (accepted-in_order s bytes known.0).1 ∙ ap (λ (k : ℕ). file_by k (told_groups s) (told_superedges s)) (sym known.1)

  told : Told (told_groups s) (told_superedges s) first kinds classes joined
  told = d.told known.0

  rows : row_words * n ≤ length joined
  rows = rw known.1 (d.rows known.0)

  compressed : Compressed n first kinds joined
  compressed = told_compressed n (told_groups s) (told_superedges s) ordered told d.nodes d.groups rows

  -- the sums that were kept
  cubed : is_few (length s) n ≡ true → Cubed n first sums
  cubed f = rw known.1 (k.cubed known.0 (rw known.1 at f))

  summed : is_few (length s) n ≡ true → JoinedSummed joined sums
  summed f = k.summed known.0 (rw known.1 at f)

  -- what is asked of the arrays whose groups are told apart
  pub nodes_few : n ≤ max_nodes
  nodes_few = parts.0

  pub apart-asked : {few : Bool} → few ≡ is_few (length s) n → (n ≤ max_nodes) × (row_words * n ≤ length joined) × (n ≤ length first) × (n ≤ length kinds) × (n ≤ length classes) × (length sums ≡ 2 * max_nodes) × (few ≡ true → SumsTold joined sums)
  apart-asked is =
      (parts.0, rows, omega (arith, parts.0, d.nodes), omega (arith, parts.0, d.groups), omega (arith, parts.0, d.labels), k.size, λ f. record { summed = summed (sym is ∙ f); irreflexive = λ p l. compressed.irreflexive p l })

  graph : held n first kinds classes joined ≡ decode s
  graph = sym (told-unfolded n (told_groups s) (told_superedges s) ordered told) ∙ sym (ap decode file ∙ decode_file n (told_groups s) (told_superedges s))

  same : apart n first kinds classes joined ≡ is_release s
  same = told-apart n (told_groups s) (told_superedges s) ordered told w ∙ sym (ap is_release file ∙ in_order-release n (told_groups s) (told_superedges s) ordered)

  pub judged_other : {b : Bool} → b ≡ apart n first kinds classes joined → b ≡ false → Judged s first kinds classes joined sums None
  judged_other c z = judged_no s (sym same ∙ sym c ∙ z)

  pub judged-release : {b : Bool} → b ≡ apart n first kinds classes joined → b ≡ true → Judged s first kinds classes joined sums (Some n)
  judged-release {b} c z = record {
    asked = unfold asked_number first_of in rw is;
    read = release-number s n is (sym (ap (λ (g : Graph). g.node_count) graph) ∙ unfold unfolded in refl);
    graph = λ m x. let q : n ≡ m = same_Some n m x in ap (λ (k : ℕ). held k first kinds classes joined) (sym q) ∙ graph;
    exact = λ m x. let q : n ≡ m = same_Some n m x in subst (λ (k : ℕ). Exact k first kinds classes joined) q exact;
    cubed = λ m x. let q : n ≡ m = same_Some n m x in subst (λ (j : ℕ). is_few (length s) j ≡ true → Cubed j first sums) q cubed;
    summed = λ m x. let q : n ≡ m = same_Some n m x in subst (λ (j : ℕ). is_few (length s) j ≡ true → JoinedSummed joined sums) q summed;
  }
    where
      is : is_release s ≡ true
      is = sym same ∙ sym c ∙ z

      by_groups : held n first kinds classes joined ≡ graph_by n (summary_by (told_groups s) (told_superedges s))
      by_groups = sym (told-unfolded n (told_groups s) (told_superedges s) ordered told)

      below : (p : ℕ) → is_visible (held n first kinds classes joined) p ≡ true → p < max_nodes
      below p v = let l : p < n = unfold unfolded in visible_inside (held n first kinds classes joined) p v in omega (arith, parts.0)

      exact : Exact n first kinds classes joined
      exact = record {
        compressed = compressed;
        labels = d.labels;
        proper = subst Proper (sym by_groups) (told_proper n (told_groups s) (told_superedges s) parts.0 parts.1);
        told = λ p v.
            subst (λ (g : Graph). get_or first p 0 ≡ least (visible g).nodes (similar (visible g)) p) (sym by_groups)
            (told.first p (below p v) ∙ release-least n (told_groups s) (told_superedges s) ordered (sym (ap is_release file) ∙ is) p (subst (λ (g : Graph). is_visible g p ≡ true) by_groups v));
      }
