-- The output is short: what the program's buffer has to hold.
use Rattle.std.specs.Prelude.{◌≡◌, refl, Bool, true, false, not, ◌||◌, cond, ◌⊎◌, ℕ, suc, ◌+◌, ◌*◌, ◌/◌, ◌≤◌, ◌<◌, ltb, ℤ, pos, negsuc, nat_abs, length}
use Rattle.std.proofs.Common.{ap, inl, inr, eqb-true, ltb-false, ltb-true}
use mathlib.Core.List.{List, [], ◌∷◌, ◌++◌, map, Memᴰ}
use native.Mathlib.Omega.{arith}
use Rattle.std.proofs.Math.Dec.{eqb}
use Rattle.std.proofs.Math.ListN.{length-append}
use Rattle.std.proofs.lemmas.Bool.{eqb-false}
use Rattle.model.proofs.ClassLaws.{group_out}
use Rattle.model.proofs.EdgeLaws.{edge_count, edge_count_batch, edge_count-visible, superedges-le_edges}
use Rattle.model.specs.Graph.{Graph, Proper, View, empty_graph, max_nodes, max_updates, whole}
use Rattle.model.specs.Grouping.{adjacent, group, leaders, least, similar}
use Rattle.model.proofs.ListLaws.{filter_elim, length-filter, map_out, nodes_out}
use Rattle.model.specs.Lists.{◌∈◌, concat, nodes}
use Rattle.model.specs.Program.{Input, Line, accepted, change, change_line, change_lines, decimal, first_line, group_line, ill_formed, input_of, is_count, is_none, line_of, lines_from, max_bytes, open_line, pieces, printed, program, refused_at, refused_line, release_lines, signed, spaced, superedge_line, text, value_of, with_line, with_update}
use Rattle.model.proofs.ProgramLaws.{input_small}
use Rattle.model.specs.Release.{is_visible, superedges, superedges_from, visible, visible_groups}
use Rattle.model.proofs.ReleaseLaws.{length-concat_groups, visible_ascending, visible-simple}
use Rattle.model.specs.Steps.{Stepped, run}
use Rattle.model.proofs.SummaryLaws.{algorithm1-classes, length_groups}
use Rattle.model.proofs.TableLaws.{length-nodes}
use Rattle.model.proofs.TestLaws.{decide}
use Rattle.model.proofs.UpdateLaws.{answer_near, proper_batch, proper_empty, proper_stepped, refusal_below, update_refused_lem}
use Rattle.model.specs.Updates.{Update, answer, answers, batch_graph, refusal, update}
use Rattle.print.specs.DecimalLaws.{length_long, length_short}
use Rattle.print.specs.Lines.{max_text}

-- a tenfold bound takes one digit more
one_more : (b k : ℕ) → ((y : ℕ) → y < b → length (decimal y) ≤ k) → 1 ≤ k → (x : ℕ) → x < 10 * b → length (decimal x) ≤ k + 1
one_more b k few some x h = go (decide (ltb x 10))
  where
    go : (ltb x 10 ≡ true) ⊎ (ltb x 10 ≡ false) → length (decimal x) ≤ k + 1
    go (inl t) = omega (arith, length_short x (ltb-true x 10 t))
    go (inr t) = omega (arith, length_long x (ltb-false x 10 t), few (x / 10) (omega arith))

one_digit : (x : ℕ) → x < 10 → length (decimal x) ≤ 1
one_digit x h = omega (arith, length_short x h)

two_digits : (x : ℕ) → x < 100 → length (decimal x) ≤ 2
two_digits x h = one_more 10 1 one_digit (omega arith) x h

three_digits : (x : ℕ) → x < 1000 → length (decimal x) ≤ 3
three_digits x h = one_more 100 2 two_digits (omega arith) x h

four_digits : (x : ℕ) → x < 10000 → length (decimal x) ≤ 4
four_digits x h = one_more 1000 3 three_digits (omega arith) x h

-- an answer: a refusal, or a number from -2 to 2
signed_le : (a : ℤ) → nat_abs a < 100 → length (signed a) ≤ 3
unfolding signed text
signed_le (pos x) h = omega (arith, two_digits x h)
signed_le (negsuc x) h = omega (arith, two_digits (suc x) h)

answer_le : (g : Graph) (c : Update) → Proper g → nat_abs (answer g c) < 100
answer_le g c h = go (decide (eqb (refusal g c) 0))
  where
    go : (eqb (refusal g c) 0 ≡ true) ⊎ (eqb (refusal g c) 0 ≡ false) → nat_abs (answer g c) < 100
    go (inl t) = omega (arith, answer_near g c h (eqb-true (refusal g c) 0 t))
    go (inr t) = rw (ap (λ (x : Stepped Graph ℤ). x.outcome) (update_refused_lem g c (eqb-false (refusal g c) 0 t))) (omega (arith, refusal_below g c))

change-le : (i : ℕ) (a : ℤ) → i < 10000 → nat_abs a < 100 → length (change_line i a) ≤ 17
unfolding change_line text
change-le i a h n =
    omega (
      arith,
      length-append (decimal i) (0x3A ∷ 0x20 ∷ (signed a ++ (0x0A ∷ []))),
      length-append (signed a) (0x0A ∷ []),
      four_digits i h,
      signed_le a n,
    )

changes_le : (cs : List Update) (g : Graph) (i : ℕ) → Proper g → i + length cs ≤ 10000 → length (change_lines i (answers g cs)) ≤ 17 * length cs
unfolding answers change_lines run
changes_le [] g i h n = omega arith
changes_le (c ∷ cs) g i h n =
    omega (
      arith,
      length-append (change_line i (answer g c)) (change_lines (suc i) (answers (update g c).after cs)),
      change-le i (answer g c) (omega arith) (answer_le g c h),
      changes_le cs (update g c).after (suc i) (proper_stepped g c h).0 (omega arith),
    )

spaced-le : (x : ℕ) → x < 1000 → length (spaced x) ≤ 4
unfolding spaced text
spaced-le x h = omega (arith, three_digits x h)

members_le : (g : List ℕ) → ((p : ℕ) → p ∈ g → p < 1000) → length (concat (map spaced g)) ≤ 4 * length g
unfolding concat
members_le [] h = omega arith
members_le (p ∷ ps) h = omega (arith, length-append (spaced p) (concat (map spaced ps)), spaced-le p (h p (Memᴰ.head refl)), members_le ps (λ q m. h q (Memᴰ.tail m)))

group-le : (e : ℕ → ℕ → Bool) (g : List ℕ) → ((p : ℕ) → p ∈ g → p < 1000) → length (group_line e g) ≤ 2 + 4 * length g
unfolding group_line text
group-le e g h = omega (arith, length-append (concat (map spaced g)) (0x0A ∷ []), members_le g h)

groups_le : (e : ℕ → ℕ → Bool) (gs : List (List ℕ)) → ((g : List ℕ) → Memᴰ g gs → (p : ℕ) → p ∈ g → p < 1000) → length (concat (map (group_line e) gs)) ≤ 2 * length gs + 4 * length (concat gs)
unfolding concat
groups_le e [] h = omega arith
groups_le e (g ∷ gs) h =
    omega (
      arith,
      length-append (group_line e g) (concat (map (group_line e) gs)),
      length-append g (concat gs),
      group-le e g (h g (Memᴰ.head refl)),
      groups_le e gs (λ k m. h k (Memᴰ.tail m)),
    )

superedge_le : (i j : ℕ) → i < 1000 → j < 1000 → length (superedge_line (i, j)) ≤ 10
unfolding superedge_line text
superedge_le i j a b = omega (arith, length-append (spaced i) (spaced j ++ (0x0A ∷ [])), length-append (spaced j) (0x0A ∷ []), spaced-le i a, spaced-le j b)

-- the lines of superedges whose positions are small
abbrev Short : List (ℕ × ℕ) → Type 0
Short js = length (concat (map superedge_line js)) ≤ 10 * length js

short_append : (xs ys : List (ℕ × ℕ)) → Short xs → Short ys → Short (xs ++ ys)
unfolding concat
short_append [] ys a b = b
short_append (x ∷ xs) ys a b = go (sums xs) a b
  where
    sums : (zs : List (ℕ × ℕ)) → (length (concat (map superedge_line (zs ++ ys))) ≡ length (concat (map superedge_line zs)) + length (concat (map superedge_line ys))) × (length (zs ++ ys) ≡ length zs + length ys)
    sums [] = (omega arith, omega arith)
    sums (z ∷ zs) =
        let r = sums zs in (
          omega (arith, length-append (superedge_line z) (concat (map superedge_line (zs ++ ys))), length-append (superedge_line z) (concat (map superedge_line zs)), r.0),
          omega (arith, r.1),
        )

    go : (length (concat (map superedge_line (xs ++ ys))) ≡ length (concat (map superedge_line xs)) + length (concat (map superedge_line ys))) × (length (xs ++ ys) ≡ length xs + length ys)
        → Short (x ∷ xs) → Short ys → Short (x ∷ (xs ++ ys))
    go r p q = omega (arith, length-append (superedge_line x) (concat (map superedge_line (xs ++ ys))), length-append (superedge_line x) (concat (map superedge_line xs)), r.0, r.1)

from_short : (e : ℕ → ℕ → Bool) (i : ℕ) (g : List ℕ) (j : ℕ) (hs : List (List ℕ)) → i < 1000 → j + length hs ≤ 1000 → Short (superedges_from e i g j hs)
unfolding superedges_from concat
from_short e i g j [] a b = omega arith
from_short e i g j (h ∷ hs) a b = step (adjacent e g h) (from_short e i g (suc j) hs a (omega arith))
  where
    step : (t : Bool) → Short (superedges_from e i g (suc j) hs) → Short (cond t ((i, j) ∷ superedges_from e i g (suc j) hs) (superedges_from e i g (suc j) hs))
    step true below = omega (arith, length-append (superedge_line (i, j)) (concat (map superedge_line (superedges_from e i g (suc j) hs))), superedge_le i j a (omega arith))
    step false below = below

superedges_short : (e : ℕ → ℕ → Bool) (i : ℕ) (gs : List (List ℕ)) → i + length gs ≤ 1000 → Short (superedges e i gs)
unfolding superedges concat
superedges_short e i [] h = omega arith
superedges_short e i (g ∷ gs) h = short_append (superedges_from e i g (suc i) gs) (superedges e (suc i) gs) (from_short e i g (suc i) gs (omega arith) (omega arith)) (superedges_short e (suc i) gs (omega arith))

open_le : (m g s : ℕ) → m < 1000 → g < 1000 → s < 10000 → length (open_line m g s) ≤ 31
unfolding open_line text
open_le m g s a b c =
    omega (
      arith,
      length-append (decimal m) (text " groups " ++ (decimal g ++ (text " joins " ++ (decimal s ++ text "\n")))),
      length-append (decimal g) (text " joins " ++ (decimal s ++ text "\n")),
      length-append (decimal s) (text "\n"),
      three_digits m a,
      three_digits g b,
      four_digits s c,
    )

-- a release of few edges
module _ (g : Graph) (h : Proper g) where
  abbrev v : View
  v = visible g

  visible-le : length v.nodes ≤ g.node_count
  visible-le = omega (arith, length-filter (is_visible g) (nodes g.node_count), length-nodes g.node_count)

  groups_few : length (visible_groups g) ≤ length v.nodes
  unfolding visible_groups leaders
  groups_few = omega (arith, length_groups v (visible-simple g h) (visible_ascending g), length-filter (λ p. eqb (least v.nodes (similar v) p) p) v.nodes)

  member-small : (k : List ℕ) → Memᴰ k (visible_groups g) → (p : ℕ) → p ∈ k → p < 1000
  unfolding visible_groups
  member-small k m p i = omega (arith, node (inside i), h.small)
    where
      inside : p ∈ k → p ∈ v.nodes
      inside j =
          let b = map_out (group v.nodes (similar v)) (leaders v.nodes (similar v)) k (rw (algorithm1-classes v (visible-simple g h) (visible_ascending g)) at m) in
          (group_out v.nodes (similar v) b.0 p (rw b.2 at j)).0

      node : p ∈ v.nodes → p < g.node_count
      node j = nodes_out g.node_count p (filter_elim (is_visible g) (nodes g.node_count) p j).0

  release-lines-le : edge_count (whole g).edge (whole g).nodes ≤ max_updates → length (release_lines g) ≤ 44063
  unfolding release_lines
  release-lines-le few =
      let small = h.small in
      omega (
        arith,
        length-append (open_line m n s) (concat (map (group_line v.edge) gs) ++ concat (map superedge_line js)),
        length-append (concat (map (group_line v.edge) gs)) (concat (map superedge_line js)),
        open_le m n s (omega (arith, visible-le)) (omega (arith, groups_few, visible-le)) (omega (arith, joins)),
        groups_le v.edge gs member-small,
        members,
        superedges_short v.edge 0 gs (omega (arith, groups_few, visible-le)),
        visible-le,
        groups_few,
        joins,
      )
    where
      gs : List (List ℕ)
      gs = visible_groups g

      js : List (ℕ × ℕ)
      js = superedges v.edge 0 gs

      m : ℕ
      m = length v.nodes

      n : ℕ
      n = length gs

      s : ℕ
      s = length js

      members : length (concat (visible_groups g)) ≡ length v.nodes
      members = unfold visible_groups in length-concat_groups v (visible-simple g h) (visible_ascending g)

      joins : length (superedges v.edge 0 (visible_groups g)) ≤ 4096
      joins = unfold visible_groups in omega (arith, superedges-le_edges v (visible-simple g h) (visible_ascending g), edge_count-visible g, few)

-- the line at which an input is refused is at most the 4,098th
refused_is : {X : Type 0} (k n : ℕ) (cs : List Update) → accepted n cs ≡ refused_at k → X
refused_is k n cs q = let z : ◌≡◌ {A = ℕ} 0 1 = cc in absurd (omega arith)

at_line : (k j : ℕ) → k ≤ 4098 → refused_at k ≡ refused_at j → j ≤ 4098
at_line k j h q = let z : k ≡ j = cc in omega arith

line_refused : (k : ℕ) (x : Line) (rest : Input) (j : ℕ) → k ≤ 4098 → (suc k ≤ 4098 → rest ≡ refused_at j → j ≤ 4098) → with_line k x rest ≡ refused_at j → j ≤ 4098
unfolding with_line with_update
line_refused k ill_formed rest j h below q = at_line k j h q
line_refused k (change c) rest j h below q = step rest (decide (ltb 4097 k)) below q
  where
    step : (r : Input) → (ltb 4097 k ≡ true) ⊎ (ltb 4097 k ≡ false) → (suc k ≤ 4098 → r ≡ refused_at j → j ≤ 4098) → cond (ltb 4097 k) (refused_at k) (with_update c r) ≡ refused_at j → j ≤ 4098
    step r (inl t) b e = at_line k j h (rw t at e)
    step (refused_at i) (inr t) b e = b (omega (arith, ltb-false 4097 k t)) (rw t at e)
    step (accepted m ds) (inr t) b e = refused_is j m (c ∷ ds) (rw t at e)

lines_refused : (ls : List (List ℕ)) (n k j : ℕ) → k ≤ 4098 → lines_from n k ls ≡ refused_at j → j ≤ 4098
unfolding lines_from
lines_refused [] n k j h q = refused_is j n [] q
lines_refused (l ∷ ls) n k j h q = step (lines_refused ls n (suc k) j) (decide (is_none ls)) (decide (eqb (length l) 0)) q
  where
    step : (suc k ≤ 4098 → lines_from n (suc k) ls ≡ refused_at j → j ≤ 4098) → (is_none ls ≡ true) ⊎ (is_none ls ≡ false) → (eqb (length l) 0 ≡ true) ⊎ (eqb (length l) 0 ≡ false)
        → cond (is_none ls) (cond (eqb (length l) 0) (accepted n []) (refused_at k)) (with_line k (line_of l) (lines_from n (suc k) ls)) ≡ refused_at j → j ≤ 4098
    step below (inl s) (inl t) e = refused_is j n [] (rw (s, t) at e)
    step below (inl s) (inr t) e = at_line k j h (rw (s, t) at e)
    step below (inr s) t e = line_refused k (line_of l) (lines_from n (suc k) ls) j h below (rw s at e)

first_refused : (ls : List (List ℕ)) (j : ℕ) → first_line ls ≡ refused_at j → j ≤ 4098
unfolding first_line
first_refused [] j q = at_line 1 j (omega arith) q
first_refused (l ∷ ls) j q = step (decide (is_none ls || not (is_count l))) q
  where
    step : ((is_none ls || not (is_count l)) ≡ true) ⊎ ((is_none ls || not (is_count l)) ≡ false) → cond (is_none ls || not (is_count l)) (refused_at 1) (lines_from (value_of 0 l) 2 ls) ≡ refused_at j → j ≤ 4098
    step (inl t) e = at_line 1 j (omega arith) (rw t at e)
    step (inr t) e = lines_refused ls (value_of 0 l) 2 j (omega arith) (rw t at e)

input_refused : (bytes : List ℕ) (j : ℕ) → input_of bytes ≡ refused_at j → j ≤ 4098
unfolding input_of
input_refused bytes j q = step (decide (ltb max_bytes (length bytes))) q
  where
    step : (ltb max_bytes (length bytes) ≡ true) ⊎ (ltb max_bytes (length bytes) ≡ false) → cond (ltb max_bytes (length bytes)) (refused_at 0) (first_line (pieces 0x0A bytes)) ≡ refused_at j → j ≤ 4098
    step (inl t) e = at_line 0 j (omega arith) (rw t at e)
    step (inr t) e = first_refused (pieces 0x0A bytes) j (rw t at e)

refused_le : (k : ℕ) → k ≤ 4098 → length (refused_line k) ≤ 27
unfolding refused_line text
refused_le k h = omega (arith, length-append (decimal k) (0x0A ∷ []), four_digits k (omega arith))

accepted-le : (n : ℕ) (cs : List Update) → n ≤ max_nodes → length cs ≤ max_updates → length (printed (accepted n cs)) ≤ max_text
unfolding printed empty_graph
accepted-le n cs small few =
    let empty : Proper (empty_graph n) = proper_empty n small in
    let p = proper_batch cs (empty_graph n) empty in
    let count : (batch_graph (empty_graph n) cs).node_count ≡ n = p.1 in
    let edges : edge_count (batch_graph (empty_graph n) cs).edge (nodes (batch_graph (empty_graph n) cs).node_count) ≤ 4096 =
    omega (arith, ap (λ (k : ℕ). edge_count (batch_graph (empty_graph n) cs).edge (nodes k)) count, edge_count_batch n cs) in
    omega (
      arith,
      length-append (change_lines 1 (answers (empty_graph n) cs)) (release_lines (batch_graph (empty_graph n) cs)),
      changes_le cs (empty_graph n) 1 empty (omega arith),
      release-lines-le (batch_graph (empty_graph n) cs) p.0 edges,
    )

-- whatever the input, the output fits
pub program_short : (bytes : List ℕ) → length (program bytes) ≤ max_text
unfolding program
program_short bytes = go (input_of bytes) refl
  where
    go : (i : Input) → input_of bytes ≡ i → length (printed i) ≤ max_text
    go (refused_at k) q = unfold printed in omega (arith, refused_le k (input_refused bytes k q))
    go (accepted n cs) q = let s = input_small bytes n cs q in accepted-le n cs s.0 s.1
