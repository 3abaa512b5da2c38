-- Laws of a whole file read into its groups.
use Rattle.std.specs.Prelude.{◌≡◌, Bool, false, not, ◌&&◌, ◌⊎◌, ℕ, zero, suc, ◌+◌, ◌*◌, ◌%◌, ◌≤◌, ◌<◌, leb, ltb, length, get_or, drop, replicate, Option, Some, None}
use Rattle.std.proofs.Math.Path.{refl, sym, ap}
use Rattle.std.proofs.Common.{subst, ◌∙◌, inl, inr, arith}
use Rattle.std.proofs.Math.Bool.{true, or_comm}
use mathlib.Core.List.{List, [], ◌∷◌}
use Rattle.std.proofs.Math.Dec.{eqb}
use Rattle.std.proofs.lemmas.List.{length-replicate}
use Rattle.std.proofs.Math.Seq.{drop-drop}
use borrow.Author.Tests.{eqb-false, ne_eqb, le-ltb, leb-true, ltb-false, ltb-true, not-true}
use Rattle.model.specs.Graph.{max_nodes}
use Rattle.model.specs.Reading.{groups_at, is_mark, superedges_at, u16_at}
use Rattle.model.specs.Reading as reading
use Rattle.model.specs.InOrder.{follows, pair_key, told_groups, told_superedges}
use Rattle.model.proofs.TestLaws.{and_fst, and_snd, decide, differ}
use Rattle.model.proofs.InOrderLaws.{place_of}
use Rattle.records.specs.declared.Counts.{Counts}
use Rattle.records.specs.declared.Record.{Record}
use Rattle.records.specs.declared.Record.TheVariants.{Head, Group, Superedge, End}
use Rattle.records.specs.Records.{item_in, record_at, size_of}
use Rattle.records.specs.RecordLaws.{fits_at, item_is, next_is, none_in}
use Rattle.drawing.specs.BitLaws.{added_only, zeros}
use Rattle.drawing.specs.Drawing.{one_bit, pair_bits}
use Rattle.mirroring.specs.Mirroring.{StripsFor}
use Rattle.rows.specs.Rows.{no_node}
use Rattle.compressed.specs.Compressed.{first_at, joined_by, placed, single}
use Rattle.compressed.specs.ToldLaws.{first_member_none, first_placed}
use Rattle.sums.specs.Sums.{FirstsAreNodes}
use Rattle.reader.specs.declared.Rest.{Rest}
use Rattle.reader.specs.Decoding.{AfterHead, Blank, BlankRows, BodyRead, Decodes, FirstsAscend, FirstsPlaced, GroupsHeld, GroupsRead, JoinedRead, SumsKept, accepted, body_fits, bytes_after, counts_fit, decoded, drawn_by, ends_at, groups_from, nodes_in, pairs_to, stop_at}
use Rattle.reader.specs.MirrorLaws.{sums_size}
use Rattle.reader.specs.SuperedgeLaws.{here_or_not, positions, stop_goes, stop_pair, stops, stops_empty, told_by}

-- the nodes that the head tells
pub nodes-told : (s : List ℕ) → 8 ≤ length s → u16_at s 2 ≡ nodes_in s
unfolding nodes_in
nodes-told s l = rw (le-ltb (length s) 8 l)

-- the numbers of a head that fit
pub sized_n : (n m g : ℕ) → true ≡ counts_fit n m g → n ≤ 512
unfolding counts_fit
sized_n n m g e = leb-true n 512 (and_fst (leb n 512) (leb m n && leb g m) (sym e))

pub sized_g : (n m g : ℕ) → true ≡ counts_fit n m g → g ≤ 512
unfolding counts_fit
sized_g n m g e =
    let a = and_snd (leb n 512) (leb m n && leb g m) (sym e) in
    omega (arith, sized_n n m g e, leb-true m n (and_fst (leb m n) (leb g m) a), leb-true g m (and_snd (leb m n) (leb g m) a))

-- where the end record is found
pub is_end : (c : Counts) (s : List ℕ) (at : ℕ) → ends_at c s at ≡ true → item_in (drop at s) ≡ Some End
is_end c s at t = by_kind (item_in (drop at s)) refl
  where
    by_kind : (i : Option Record) → item_in (drop at s) ≡ i → item_in (drop at s) ≡ Some End
    by_kind (Some (Superedge i j)) e = differ t (unfold ends_at in rw e)
    by_kind (Some End) e = e
    by_kind (Some (Head x y z)) e = differ t (unfold ends_at in rw e)
    by_kind (Some (Group x y z)) e = differ t (unfold ends_at in rw e)
    by_kind None e = differ t (unfold ends_at in rw e)

module _ (g : ℕ) (s : List ℕ) where
  -- the superedges before the end record are all there are
  pub pairs-told : (k last at : ℕ) → item_in (drop (stop_at g s last k at) s) ≡ Some End → pairs_to g s last k at ≡ superedges_at k (drop at s)
  pairs-told zero last at end = unfold pairs_to superedges_at in refl
  pairs-told (suc k) last at end =
      here_or_not s at (follows g last)
      (λ i j e t. goes i j e t (pairs-told k (pair_key i j) (at + 6) (ap (λ (x : ℕ). item_in (drop x s)) (sym (stop_goes g s last at k i j e t)) ∙ end)))
      (λ none. stops_empty g s last at (suc k) none ∙ sym (ends (ap (λ (x : ℕ). item_in (drop x s)) (sym (stops g s last at (suc k) none)) ∙ end)))
    where
      ends : item_in (drop at s) ≡ Some End → superedges_at (suc k) (drop at s) ≡ []
      ends e = let f = told_by s at (Some End) e in unfold superedges_at is_mark in rw (ne_eqb (get_or (drop at s) 0 0) 0x53 (λ d. omega (arith, f.1)), superedges_at)

      goes : (i j : ℕ) → item_in (drop at s) ≡ Some (Superedge i j) → follows g last i j ≡ true → pairs_to g s (pair_key i j) k (at + 6) ≡ superedges_at k (drop (at + 6) s) → pairs_to g s last (suc k) at ≡ superedges_at (suc k) (drop at s)
      goes i j e t rest =
          let f = told_by s at (Some (Superedge i j)) e in
          stop_pair g s last at k i j e t ∙ ap (λ (x : List (ℕ × ℕ)). (i, j) ∷ x) rest ∙ sym (unfold superedges_at in rw (f.3, superedges_at, ← f.1, ← f.2, drop-drop 6 at s))

  -- their bits are those of the groups' first members
  pub pairs_joined : (firsts : List ℕ) (gs : List (reading.Head × List ℕ)) → ((i : ℕ) → i < g → get_or firsts i 0 ≡ first_at gs i) → (k last at a b : ℕ) → drawn_by true firsts (pairs_to g s last k at) a b ≡ joined_by gs (pairs_to g s last k at) a b
  pairs_joined firsts gs led zero last at a b = unfold pairs_to drawn_by joined_by in refl
  pairs_joined firsts gs led (suc k) last at a b =
      here_or_not s at (follows g last)
      (λ i j e t. goes i j e t (pairs_joined firsts gs led k (pair_key i j) (at + 6) a b))
      (λ none. rw (stops_empty g s last at (suc k) none) (unfold drawn_by joined_by in refl))
    where
      goes : (i j : ℕ) → item_in (drop at s) ≡ Some (Superedge i j) → follows g last i j ≡ true → drawn_by true firsts (pairs_to g s (pair_key i j) k (at + 6)) a b ≡ joined_by gs (pairs_to g s (pair_key i j) k (at + 6)) a b → drawn_by true firsts (pairs_to g s last (suc k) at) a b ≡ joined_by gs (pairs_to g s last (suc k) at) a b
      goes i j e t rest =
          let p = positions g last i j t in
          let swap = or_comm (eqb a (first_at gs j) && eqb b (first_at gs i)) (eqb a (first_at gs i) && eqb b (first_at gs j)) in
          rw (stop_pair g s last at k i j e t) (unfold drawn_by joined_by pair_bits one_bit in rw (led i p.0, led j p.1, rest, swap))

-- lent arrays, before anything is read
module _ (s least kinds classes joined : List ℕ) (blank : Blank s least kinds classes joined) where
  pub blank_nodes : length least ≡ max_nodes
  blank_nodes = ap length blank.nodes ∙ length-replicate {A = ℕ} max_nodes no_node

  pub blank_groups : length kinds ≡ max_nodes
  blank_groups = ap length blank.groups ∙ length-replicate {A = ℕ} max_nodes single

  pub blank_labels : length classes ≡ max_nodes
  blank_labels = ap length blank.labels ∙ length-replicate {A = ℕ} max_nodes 0

-- zeros are rows without a bit, in whole blocks, if those are enough
pub blank_rows : (s : List ℕ) (k : ℕ) → k ≤ 4096 → k % 512 ≡ 0 → (nodes_in s ≤ 512 → 8 * nodes_in s ≤ k) → BlankRows s (replicate k 0)
blank_rows s k most whole enough = record { bits = zeros k; room = λ h. rw (length-replicate {A = ℕ} k 0) (record { enough = enough h; most = most; whole = whole }) }

-- as many groups as the head says
groups_count : (s : List ℕ) (at k : ℕ) → length (groups_from s at k) ≡ k
unfolding groups_from groups_at
groups_count s at k = count k (drop at s)
  where
    count : (k : ℕ) (t : List ℕ) → length (groups_at k t) ≡ k
    count zero t = refl
    count (suc k) t = ap suc (count k (drop (2 * u16_at t 2) (drop 6 t)))

-- the body
module _ (s : List ℕ) (from n m g : ℕ) (least₀ least firsts₀ firsts kinds₀ kinds classes₀ classes joined₀ : List ℕ) (r : Option Rest) (eight : from ≡ 8) (blank : Blank s least₀ kinds₀ classes₀ joined₀)
    (room : StripsFor n (length joined₀)) (read : GroupsRead n g (record { members = m; groups = g }) s from least firsts₀ firsts kinds classes r) where
  groups : GroupsRead n g (record { members = m; groups = g }) s 8 least firsts₀ firsts kinds classes r
  groups = subst (λ (x : ℕ). GroupsRead n g (record { members = m; groups = g }) s x least firsts₀ firsts kinds classes r) eight read

  pub body_broken : {sums₀ : List ℕ} → sums₀ ≡ replicate (2 * max_nodes) 0 → r ≡ None → BodyRead s n m g least kinds classes joined₀ sums₀ false
  body_broken {sums₀} none e = record {
    result = sym (unfold body_fits in rw (← groups.result, e));
    nodes = groups.nodes;
    groups = groups.groups;
    labels = groups.labels;
    rows = room.enough;
    told = λ t. differ t refl;
    size = sums_size sums₀ none;
    cubed = λ t. differ t refl;
    summed = λ t. differ t refl;
  }

  module _ (after : Rest) (is : r ≡ Some after) where
    held : GroupsHeld n g s 8 after.next least firsts kinds classes
    held = groups.held after is

    pub body_placed : n ≤ max_nodes → g ≤ max_nodes → g ≤ length firsts₀ → FirstsPlaced g (length joined₀) firsts
    body_placed nodes few l = record {
      few = few;
      size = let e = groups.size in omega arith;
      small = λ i h. omega (arith, held.ascend.small i h);
      rows = λ i h. omega (arith, held.ascend.small i h, room.enough);
    }

    pub body_ascend : FirstsAscend n g firsts
    body_ascend = held.ascend

    -- each first member is a node
    pub body_nodes : n ≤ max_nodes → FirstsAreNodes n least
    body_nodes small = record { small = small; size = groups.nodes; first = first }
      where
        place : ℕ → ℕ
        place p = place_of (groups_from s 8 g) p

        first : (p : ℕ) → placed n least p ≡ true → get_or least p 0 < max_nodes
        first p t = by (decide (ltb (place p) g))
          where
            here : p < max_nodes
            here = unfold placed in (let l = ltb-true p n (and_fst (ltb p n) (not (eqb (get_or least p 0) no_node)) t) in omega arith)

            led : eqb (get_or least p 0) no_node ≡ false
            led = unfold placed in not-true (eqb (get_or least p 0) no_node) (and_snd (ltb p n) (not (eqb (get_or least p 0) no_node)) t)

            by : (ltb (place p) g ≡ true) ⊎ (ltb (place p) g ≡ false) → get_or least p 0 < max_nodes
            by (inl u) =
                let k = ltb-true (place p) g u in
                let e = held.first p here ∙ first_placed (groups_from s 8 g) p (omega (arith, k, groups_count s 8 g)) ∙ sym (held.led (place p) k) in
                omega (arith, e, held.ascend.small (place p) k)
            by (inr u) =
                let k = ltb-false (place p) g u in
                absurd (eqb-false (get_or least p 0) no_node led (held.first p here ∙ first_member_none (groups_from s 8 g) p (omega (arith, k, groups_count s 8 g))))

    pub body_read : (joined sums : List ℕ) (at : ℕ) (b : Bool) → JoinedRead n g s after.next least firsts joined₀ joined sums at → b ≡ ends_at after.left s at → BodyRead s n m g least kinds classes joined sums b
    body_read joined sums at b x e = record {
      result = e ∙ ap (ends_at after.left s) x.place ∙ sym (unfold body_fits in rw (← groups.result, is));
      nodes = groups.nodes;
      groups = groups.groups;
      labels = groups.labels;
      rows = omega (arith, x.drawn.size, room.enough);
      told = λ t. record {
        first = held.first;
        kind = held.kind;
        class = held.class;
        bits =
            λ a c l.
            added_only joined₀ blank.rows.bits x.drawn a c l
            ∙ pairs_joined g s firsts (groups_from s 8 g) held.led (length s) 0 after.next a c
            ∙ ap (λ (js : List (ℕ × ℕ)). joined_by (groups_from s 8 g) js a c) (pairs t);
      };
      size = x.size;
      cubed = λ t. x.cubed;
      summed = λ t. x.summed;
    }
      where
        pairs : b ≡ true → pairs_to g s 0 (length s) after.next ≡ superedges_at (length s) (bytes_after s 8 g)
        pairs t = pairs-told g s (length s) 0 after.next (is_end after.left s (stop_at g s 0 (length s) after.next) (ap (ends_at after.left s) (sym x.place) ∙ sym e ∙ t)) ∙ ap (superedges_at (length s)) held.rest

decode_refused : (s least kinds classes joined : List ℕ) → false ≡ accepted s → length least ≡ max_nodes → length kinds ≡ max_nodes → length classes ≡ max_nodes → Decodes s least kinds classes joined None
decode_refused s least kinds classes joined e a b c = record {
  result = sym (unfold decoded in rw (← e));
  nodes = a;
  groups = b;
  labels = c;
  rows = λ t. differ t (sym e);
  told = λ t. differ t (sym e);
}

sums_refused : (s least joined sums : List ℕ) → false ≡ accepted s → length sums ≡ 2 * max_nodes → SumsKept s least joined sums
sums_refused s least joined sums e h = record { size = h; cubed = λ t. differ t (sym e); summed = λ t. differ t (sym e) }

module _ (s : List ℕ) (least₀ kinds₀ classes₀ joined₀ sums₀ : List ℕ) (blank : Blank s least₀ kinds₀ classes₀ joined₀ × (sums₀ ≡ replicate (2 * max_nodes) 0)) where
  refused : false ≡ accepted s → Decodes s least₀ kinds₀ classes₀ joined₀ None × SumsKept s least₀ joined₀ sums₀
  refused e =
      let arrays = blank.0 in (
        decode_refused s least₀ kinds₀ classes₀ joined₀ e (blank_nodes s least₀ kinds₀ classes₀ joined₀ arrays) (blank_groups s least₀ kinds₀ classes₀ joined₀ arrays) (blank_labels s least₀ kinds₀ classes₀ joined₀ arrays),
        sums_refused s least₀ joined₀ sums₀ e (sums_size sums₀ blank.1),
      )

  pub nothing_read : None ≡ record_at s 0 → Decodes s least₀ kinds₀ classes₀ joined₀ None × SumsKept s least₀ joined₀ sums₀
  nothing_read read = refused (unfold accepted in rw (← none_in s 0 read))

module _ (s : List ℕ) (at : ℕ) (head : Record) (least₀ kinds₀ classes₀ joined₀ sums₀ : List ℕ) (after : AfterHead s at head)
    (blank : Blank s least₀ kinds₀ classes₀ joined₀ × (sums₀ ≡ replicate (2 * max_nodes) 0)) where
  is-item : (i : Record) → head ≡ i → item_in s ≡ Some i
  is-item i e = sym (item_is s 0 (record { next = at; item = head }) after.read) ∙ ap Some e

  pub no_head : ((n m g : ℕ) → head ≡ Head n m g → ⊥) → Decodes s least₀ kinds₀ classes₀ joined₀ None × SumsKept s least₀ joined₀ sums₀
  no_head h = refused s least₀ kinds₀ classes₀ joined₀ sums₀ blank (by_kind head refl)
    where
      by_kind : (i : Record) → head ≡ i → false ≡ accepted s
      by_kind (Head n m g) e = absurd (h n m g e)
      by_kind (Group x y z) e = sym (unfold accepted in rw (is-item (Group x y z) e))
      by_kind (Superedge x y) e = sym (unfold accepted in rw (is-item (Superedge x y) e))
      by_kind End e = sym (unfold accepted in rw (is-item End e))

  module _ (n m g : ℕ) (is : head ≡ Head n m g) where
    by_head : accepted s ≡ (counts_fit n m g && body_fits s n m g)
    by_head = unfold accepted in rw (is-item (Head n m g) is)

    numbers : (8 ≤ length s) × (n ≡ u16_at s 2) × (m ≡ u16_at s 4) × (g ≡ u16_at s 6)
    numbers = fits_at s 0 (record { next = at; item = head }) after.read (Head n m g) is

    pub after_head : at ≡ 8
    after_head = unfold size_of in (next_is s 0 (record { next = at; item = head }) after.read ∙ ap (λ (x : Record). 0 + size_of x) is)

    -- the head's nodes have rows
    pub head_room : n ≤ max_nodes → StripsFor n (length joined₀)
    head_room small = subst (λ (k : ℕ). StripsFor k (length joined₀)) told (blank.0.rows.room (omega (arith, told)))
      where
        told : nodes_in s ≡ n
        told = sym (numbers.1 ∙ nodes-told s numbers.0)

    pub wrong_size_lem : false ≡ counts_fit n m g → Decodes s least₀ kinds₀ classes₀ joined₀ None × SumsKept s least₀ joined₀ sums₀
    wrong_size_lem e = refused s least₀ kinds₀ classes₀ joined₀ sums₀ blank (sym (by_head ∙ rw (← e)))

    module _ (fits : true ≡ counts_fit n m g) (least kinds classes joined sums : List ℕ) (b : Bool) (body : BodyRead s n m g least kinds classes joined sums b) where
      by-body : accepted s ≡ b
      by-body = by_head ∙ rw (← fits) (sym body.result)

      pub wrong_body : b ≡ false → Decodes s least kinds classes joined None × SumsKept s least joined sums
      wrong_body e = (decode_refused s least kinds classes joined (sym (by-body ∙ e)) body.nodes body.groups body.labels, sums_refused s least joined sums (sym (by-body ∙ e)) body.size)

      sums-graph : b ≡ true → SumsKept s least joined sums
      sums-graph e = record { size = body.size; cubed = λ t. rw (← numbers.1) (body.cubed e); summed = λ t. rw (← numbers.1) (body.summed e) }

      pub decode-graph : b ≡ true → Decodes s least kinds classes joined (Some n) × SumsKept s least joined sums
      decode-graph e = (decodes, sums-graph e)
        where
          decodes : Decodes s least kinds classes joined (Some n)
          decodes = record {
            result = sym (unfold decoded in rw (by-body, e, ← numbers.1));
            nodes = body.nodes;
            groups = body.groups;
            labels = body.labels;
            rows = λ t. rw (← numbers.1) body.rows;
            told = λ t. unfold told_groups told_superedges groups_from bytes_after in rw (← numbers.3) (body.told e);
          }
