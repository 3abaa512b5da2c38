-- The whole file, its numbers and its length.
use Rattle.std.specs.Prelude.{◌≡◌, refl, Bool, true, false, List, [], ◌∷◌, ◌++◌, map, ◌⊎◌, ℕ, suc, zero, ◌+◌, ◌*◌, ◌≤◌, ◌<◌, get_or, take}
use Rattle.std.proofs.Common.{sym, ◌∙◌, inl, inr, length-append, lt-ltb, le-ltb}
use Rattle.std.proofs.Math.Path.{ap}
use native.Mathlib.Omega.{arith}
use Rattle.std.proofs.Math.ListN.{length}
use Rattle.std.proofs.lemmas.List.{length-map}
use Rattle.std.proofs.lemmas.List.Edits.{sets-eq}
use Rattle.std.proofs.Math.Seq.{take-append_seam}
use Rattle.model.specs.Lists.{concat}
use Rattle.model.specs.Tables.{edge_bit}
use Rattle.model.specs.Release.{end_record, head_record, superedge_record, u16}
use Rattle.model.specs.Calls.{onto, release_refused}
use Rattle.model.proofs.TestLaws.{decide}
use Rattle.rows.specs.Rows.{leads}
use Rattle.buffers.specs.Wrote.{Wrote}
use Rattle.buffers.specs.WroteLaws.{sets_onto, wrote_length, wrote_then}
use Rattle.buffers.specs.Scan.{flat, scan}
use Rattle.buffers.specs.ScanLaws.{flat_end, flat_step, scan_below, scan_end, scan-length, scan_no, scan_yes, upward}
use Rattle.layout.specs.File.{NextLinked, Partition, Rows, belongs, chain, file_groups, file_length, file_nodes, file_of, file_superedges, group_bytes, groups_bytes, in_group, later, leaders_of, members_of, superedge_bytes, superedge_total, superedges_to, visible_of, written_file}
use Rattle.layout.specs.FileLaws.{length-group, length_superedge}
use Rattle.layout.specs.LinkLaws.{chain-scan}

-- by number or by element
flat_shift : (f : ℕ → List ℕ) (n p : ℕ) → flat f (suc n) (suc p) ≡ flat (λ i. f (suc i)) n p
flat_shift f n = upward (λ p. flat f (suc n) (suc p) ≡ flat (λ i. f (suc i)) n p) n (λ p h. flat_end f (suc n) (suc p) (omega arith) ∙ sym (flat_end (λ i. f (suc i)) n p h)) step
  where
    step : (p : ℕ) → p < n → flat f (suc n) (suc (p + 1)) ≡ flat (λ i. f (suc i)) n (p + 1) → flat f (suc n) (suc p) ≡ flat (λ i. f (suc i)) n p
    step p h below =
        let e : suc p + 1 ≡ suc (p + 1) = omega arith in
        flat_step f (suc n) (suc p) (omega arith) ∙ ap (λ (x : ℕ). f (suc p) ++ flat f (suc n) x) e ∙ ap (λ (r : List ℕ). f (suc p) ++ r) below ∙ sym (flat_step (λ i. f (suc i)) n p h)

pub flat_list : (F : ℕ → List ℕ) (ls : List ℕ) → flat (λ i. F (get_or ls i 0)) (length ls) 0 ≡ concat (map F ls)
unfolding concat
flat_list F [] = flat_end (λ i. F (get_or [] i 0)) 0 0 (omega arith)
flat_list F (l ∷ ls) =
    flat_step (λ i. F (get_or (l ∷ ls) i 0)) (suc (length ls)) 0 (omega arith)
    ∙ ap (λ (r : List ℕ). F l ++ r) (flat_shift (λ i. F (get_or (l ∷ ls) i 0)) (length ls) 0 ∙ flat_list F ls)

pub flat_cong : (f g : ℕ → List ℕ) (n : ℕ) → ((i : ℕ) → i < n → f i ≡ g i) → (p : ℕ) → flat f n p ≡ flat g n p
flat_cong f g n h = upward (λ p. flat f n p ≡ flat g n p) n (λ p k. flat_end f n p k ∙ sym (flat_end g n p k)) (λ p k below. flat_step f n p k ∙ ap (λ (r : List ℕ). f p ++ r) below ∙ ap (λ (r : List ℕ). r ++ flat g n (p + 1)) (h p k) ∙ sym (flat_step g n p k))

-- a number in a scan passes
pub scan_passes : (P : ℕ → Bool) (n p i : ℕ) → i < length (scan P n p) → P (get_or (scan P n p) i 0) ≡ true
scan_passes P n = upward (λ p. (i : ℕ) → i < length (scan P n p) → P (get_or (scan P n p) i 0) ≡ true) n (λ p h i l. absurd (omega (arith, ap length (scan_end P n p h)))) (λ p h below. step p h below (decide (P p)))
  where
    cons : (p : ℕ) (l : List ℕ) → P p ≡ true → ((i : ℕ) → i < length l → P (get_or l i 0) ≡ true) → (i : ℕ) → i < suc (length l) → P (get_or (p ∷ l) i 0) ≡ true
    cons p l h f zero k = h
    cons p l h f (suc i) k = f i (omega arith)

    step : (p : ℕ) → p < n → ((i : ℕ) → i < length (scan P n (p + 1)) → P (get_or (scan P n (p + 1)) i 0) ≡ true) → (P p ≡ true) ⊎ (P p ≡ false) → (i : ℕ) → i < length (scan P n p) → P (get_or (scan P n p) i 0) ≡ true
    step p h below (inl t) = rw (scan_yes P n p h t) (cons p (scan P n (p + 1)) t below)
    step p h below (inr t) = rw (scan_no P n p h t) below

-- the table of next members gives the groups
pub groups_linked : (e : ℕ → ℕ → Bool) (classes : List ℕ) (n : ℕ) (least next : List ℕ) → n ≤ 512 → NextLinked n least next → groups_bytes e classes (chain n next n) (leaders_of n least) ≡ groups_bytes e classes (members_of n least) (leaders_of n least)
unfolding groups_bytes leaders_of members_of leads belongs
groups_linked e classes n least next small k = flat_cong _ _ (length (scan (leads least) n 0)) (λ i h. ap (group_bytes e classes) (chain-scan n least next small k _ (scan_below (leads least) n 0 i h) n _ (omega arith) (scan_below (leads least) n 0 i h) (scan_passes (leads least) n 0 i h))) 0

-- lengths
length_groups : (e : ℕ → ℕ → Bool) (classes : List ℕ) (gs : List (List ℕ)) → length (concat (map (group_bytes e classes) gs)) ≡ 6 * length gs + 2 * length (concat gs)
unfolding concat
length_groups e classes [] = refl
length_groups e classes (g ∷ gs) = omega (arith, length-append (group_bytes e classes g) (concat (map (group_bytes e classes) gs)), length-group e classes g, length_groups e classes gs, length-append g (concat gs))

pub length_to : (i : ℕ) (js : List ℕ) → length (superedges_to i js) ≡ 6 * length js
unfolding superedges_to concat
length_to i [] = refl
length_to i (j ∷ js) = omega (arith, length-append (superedge_record (i, j)) (concat (map (λ j. superedge_record (i, j)) js)), length_superedge i j, length_to i js)

length_super : (e : ℕ → ℕ → Bool) (ls : List ℕ) (p : ℕ) → length (flat (λ i. superedges_to i (later e ls i)) (length ls) p) ≡ 6 * length (flat (later e ls) (length ls) p)
length_super e ls = upward (λ p. length (flat (λ i. superedges_to i (later e ls i)) (length ls) p) ≡ 6 * length (flat (later e ls) (length ls) p)) (length ls)
    (λ p h. omega (arith, ap length (flat_end (λ i. superedges_to i (later e ls i)) (length ls) p h), ap length (flat_end (later e ls) (length ls) p h)))
    (λ p h below. omega (arith, below, ap length (flat_step (λ i. superedges_to i (later e ls i)) (length ls) p h), ap length (flat_step (later e ls) (length ls) p h), length-append (superedges_to p (later e ls p)) (flat (λ i. superedges_to i (later e ls i)) (length ls) (p + 1)), length-append (later e ls p) (flat (later e ls) (length ls) (p + 1)), length_to p (later e ls p)))

map-map : (f : List ℕ → List ℕ) (g : ℕ → List ℕ) (l : List ℕ) → map (λ x. f (g x)) l ≡ map f (map g l)
map-map f g [] = refl
map-map f g (x ∷ xs) = ap (λ (r : List (List ℕ)). f (g x) ∷ r) (map-map f g xs)

pub groups_list : (e : ℕ → ℕ → Bool) (classes : List ℕ) (members : ℕ → List ℕ) (ls : List ℕ) → groups_bytes e classes members ls ≡ concat (map (group_bytes e classes) (map members ls))
unfolding groups_bytes
groups_list e classes members ls = flat_list (λ l. group_bytes e classes (members l)) ls ∙ ap concat (map-map (group_bytes e classes) members ls)

pub length-groups_bytes : (e : ℕ → ℕ → Bool) (classes : List ℕ) (members : ℕ → List ℕ) (ls : List ℕ) → length (groups_bytes e classes members ls) ≡ 6 * length ls + 2 * length (concat (map members ls))
length-groups_bytes e classes members ls = omega (arith, ap length (groups_list e classes members ls), length_groups e classes (map members ls), length-map ls members)

pub length-superedges : (e : ℕ → ℕ → Bool) (ls : List ℕ) → length (superedge_bytes e ls) ≡ 6 * superedge_total e ls
unfolding superedge_bytes superedge_total
length-superedges e ls = length_super e ls 0

pub length_file : (n : ℕ) (least classes edges : List ℕ) → Partition n least edges → length (file_of n least classes edges) ≡ file_length n least edges
unfolding file_of file_length head_record u16 end_record file_superedges file_groups
length_file n least classes edges g =
    omega (
      arith,
      g.once,
      length-groups_bytes (edge_bit edges) classes (members_of n least) (leaders_of n least),
      length-superedges (edge_bit edges) (leaders_of n least),
      length-append (groups_bytes (edge_bit edges) classes (members_of n least) (leaders_of n least)) (superedge_bytes (edge_bit edges) (leaders_of n least) ++ end_record),
      length-append (superedge_bytes (edge_bit edges) (leaders_of n least)) end_record,
    )

-- what the code passes through, from the tables to the whole file
pub rows_of : {n : ℕ} {least edges ls : List ℕ} → Partition n least edges → ls ≡ leaders_of n least → Rows n edges ls
unfolding leaders_of
rows_of {n} {least} {edges} {ls} g q = record {
  small = g.small;
  rows = g.rows;
  few = omega (arith, ap length q, scan-length (leads least) n 0);
  below = λ i h. rw q (scan_below (leads least) n 0 i (omega (arith, ap length q)));
}

pub nodes_few : (n : ℕ) (least : List ℕ) → file_nodes n least ≤ n
unfolding file_nodes visible_of
nodes_few n least = omega (arith, scan-length (in_group least n) n 0)

pub length_head : (n m g : ℕ) → length (head_record n m g) ≡ 8
unfolding head_record u16
length_head n m g = refl

file_parts : (n : ℕ) (least classes edges : List ℕ) → length (file_of n least classes edges) ≡ 10 + length (groups_bytes (edge_bit edges) classes (members_of n least) (leaders_of n least)) + length (superedge_bytes (edge_bit edges) (leaders_of n least))
unfolding file_of head_record u16 end_record
file_parts n least classes edges =
    omega (
      arith,
      length-append (groups_bytes (edge_bit edges) classes (members_of n least) (leaders_of n least)) (superedge_bytes (edge_bit edges) (leaders_of n least) ++ end_record),
      length-append (superedge_bytes (edge_bit edges) (leaders_of n least)) end_record,
    )

pub room_head : (n : ℕ) (least classes edges : List ℕ) {k : ℕ} → length (file_of n least classes edges) ≤ k → 0 + 8 ≤ k
room_head n least classes edges h = omega (arith, file_parts n least classes edges)

pub groups_same : (n : ℕ) (least classes edges next ls : List ℕ) → Partition n least edges → NextLinked n least next → ls ≡ leaders_of n least
    → groups_bytes (edge_bit edges) classes (chain n next n) ls ≡ groups_bytes (edge_bit edges) classes (members_of n least) (leaders_of n least)
groups_same n least classes edges next ls g k q = ap (groups_bytes (edge_bit edges) classes (chain n next n)) q ∙ groups_linked (edge_bit edges) classes n least next g.small k

module _ (n : ℕ) (least classes edges next ls : List ℕ) (g : Partition n least edges) (k : NextLinked n least next) (q : ls ≡ leaders_of n least) (s : List ℕ) (room : length (file_of n least classes edges) ≤ length s) where
  module _ (m c : ℕ) {s₁ : List ℕ} {a : ℕ} (h : Wrote s 0 (head_record n m c) s₁ a) where
    pub room_groups : a + length (groups_bytes (edge_bit edges) classes (chain n next n) ls) ≤ length s₁
    room_groups = omega (arith, file_parts n least classes edges, h.place, wrote_length h, length_head n m c, ap length (groups_same n least classes edges next ls g k q))

    module _ {s₂ : List ℕ} {b : ℕ} (w : Wrote s₁ a (groups_bytes (edge_bit edges) classes (chain n next n) ls) s₂ b) where
      pub room_super : b + length (superedge_bytes (edge_bit edges) ls) ≤ length s₂
      room_super = omega (arith, file_parts n least classes edges, h.place, wrote_length h, length_head n m c, ap length (groups_same n least classes edges next ls g k q), w.place, wrote_length w, ap (λ (x : List ℕ). length (superedge_bytes (edge_bit edges) x)) q)

      module _ {s₃ : List ℕ} {d : ℕ} (v : Wrote s₂ b (superedge_bytes (edge_bit edges) ls) s₃ d) where
        pub room_end : d + 2 ≤ length s₃
        room_end = omega (arith, file_parts n least classes edges, h.place, wrote_length h, length_head n m c, ap length (groups_same n least classes edges next ls g k q), w.place, wrote_length w, v.place, wrote_length v, ap (λ (x : List ℕ). length (superedge_bytes (edge_bit edges) x)) q)

        pub wrote_file : m ≡ file_nodes n least → c ≡ length ls → {s₄ : List ℕ} {f : ℕ} → Wrote s₃ d (0x45 ∷ 0x4E ∷ []) s₄ f → Wrote s 0 (file_of n least classes edges) s₄ f
        unfolding file_of file_groups end_record
        wrote_file em ec t =
            let e₁ : c ≡ length (leaders_of n least) = ec ∙ ap length q in
            rw (← em, ← e₁, ← groups_same n least classes edges next ls g k q, ← q) (wrote_then h (wrote_then w (wrote_then v t)))

-- all that writing gives, from the numbers that the code has counted
pub length_is : (n : ℕ) (least edges : List ℕ) {g m s : ℕ} → g ≡ file_groups n least → m ≡ file_nodes n least → s ≡ file_superedges n least edges → 10 + 6 * g + 2 * m + 6 * s ≡ file_length n least edges
unfolding file_length
length_is n least edges eg em es = omega arith

module _ (n : ℕ) (least classes edges : List ℕ) {k : ℕ} (ek : k ≡ file_length n least edges) where
  pub room_is : {l : ℕ} → Partition n least edges → k ≤ l → length (file_of n least classes edges) ≤ l
  room_is t h = omega (arith, length_file n least classes edges t)

  pub refused : (out : List ℕ) → length out < k → release_refused out 18 ≡ written_file n least classes edges out
  unfolding written_file
  refused out h =
      let l : length out < file_length n least edges = omega arith in
      rw (lt-ltb (length out) (file_length n least edges) l)

  pub done : {g m s : ℕ} → g ≡ file_groups n least → m ≡ file_nodes n least → s ≡ file_superedges n least edges → (out : List ℕ) {t : List ℕ} {f : ℕ} → Partition n least edges → k ≤ length out → Wrote out 0 (file_of n least classes edges) t f
      → record { result = 0; nodes = m; groups = g; superedges = s; bytes = k; out = t } ≡ written_file n least classes edges out
  unfolding written_file
  done eg em es out {t} p h w =
      let l : file_length n least edges ≤ length out = omega arith in
      let b : t ≡ onto (file_of n least classes edges) out = w.bytes ∙ sets_onto (file_of n least classes edges) out (omega (arith, length_file n least classes edges p)) in
      rw (le-ltb (length out) (file_length n least edges) l) (rw (← eg, ← em, ← es, ← ek, b) refl)

pub leaders-taken : (n : ℕ) (least : List ℕ) {s t : List ℕ} {r : ℕ} → n ≤ length s → Wrote s 0 (scan (leads least) n 0) t r → take r t ≡ leaders_of n least
unfolding leaders_of
leaders-taken n least {s} {t} {r} h w =
    let e : r ≡ length (scan (leads least) n 0) = omega (arith, w.place) in
    rw (e, w.bytes, sets-eq (scan (leads least) n 0) s 0 (omega (arith, scan-length (leads least) n 0))) (take-append_seam (scan (leads least) n 0) _)

pub leaders_fit : (n : ℕ) (least : List ℕ) {s t : List ℕ} {r : ℕ} → Wrote s 0 (scan (leads least) n 0) t r → (r ≡ file_groups n least) × (r ≤ n)
unfolding leaders_of file_groups
leaders_fit n least w = (omega (arith, w.place), omega (arith, w.place, scan-length (leads least) n 0))

pub leaders_room : (n : ℕ) (least : List ℕ) {s t : List ℕ} {r : ℕ} → n ≤ length s → Wrote s 0 (scan (leads least) n 0) t r → r ≤ length t
leaders_room n least h w = omega (arith, (leaders_fit n least w).1, wrote_length w)

pub groups_length : (n : ℕ) (least : List ℕ) {g : ℕ} {ls : List ℕ} → g ≡ file_groups n least → ls ≡ leaders_of n least → g ≡ length ls
unfolding file_groups
groups_length n least e q = e ∙ sym (ap length q)

pub nodes-le : (n : ℕ) (least : List ℕ) {m : ℕ} → m ≡ file_nodes n least → m ≤ n
nodes-le n least e = omega (arith, nodes_few n least)

pub visible_fit : (n : ℕ) (least : List ℕ) {m : ℕ} → m ≡ length (scan (in_group least n) n 0) → m ≡ file_nodes n least
unfolding file_nodes visible_of
visible_fit n least e = e

pub superedges_counted : (n : ℕ) (least edges ls : List ℕ) {s : ℕ} → s ≡ superedge_total (edge_bit edges) ls → ls ≡ leaders_of n least → s ≡ file_superedges n least edges
unfolding file_superedges
superedges_counted n least edges ls e q = e ∙ ap (superedge_total (edge_bit edges)) q

pub taken-length : (n : ℕ) (least : List ℕ) {s t : List ℕ} {r : ℕ} → n ≤ length s → Wrote s 0 (scan (leads least) n 0) t r → r ≡ length (take r t)
unfolding leaders_of
taken-length n least h w = omega (arith, w.place, ap length (leaders-taken n least h w))
