-- Laws of the records.
use Rattle.std.specs.Prelude.{◌≡◌, refl, Bool, true, false, cond, List, [], ◌∷◌, ◌++◌, ℕ, suc, zero, ◌+◌, ◌*◌, ◌/◌, ◌%◌, ◌≤◌, ◌<◌, ltb, length, get_or, set}
use Rattle.std.proofs.Common.{sym, ap, ◌∙◌, append_assoc, arith, add-one, eq-eqb, ne_eqb, lt-ltb, le-ltb}
use Rattle.model.specs.Lists.{concat, head_or}
use Rattle.model.specs.Tables.{edge_bit}
use Rattle.model.specs.Release.{head_record, superedge_record, u16}
use Rattle.model.proofs.ReleaseLaws.{length-u16s}
use Rattle.rows.specs.Rows.{leads}
use Rattle.buffers.specs.Wrote.{Left, Wrote}
use Rattle.buffers.specs.WroteLaws.{left_done, left_put, left_room, left_start, left_step, wrote_before, wrote_length, wrote_then}
use Rattle.buffers.specs.Scan.{flat, scan}
use Rattle.buffers.specs.ScanLaws.{flat_step, scan-length, scan_yes}
use Rattle.layout.specs.File.{chain, first_two, group_bytes, group_mark, in_group, later, superedge_between, u16_bytes}

pub wrote_two : (s : List ℕ) (at a b : ℕ) → Wrote s at (a ∷ b ∷ []) (set (set s at a) (at + 1) b) (at + 2)
wrote_two s at a b = record { bytes = rw (add-one at); place = refl }

pub wrote_u16 : (s : List ℕ) (at v : ℕ) → Wrote s at (u16 v) (set (set s at (v % 256)) (at + 1) (v / 256)) (at + 2)
unfolding u16
wrote_u16 s at v = wrote_two s at (v % 256) (v / 256)

pub length-u16 : (v : ℕ) → length (u16 v) ≡ 2
unfolding u16
length-u16 v = refl

pub length_superedge : (i j : ℕ) → length (superedge_record (i, j)) ≡ 6
unfolding superedge_record u16
length_superedge i j = refl

-- the records in steps
pub head_steps : (n m g : ℕ) → head_record n m g ≡ (((0x48 ∷ 0x44 ∷ []) ++ u16 n) ++ u16 m) ++ u16 g
unfolding head_record u16
head_steps n m g = refl

pub superedge_steps : (i j : ℕ) → superedge_record (i, j) ≡ ((0x53 ∷ 0x45 ∷ []) ++ u16 i) ++ u16 j
unfolding superedge_record u16
superedge_steps i j = refl

pub wrote_head : (n m g : ℕ) {s : List ℕ} {at : ℕ} {s₁ : List ℕ} {a : ℕ} {s₂ : List ℕ} {b : ℕ} {s₃ : List ℕ} {c : ℕ} {s₄ : List ℕ} {d : ℕ}
    → Wrote s at (0x48 ∷ 0x44 ∷ []) s₁ a → Wrote s₁ a (u16 n) s₂ b → Wrote s₂ b (u16 m) s₃ c → Wrote s₃ c (u16 g) s₄ d → Wrote s at (head_record n m g) s₄ d
wrote_head n m g p q r t = rw (head_steps n m g) (wrote_then (wrote_then (wrote_then p q) r) t)

pub wrote_superedge : (i j : ℕ) {s : List ℕ} {at : ℕ} {s₁ : List ℕ} {a : ℕ} {s₂ : List ℕ} {b : ℕ} {s₃ : List ℕ} {c : ℕ}
    → Wrote s at (0x53 ∷ 0x45 ∷ []) s₁ a → Wrote s₁ a (u16 i) s₂ b → Wrote s₂ b (u16 j) s₃ c → Wrote s at (superedge_record (i, j)) s₃ c
wrote_superedge i j p q r = rw (superedge_steps i j) (wrote_then (wrote_then p q) r)

-- members, by the table of next members
u16s_cons : (q : ℕ) (l : List ℕ) → u16_bytes (q ∷ l) ≡ u16 q ++ u16_bytes l
unfolding u16_bytes concat
u16s_cons q l = refl

pub record MembersLeft (s₀ : List ℕ) (at₀ : ℕ) (next : List ℕ) (n first : ℕ) (s : List ℕ) (at q : ℕ) : Type 0 where
  pub fuel : ℕ
  pub enough : n ≤ q + fuel
  pub left : Left s₀ at₀ (u16_bytes (chain n next n first)) s at (u16_bytes (chain fuel next n q))

pub members_start : (s : List ℕ) (at : ℕ) (next : List ℕ) (n first : ℕ) → MembersLeft s at next n first s at first
members_start s at next n first = record { fuel = n; enough = omega arith; left = left_start s at _ }

chain_on : (k : ℕ) (next : List ℕ) (n q : ℕ) → q < n → chain (suc k) next n q ≡ q ∷ chain k next n (get_or next q 0)
unfolding chain
chain_on k next n q h = rw (lt-ltb q n h)

chain_off : (k : ℕ) (next : List ℕ) (n q : ℕ) → n ≤ q → chain k next n q ≡ []
unfolding chain
chain_off zero next n q h = refl
chain_off (suc k) next n q h = rw (le-ltb q n h)

pub chain_length : (k : ℕ) (next : List ℕ) (n q : ℕ) → length (chain k next n q) ≤ k
unfolding chain
chain_length zero next n q = omega arith
chain_length (suc k) next n q = step (ltb q n) (chain_length k next n (get_or next q 0))
  where
    step : (b : Bool) → length (chain k next n (get_or next q 0)) ≤ k → length (cond b (q ∷ chain k next n (get_or next q 0)) []) ≤ suc k
    step true h = omega arith
    step false h = omega arith

members_u16s : (k : ℕ) (next : List ℕ) (n q : ℕ) → q < n → u16_bytes (chain (suc k) next n q) ≡ u16 q ++ u16_bytes (chain k next n (get_or next q 0))
members_u16s k next n q h = ap u16_bytes (chain_on k next n q h) ∙ u16s_cons q _

pub members_room : {s₀ : List ℕ} {at₀ : ℕ} {next : List ℕ} {n first : ℕ} {s : List ℕ} {at q : ℕ} → MembersLeft s₀ at₀ next n first s at q → q < n → at₀ + length (u16_bytes (chain n next n first)) ≤ length s₀ → at + 2 ≤ length s
members_room {s₀} {at₀} {next} {n} {first} {s} {at} {q} m h room = go m.fuel m.enough m.left
  where
    go : (k : ℕ) → n ≤ q + k → Left s₀ at₀ (u16_bytes (chain n next n first)) s at (u16_bytes (chain k next n q)) → at + 2 ≤ length s
    go zero e l = absurd (omega arith)
    go (suc k) e l = omega (arith, left_room l room (u16 q) _ (members_u16s k next n q h), length-u16 q)

pub members_step : {s₀ : List ℕ} {at₀ : ℕ} {next : List ℕ} {n first : ℕ} {s : List ℕ} {at q : ℕ} {t : List ℕ} {to : ℕ} → MembersLeft s₀ at₀ next n first s at q → q < n → q < get_or next q 0 → Wrote s at (u16 q) t to → MembersLeft s₀ at₀ next n first t to (get_or next q 0)
members_step {s₀} {at₀} {next} {n} {first} {s} {at} {q} {t} {to} m h up w = go m.fuel m.enough m.left
  where
    go : (k : ℕ) → n ≤ q + k → Left s₀ at₀ (u16_bytes (chain n next n first)) s at (u16_bytes (chain k next n q)) → MembersLeft s₀ at₀ next n first t to (get_or next q 0)
    go zero e l = absurd (omega arith)
    go (suc k) e l = record { fuel = k; enough = omega arith; left = left_step l w (members_u16s k next n q h) }

pub members_done : {s₀ : List ℕ} {at₀ : ℕ} {next : List ℕ} {n first : ℕ} {s : List ℕ} {at q : ℕ} → MembersLeft s₀ at₀ next n first s at q → n ≤ q → Wrote s₀ at₀ (u16_bytes (chain n next n first)) s at
unfolding u16_bytes concat
members_done {next = next} {n = n} {q = q} m h = left_done m.left (ap u16_bytes (chain_off m.fuel next n q h))

-- one group
two_edge : (e : ℕ → ℕ → Bool) (next : List ℕ) (n l : ℕ) → l < n → l < get_or next l 0 → get_or next l 0 < n → first_two e (chain n next n l) ≡ e l (get_or next l 0)
unfolding first_two
two_edge e next zero l h u k = absurd (omega arith)
two_edge e next (suc zero) l h u k = absurd (omega arith)
two_edge e next (suc (suc n)) l h u k = rw (chain_on (suc n) next (suc (suc n)) l h, chain_on n next (suc (suc n)) (get_or next l 0) k)

pub clique_is : (edges next : List ℕ) (n l second : ℕ) {b : Bool} → second ≡ get_or next l 0 → l < n → l < get_or next l 0 → second < n → b ≡ edge_bit edges l second → b ≡ first_two (edge_bit edges) (chain n next n l)
clique_is edges next n l second q h u k t = t ∙ ap (edge_bit edges l) q ∙ sym (two_edge (edge_bit edges) next n l h u (omega arith))

pub one_alone : (e : ℕ → ℕ → Bool) (next : List ℕ) (n l : ℕ) → l < n → n ≤ get_or next l 0 → first_two e (chain n next n l) ≡ false
unfolding first_two
one_alone e next zero l h k = absurd (omega arith)
one_alone e next (suc n) l h k = rw (chain_on n next (suc n) l h, chain_off n next (suc n) (get_or next l 0) k)

pub length_members : (l : List ℕ) → length (u16_bytes l) ≡ 2 * length l
unfolding u16_bytes
length_members l = length-u16s l

pub length-group : (e : ℕ → ℕ → Bool) (classes g : List ℕ) → length (group_bytes e classes g) ≡ 6 + 2 * length g
unfolding group_bytes u16
length-group e classes g = omega (arith, length_members g)

-- a group starts with its least member
pub chain_head : (next : List ℕ) (n l : ℕ) → l < n → head_or 0 (chain n next n l) ≡ l
chain_head next zero l h = absurd (omega arith)
chain_head next (suc n) l h = rw (chain_on n next (suc n) l h)

-- the members first, then the mark, the count and the class before them
pub wrote_group : (e : ℕ → ℕ → Bool) (classes g : List ℕ) {s : List ℕ} {at : ℕ} {s₁ : List ℕ} {to : ℕ} {c : Bool} {s₂ : List ℕ} {a k : ℕ} {s₃ : List ℕ} {b l w : ℕ} {s₄ : List ℕ} {d : ℕ}
    → Wrote s (at + 6) (u16_bytes g) s₁ to → c ≡ first_two e g → Wrote s₁ at (group_mark c) s₂ a → k ≡ length g → Wrote s₂ a (u16 k) s₃ b → head_or 0 g ≡ l → w ≡ get_or classes l 0 → Wrote s₃ b (u16 w) s₄ d → Wrote s at (group_bytes e classes g) s₄ to
unfolding group_bytes
wrote_group e classes g {s} {at} {s₁} {to} {c} {s₂} {a} {k} {s₃} {b} {l} {w} {s₄} {d} m q h count v first class x =
    let head : Wrote s₁ at (group_mark c ++ (u16 k ++ u16 w)) s₄ d = wrote_then h (wrote_then v x) in
    let there : d ≡ at + 6 = omega (arith, x.place, v.place, h.place, length-u16 k, length-u16 w) in
    rw (← q, ← count, first, ← class) (rw (append_assoc (group_mark c) (u16 k ++ u16 w) (u16_bytes g), append_assoc (u16 k) (u16 w) (u16_bytes g)) at (wrote_before m (rw there at head)))

-- where the members end
pub members_end : (g : List ℕ) (at : ℕ) {s t : List ℕ} {to : ℕ} → Wrote s (at + 6) (u16_bytes g) t to → to ≡ at + 6 + 2 * length g
members_end g at w = omega (arith, w.place, length_members g)

-- tests of the code
pub in_group_yes : (least : List ℕ) (n p w : ℕ) → w ≡ get_or least p 0 → w < n → in_group least n p ≡ true
unfolding in_group
in_group_yes least n p w e h = lt-ltb (get_or least p 0) n (omega arith)

pub in_group_no : (least : List ℕ) (n p w : ℕ) → w ≡ get_or least p 0 → n ≤ w → in_group least n p ≡ false
unfolding in_group
in_group_no least n p w e h = le-ltb (get_or least p 0) n (omega arith)

pub leads_yes : (least : List ℕ) (p w : ℕ) → w ≡ get_or least p 0 → w ≡ p → leads least p ≡ true
unfolding leads
leads_yes least p w e h = eq-eqb (get_or least p 0) p (omega arith)

pub leads_no : (least : List ℕ) (p w : ℕ) → w ≡ get_or least p 0 → (w ≡ p → ⊥) → leads least p ≡ false
unfolding leads
leads_no least p w e h = ne_eqb (get_or least p 0) p (λ k. h (omega arith))

-- leaders put into a list
pub collect_yes : (least : List ℕ) (n p : ℕ) {s₀ : List ℕ} {s : List ℕ} {g : ℕ} → Left s₀ 0 (scan (leads least) n 0) s g (scan (leads least) n p) → p < n → leads least p ≡ true → Left s₀ 0 (scan (leads least) n 0) (set s g p) (g + 1) (scan (leads least) n (p + 1))
collect_yes least n p l h t = left_put l (scan_yes (leads least) n p h t)

pub later-length : (e : ℕ → ℕ → Bool) (ls : List ℕ) (i : ℕ) → length (later e ls i) ≤ length ls
unfolding later
later-length e ls i = omega (arith, scan-length (superedge_between e ls i) (length ls) (i + 1))

-- room for the parts of a group
pub room_members : (e : ℕ → ℕ → Bool) (classes g : List ℕ) (at : ℕ) {k : ℕ} → at + length (group_bytes e classes g) ≤ k → at + 6 + length (u16_bytes g) ≤ k
room_members e classes g at h = omega (arith, length-group e classes g, length_members g)

pub room_mark : (e : ℕ → ℕ → Bool) (classes g : List ℕ) (at : ℕ) {s : List ℕ} {x : ℕ} {bs t : List ℕ} {y : ℕ} → at + length (group_bytes e classes g) ≤ length s → Wrote s x bs t y → at + 2 ≤ length t
room_mark e classes g at h w = omega (arith, length-group e classes g, wrote_length w)

module _ (e : ℕ → ℕ → Bool) (classes g : List ℕ) {at : ℕ} {s : List ℕ} {x : ℕ} {bs t : List ℕ} {y : ℕ} (c : Bool) {u : List ℕ} {a : ℕ} (h : at + length (group_bytes e classes g) ≤ length s) (w : Wrote s x bs t y) (v : Wrote t at (group_mark c) u a) where
  pub room_count : a + 2 ≤ length u
  room_count = omega (arith, length-group e classes g, wrote_length w, wrote_length v, v.place)

  pub room_class : (k : ℕ) {r : List ℕ} {b : ℕ} → Wrote u a (u16 k) r b → b + 2 ≤ length r
  room_class k p = omega (arith, length-group e classes g, wrote_length w, wrote_length v, v.place, p.place, wrote_length p, length-u16 k)

pub members_few : (next : List ℕ) (n l at : ℕ) {s : List ℕ} {t : List ℕ} {to : ℕ} → n ≤ 512 → Wrote s (at + 6) (u16_bytes (chain n next n l)) t to → to ≤ at + 1030
members_few next n l at h w = omega (arith, members_end (chain n next n l) at w, chain_length n next n l)

pub later_small : (e : ℕ → ℕ → Bool) (ls : List ℕ) (i : ℕ) {k : ℕ} → length ls ≤ 512 → k ≡ length (later e ls i) → k ≤ 512
later_small e ls i h q = omega (arith, later-length e ls i)

-- a run of records, one for each number
pub flat_room : (f : ℕ → List ℕ) (n p : ℕ) {s₀ : List ℕ} {at₀ : ℕ} {all s : List ℕ} {at : ℕ} → Left s₀ at₀ all s at (flat f n p) → at₀ + length all ≤ length s₀ → p < n → at + length (f p) ≤ length s
flat_room f n p l room h = left_room l room (f p) (flat f n (p + 1)) (flat_step f n p h)

pub flat_more : (f : ℕ → List ℕ) (n p : ℕ) {s₀ : List ℕ} {at₀ : ℕ} {all s : List ℕ} {at : ℕ} {t : List ℕ} {to : ℕ} → Left s₀ at₀ all s at (flat f n p) → p < n → Wrote s at (f p) t to → Left s₀ at₀ all t to (flat f n (p + 1))
flat_more f n p l h w = left_step l w (flat_step f n p h)
