-- The program's input is small, and its release fits the program's buffer.
use Rattle.std.specs.Prelude.{◌≡◌, true, false, not, ◌||◌, cond, List, [], ◌∷◌, ◌⊎◌, ℕ, suc, ◌-◌, ◌≤◌, eqb, ltb, leb, length}
use Rattle.std.proofs.Common.{ap, inl, inr, arith, ltb-false, leb-true}
use Rattle.std.proofs.lemmas.Bool.{not-false}
use Rattle.model.specs.Lists.{nodes}
use Rattle.model.specs.Graph.{empty_graph, max_nodes, max_updates}
use Rattle.model.specs.Updates.{Update, batch_graph}
use Rattle.model.specs.Release.{release}
use Rattle.model.specs.Program.{Input, Line, accepted, change, first_line, ill_formed, input_of, is_count, is_none, is_number, line_of, lines_from, max_bytes, pieces, refused_at, value_of, with_line, with_update}
use Rattle.model.proofs.TestLaws.{and_snd, decide, or_none}
use Rattle.model.proofs.UpdateLaws.{proper_batch, proper_empty}
use Rattle.model.proofs.EdgeLaws.{edge_count, edge_count_batch, release-le}

-- refused input is not accepted
refused_not : {X : Type 0} (k n : ℕ) (cs : List Update) → refused_at k ≡ accepted n cs → X
refused_not k n cs h = let z : ◌≡◌ {A = ℕ} 0 1 = cc in absurd (omega arith)

-- an accepted line: it is not past the 4,097th, and the lines after it are accepted too
abbrev TakenLines : ℕ → Input → ℕ → List Update → Type 0
TakenLines k rest n cs = (k ≤ suc max_updates) × (c : Update) × (ds : List Update) × (rest ≡ accepted n ds) × (cs ≡ c ∷ ds)

line_accepted : (k : ℕ) (x : Line) (rest : Input) (n : ℕ) (cs : List Update) → with_line k x rest ≡ accepted n cs → TakenLines k rest n cs
unfolding with_line with_update
line_accepted k ill_formed rest n cs h = refused_not k n cs h
line_accepted k (change c) rest n cs h = step rest (decide (ltb (suc max_updates) k)) h
  where
    step : (r : Input) → (ltb (suc max_updates) k ≡ true) ⊎ (ltb (suc max_updates) k ≡ false) → cond (ltb (suc max_updates) k) (refused_at k) (with_update c r) ≡ accepted n cs → TakenLines k r n cs
    step r (inl t) e = refused_not k n cs (rw t at e)
    step (refused_at j) (inr t) e = refused_not j n cs (rw t at e)
    step (accepted m ds) (inr t) e = let q : accepted m (c ∷ ds) ≡ accepted n cs = rw t at e in (ltb-false (suc max_updates) k t, c, ds, cc, cc)

-- what the lines from line k on hold: line 2 is the first change, line 4,097 the last
abbrev SmallBatch : ℕ → ℕ → ℕ → List Update → Type 0
SmallBatch m k n cs = (m ≡ n) × (length cs ≤ suc (suc max_updates) - k)

none_small : (m k n : ℕ) (cs : List Update) → accepted m [] ≡ accepted n cs → SmallBatch m k n cs
none_small m k n cs h = let q : cs ≡ [] = cc in (cc, omega (arith, ap length q))

lines_small : (ls : List (List ℕ)) (m k n : ℕ) (cs : List Update) → lines_from m k ls ≡ accepted n cs → SmallBatch m k n cs
unfolding lines_from
lines_small [] m k n cs h = none_small m k n cs h
lines_small (l ∷ ls) m k n cs h = step (lines_small ls m (suc k) n) (decide (is_none ls)) (decide (eqb (length l) 0)) h
  where
    Below : Type 0
    Below = (ds : List Update) → lines_from m (suc k) ls ≡ accepted n ds → SmallBatch m (suc k) n ds

    more : Below → with_line k (line_of l) (lines_from m (suc k) ls) ≡ accepted n cs → SmallBatch m k n cs
    more below e =
        let a = line_accepted k (line_of l) (lines_from m (suc k) ls) n cs e in
        let b = below a.2 a.3 in
        (b.0, omega (arith, a.0, b.1, ap length a.4))

    step : Below → (is_none ls ≡ true) ⊎ (is_none ls ≡ false) → (eqb (length l) 0 ≡ true) ⊎ (eqb (length l) 0 ≡ false)
        → cond (is_none ls) (cond (eqb (length l) 0) (accepted m []) (refused_at k)) (with_line k (line_of l) (lines_from m (suc k) ls)) ≡ accepted n cs → SmallBatch m k n cs
    step below (inl s) (inl t) e = none_small m k n cs (rw (s, t) at e)
    step below (inl s) (inr t) e = refused_not k n cs (rw (s, t) at e)
    step below (inr s) t e = more below (rw s at e)

first_small : (ls : List (List ℕ)) (n : ℕ) (cs : List Update) → first_line ls ≡ accepted n cs → (n ≤ max_nodes) × (length cs ≤ max_updates)
unfolding first_line is_count
first_small [] n cs h = refused_not 1 n cs h
first_small (l ∷ ls) n cs h = step (decide (is_none ls || not (is_count l))) h
  where
    step : ((is_none ls || not (is_count l)) ≡ true) ⊎ ((is_none ls || not (is_count l)) ≡ false) → cond (is_none ls || not (is_count l)) (refused_at 1) (lines_from (value_of 0 l) 2 ls) ≡ accepted n cs → (n ≤ max_nodes) × (length cs ≤ max_updates)
    step (inl t) e = refused_not 1 n cs (rw t at e)
    step (inr t) e =
        let a = lines_small ls (value_of 0 l) 2 n cs (rw t at e) in
        let b = not-false (is_count l) (or_none (is_none ls) (not (is_count l)) t).1 in
        (omega (arith, a.0, leb-true (value_of 0 l) max_nodes (and_snd (is_number l) (leb (value_of 0 l) max_nodes) b)), omega (arith, a.1))

pub input_small : (bytes : List ℕ) (n : ℕ) (cs : List Update) → input_of bytes ≡ accepted n cs → (n ≤ max_nodes) × (length cs ≤ max_updates)
unfolding input_of
input_small bytes n cs h = step (decide (ltb max_bytes (length bytes))) h
  where
    step : (ltb max_bytes (length bytes) ≡ true) ⊎ (ltb max_bytes (length bytes) ≡ false) → cond (ltb max_bytes (length bytes)) (refused_at 0) (first_line (pieces 0x0A bytes)) ≡ accepted n cs → (n ≤ max_nodes) × (length cs ≤ max_updates)
    step (inl t) e = refused_not 0 n cs (rw t at e)
    step (inr t) e = first_small (pieces 0x0A bytes) n cs (rw t at e)

-- every release that 4,096 updates of a new graph can lead to
pub fits : (n : ℕ) (cs : List Update) → n ≤ max_nodes → length cs ≤ max_updates → length (release (batch_graph (empty_graph n) cs)) ≤ max_bytes
unfolding empty_graph
fits n cs small few =
    let p = proper_batch cs (empty_graph n) (proper_empty n small) in
    let count : (batch_graph (empty_graph n) cs).node_count ≡ n = p.1 in
    omega (
      arith,
      release-le (batch_graph (empty_graph n) cs) p.0,
      ap (λ (k : ℕ). edge_count (batch_graph (empty_graph n) cs).edge (nodes k)) count,
      edge_count_batch n cs,
    )

pub program_fits : (bytes : List ℕ) (n : ℕ) (cs : List Update) → input_of bytes ≡ accepted n cs → length (release (batch_graph (empty_graph n) cs)) ≤ max_bytes
program_fits bytes n cs h = let s = input_small bytes n cs h in fits n cs s.0 s.1
