-- Further laws of these definitions, which no proof here cites.
use Rattle.std.specs.Prelude.{◌≡◌, refl, true, false, List, ℕ, ◌+◌, ◌*◌, ◌/◌, ◌≤◌, ◌<◌, leb, length}
use Rattle.std.proofs.Common.{mul-le-mul, arith}
use borrow.Author.Tests.{eq-eqb, ne_eqb, le-leb, lt-leb, lt-ltb}
use Rattle.model.specs.Graph.{max_nodes}
use Rattle.compressed.specs.Compressed.{clique, independent, kind_marked, single}
use Rattle.reader.specs.Decoding.{counts_fit, is_few, least_count, nodes_in}

-- the nodes that the head tells
pub no_nodes : (s : List ℕ) → length s < 8 → 0 ≡ nodes_in s
unfolding nodes_in
no_nodes s l = rw (lt-ltb (length s) 8 l)

-- the numbers of the head, tested one after the other
pub too_many : (n m g : ℕ) → 512 < n → false ≡ counts_fit n m g
unfolding counts_fit
too_many n m g l = rw (lt-leb n 512 l)

pub too_visible : (n m g : ℕ) → n ≤ 512 → n < m → false ≡ counts_fit n m g
unfolding counts_fit
too_visible n m g l h = rw (le-leb n 512 l, lt-leb m n h)

pub by_groups : (n m g : ℕ) → n ≤ 512 → m ≤ n → leb g m ≡ counts_fit n m g
unfolding counts_fit
by_groups n m g l h = rw (le-leb n 512 l, le-leb m n h)

-- the kind and the least count of a group
pub kind_clique : (count : ℕ) → clique ≡ kind_marked true count
unfolding kind_marked
kind_clique count = refl

pub kind_single : (count : ℕ) → count ≡ 1 → single ≡ kind_marked false count
unfolding kind_marked
kind_single count e = rw (eq-eqb count 1 e)

pub kind_independent : (count : ℕ) → (count ≡ 1 → ⊥) → independent ≡ kind_marked false count
unfolding kind_marked
kind_independent count h = rw (ne_eqb count 1 h)

pub least-clique : 2 ≡ least_count true
unfolding least_count
least-clique = refl

pub least_other : 1 ≡ least_count false
unfolding least_count
least_other = refl

-- few superedges, or many
pub few_bound : (w n : ℕ) → w ≤ 8 → n ≤ max_nodes → (8 + 24 * w) * n ≤ 200 * max_nodes
few_bound w n h l = let k : 8 + 24 * w ≤ 200 = omega arith in mul-le-mul k l

pub few_is : (bytes n w : ℕ) → w ≡ (n + 63) / 64 → leb bytes (384 + (8 + 24 * w) * n) ≡ is_few bytes n
unfolding is_few
few_is bytes n w e = rw e
