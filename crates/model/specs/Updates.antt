-- Document 01, "Sheets": updates (changes), their refusals and effects, the answers, and batches (sheets) of them.
use Rattle.std.specs.Prelude.{◌≡◌, Bool, true, false, not, ◌&&◌, ◌||◌, cond, ℕ, ◌%◌, ◌/◌, eqb, ltb, length, take, ℤ, pos, nat_abs}
use mathlib.Core.List.{List, [], ◌∷◌, Memᴰ}
use Rattle.std.proofs.Math.IntN.{sub_ℕ}
use Rattle.model.specs.Graph.{Graph, max_classes, max_updates, whole}
use Rattle.model.specs.Grouping.{algorithm1}
use Rattle.model.specs.Refusals.{Reasons, first_of, judged}
use Rattle.model.specs.Steps.{Stepped, run}

-- kinds: 1 the edge (tie) between u and v, 2 u's mark, where v is 0; wanted is 1 for tied or withheld, 0 for not; 3 u's class,
-- where v is the class and wanted is 0
pub record Update : Type 0 where
  pub kind : ℕ
  pub u : ℕ
  pub v : ℕ
  pub wanted : ℕ

-- about the edge between u and v, about u's mark, about u's class
abbrev pub on_edge : Update → Bool
on_edge c = eqb c.kind 1

abbrev pub on_mark : Update → Bool
on_mark c = eqb c.kind 2

abbrev pub on_class : Update → Bool
on_class c = eqb c.kind 3

-- what is to hold: the class, or 1 if the edge is to be there, or u to be hidden
abbrev pub asked : Update → ℕ
asked c = cond (on_class c) c.v c.wanted

-- what holds, in the number that it is asked by
abbrev pub there : Graph → Update → ℕ
there g c = cond (on_class c) (g.class c.u) (cond (cond (on_edge c) (g.edge c.u c.v) (g.hidden c.u)) 1 0)

-- numbers that say nothing: a class above 255, a wanted above 1, or other than 0 for a class; one node twice, or a v for a mark
abbrev pub wrong_value : Update → Bool
wrong_value c =
    cond (on_class c) (not (ltb c.v max_classes) || not (eqb c.wanted 0))
    (ltb 1 c.wanted || cond (on_edge c) (eqb c.u c.v) (not (eqb c.v 0)))

-- about the edge between u and v where one of the two is hidden: such edges are frozen
abbrev pub is_frozen : Graph → Update → Bool
is_frozen g c = on_edge c && (g.hidden c.u || g.hidden c.v)

unfoldable pub update_reasons : Graph → Update → Reasons
update_reasons g c =
    (not (on_edge c || (on_mark c || on_class c)), 13)
    ∷ (not (ltb c.u g.node_count) || (on_edge c && not (ltb c.v g.node_count)), 14)
    ∷ (wrong_value c, 15)
    ∷ (is_frozen g c, 24)
    ∷ (eqb (there g c) (asked c), 16)
    ∷ []

unfoldable pub refusal : Graph → Update → ℕ
refusal g c = first_of (update_reasons g c)

-- p and q are the nodes u and v, in either order
abbrev pub is_pair : ℕ → ℕ → ℕ → ℕ → Bool
is_pair u v p q = (eqb p u && eqb q v) || (eqb p v && eqb q u)

-- an accepted update: what is asked holds after it
unfoldable pub updated : Graph → Update → Graph
updated g c = record {
  node_count = g.node_count;
  edge = λ p q. cond (on_edge c && is_pair c.u c.v p q) (eqb c.wanted 1) (g.edge p q);
  hidden = λ p. cond (on_mark c && eqb p c.u) (eqb c.wanted 1) (g.hidden p);
  class = λ p. cond (on_class c && eqb p c.u) c.v (g.class p);
}

-- the groups of the whole graph
unfoldable pub group_count : Graph → ℕ
group_count g = length (algorithm1 (whole g))

-- an update of a batch: the answer is the refusal's number, or the count of groups after it minus before
abbrev pub update_refused : Graph → ℕ → Stepped Graph ℤ
update_refused g r = record { outcome = pos r; after = g }

unfoldable pub update : Graph → Update → Stepped Graph ℤ
update g c =
    judged (update_reasons g c) (update_refused g)
    (record { outcome = sub_ℕ (group_count (updated g c)) (group_count g); after = updated g c })

abbrev pub answer : Graph → Update → ℤ
answer g c = (update g c).outcome

-- updates take effect in order; a refused one does not stop the batch
unfoldable pub batch_graph : Graph → List Update → Graph
batch_graph g cs = (run update g cs).after

unfoldable pub answers : Graph → List Update → List ℤ
answers g cs = (run update g cs).outcome

-- whoever is hidden before the batch is hidden after each of its updates
abbrev pub RevealsNobody : Graph → List Update → Type 0
RevealsNobody g cs = (p k : ℕ) → g.hidden p ≡ true → (batch_graph g (take k cs)).hidden p ≡ true

-- no update of the batch is of the class of a node that is hidden before it
abbrev pub LeavesClasses : Graph → List Update → Type 0
LeavesClasses g cs = (c : Update) → Memᴰ c cs → on_class c ≡ true → g.hidden c.u ≡ false

-- the number of a refused update, told by its answer; 0 for those of accepted updates, which are from -2 to 2
unfoldable pub refusal_in : ℤ → ℕ
refusal_in z = cond (ltb 2 (nat_abs z)) (nat_abs z) 0

-- a batch is lent as numbers, four for each update
abbrev pub update_numbers : ℕ
update_numbers = 4

unfoldable pub update_count : List ℕ → ℕ
update_count xs = length xs / update_numbers

unfoldable pub updates_in : List ℕ → List Update
updates_in [] = []
updates_in (k ∷ []) = []
updates_in (k ∷ (u ∷ [])) = []
updates_in (k ∷ (u ∷ (v ∷ []))) = []
updates_in (k ∷ (u ∷ (v ∷ (w ∷ rest)))) = record { kind = k; u = u; v = v; wanted = w } ∷ updates_in rest

-- 11: not in fours, or over 4,096 updates
unfoldable pub wrong_batch : List ℕ → Bool
wrong_batch xs = not (eqb (length xs % update_numbers) 0) || ltb max_updates (update_count xs)
