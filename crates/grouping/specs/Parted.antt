-- Leaders of groups that could be one with none before them, chained by their rows.
use Rattle.std.specs.Prelude.{◌≡◌, ℕ, ◌+◌, ◌<◌, Bool, true, false, cond, not, ◌&&◌, ◌||◌, List, ◌==◌, slice_index}
use Rattle.model.specs.Lists.{all, nodes}
use Rattle.rows.specs.Rows.{leads}
use Rattle.compressed.specs.Compressed.{clique, independent, merges}
use Rattle.grouping.specs.declared.Leaders.{Leaders}
use Rattle.grouping.specs.Chains.{Chains, Links, slots}

-- the group that u leads, if it leads one, could be one with none before it
unfoldable pub apart_at : List ℕ → List ℕ → List ℕ → List ℕ → ℕ → Bool
apart_at least kinds classes joined u = not (leads least u) || all (nodes u) (λ q. not (leads least q && merges kinds classes joined u q))

-- a group's kind lets it be one with another by open rows, or by closed ones
unfoldable pub candidate : List ℕ → Bool → ℕ → Bool
candidate kinds closed q = not (slice_index kinds q == cond closed independent clique)

-- the leaders that are chained by open rows, or by closed ones
unfoldable pub chained : List ℕ → List ℕ → Bool → ℕ → Bool
chained least kinds closed q = leads least q && candidate kinds closed q

-- a candidate u has entered the chain of slot s, unless a leader there is its twin
pub record New (twin : ℕ → Bool) (candidate : Bool) (u s : ℕ) (t after : Leaders) (r : Bool) : Type 0 where
  pub hit : r ≡ false → (candidate ≡ true) × ((slot : ℕ → ℕ) (leads : ℕ → Bool) → slot u ≡ s → Chains slot leads u t → (q : ℕ) × (q < u) × (leads q ≡ true) × (twin q ≡ true))
  pub miss : r ≡ true → candidate ≡ true → (slot : ℕ → ℕ) (leads : ℕ → Bool) → slot u ≡ s → Chains slot leads u t → (q : ℕ) → q < u → leads q ≡ true → slot q ≡ slot u → twin q ≡ false
  pub links : r ≡ true → Links (u + 1) after
  pub chains : r ≡ true → (slot : ℕ → ℕ) (leads : ℕ → Bool) → ((q : ℕ) → slot q < slots) → slot u ≡ s → leads u ≡ candidate → Chains slot leads u t → Chains slot leads (u + 1) after

-- the chains hold the leaders below u, each in the slot of its open or of its closed row
pub record Parted (slot : Bool → ℕ → ℕ) (least kinds : List ℕ) (u : ℕ) (opens closeds : Leaders) : Type 0 where
  pub open_links : Links u opens
  pub closed_links : Links u closeds
  pub open_chains : Chains (slot false) (chained least kinds false) u opens
  pub closed_chains : Chains (slot true) (chained least kinds true) u closeds
