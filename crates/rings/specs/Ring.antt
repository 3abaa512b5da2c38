-- Groups as the classes of a relation on the numbers below n, and what three numbers of a node tell of its group.
use Rattle.std.specs.Prelude.{◌≡◌, Bool, true, cond, List, ℕ, ◌+◌, ◌-◌, ◌≤◌, ◌<◌, ltb}
use Rattle.model.specs.Tables.{node_number}

-- the steps upwards from p to q, from the greatest on to the least: 1 to n, and n from p to itself
unfoldable pub up : ℕ → ℕ → ℕ → ℕ
up n p q = cond (ltb p q) (q - p) (q + n - p)

-- an equivalence of the numbers below n, and of nothing else
pub record Parts (n : ℕ) (R : ℕ → ℕ → Type 0) : Type 0 where
  pub below : {p q : ℕ} → R p q → q < n
  pub own : {p : ℕ} → p < n → R p p
  pub back : {p q : ℕ} → R p q → R q p
  pub on : {p q r : ℕ} → R p q → R q r → R p r

-- q is the nearest of the S
pub record Best (S : ℕ → Type 0) (δ : ℕ → ℕ) (q : ℕ) : Type 0 where
  pub mem : S q
  pub near : (r : ℕ) → S r → δ q ≤ δ r

-- the partition with u alone
abbrev pub Out : ℕ → (ℕ → ℕ → Type 0) → ℕ → ℕ → Type 0
Out u R p q = R p q × (p ≡ u → q ≡ u) × (q ≡ u → p ≡ u)

-- every number's nearest one of its class
abbrev pub Ring : ℕ → (ℕ → ℕ → Type 0) → (ℕ → ℕ → ℕ) → (ℕ → ℕ) → Type 0
Ring n R δ N = (p : ℕ) → p < n → Best (R p) (δ p) (N p)

-- t holds the groups that R makes of the nodes below n: least member, next greater member, previous
pub record Table (n : ℕ) (R : ℕ → ℕ → Type 0) (t : List ℕ) : Type 0 where
  pub least : Ring n R (λ p q. q) (λ p. node_number t p 0)
  pub next : Ring n R (λ p q. up n p q) (λ p. node_number t p 1)
  pub prev : Ring n R (λ p q. up n q p) (λ p. node_number t p 2)

-- the relation of the nodes below n that a test tells
abbrev pub Of : ℕ → (ℕ → ℕ → Bool) → ℕ → ℕ → Type 0
Of n sim p q = (p < n) × (q < n) × (sim p q ≡ true)
