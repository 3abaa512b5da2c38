-- Lists of numbers: the tests and choices that the definitions use.
use Rattle.std.specs.Prelude.{Bool, true, false, ◌&&◌, ◌||◌, cond, ℕ, suc, zero, eqb}
use mathlib.Core.List.{List, [], ◌∷◌, ◌++◌, Memᴰ}

abbrev pub ◌∈◌ : ℕ → List ℕ → Type 0
p ∈ l = Memᴰ p l

infix 50 ◌∈◌
unfoldable pub all : List ℕ → (ℕ → Bool) → Bool
all [] f = true
all (x ∷ xs) f = f x && all xs f

unfoldable pub any : List ℕ → (ℕ → Bool) → Bool
any [] f = false
any (x ∷ xs) f = f x || any xs f

unfoldable pub filter : (ℕ → Bool) → List ℕ → List ℕ
filter f [] = []
filter f (x ∷ xs) = cond (f x) (x ∷ filter f xs) (filter f xs)

unfoldable pub member : ℕ → List ℕ → Bool
member p l = any l (eqb p)

unfoldable pub concat : List (List ℕ) → List ℕ
concat [] = []
concat (x ∷ xs) = x ++ concat xs

unfoldable pub same_list : List ℕ → List ℕ → Bool
same_list [] [] = true
same_list [] (y ∷ ys) = false
same_list (x ∷ xs) [] = false
same_list (x ∷ xs) (y ∷ ys) = eqb x y && same_list xs ys

-- the first and the last number of a list, d if there is none
abbrev pub head_or : ℕ → List ℕ → ℕ
head_or d [] = d
head_or d (x ∷ xs) = x

abbrev pub last_or : ℕ → List ℕ → ℕ
last_or d [] = d
last_or d (x ∷ xs) = last_or x xs

-- the k numbers from a on
unfoldable pub from : ℕ → ℕ → List ℕ
from a zero = []
from a (suc k) = a ∷ from (suc a) k

-- the nodes 0 to n - 1
unfoldable pub nodes : ℕ → List ℕ
nodes n = from 0 n
