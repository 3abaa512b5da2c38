-- The first of a part of the first members that is none is the first hidden node.
use Rattle.std.proofs.Common.{◌≡◌, ℕ, ◌<◌, ◌≤◌, true, false, List, length, take, Option, None, Some, MatchOption, eqb, arith, rules}
use Rattle.std.proofs.lemmas.Iterator.{IsFirst-from_position, YieldsList-from_slice}
use Rattle.std.proofs.lemmas.List.{get_or-take, length-take-le}
use Rattle.std.specs.List.{AllWithin, HoldsAt}
use borrow.Author.Tests.{tests}
use Rattle.adopting.specs.Adopting.{First, is_hidden}
use Rattle.adopting.proofs.find_hidden.Goals as goal

-- the first of a part of the first members is the first hidden node
first_hidden : (least : List ℕ) (n : ℕ) (r : Option ℕ) → n ≤ length least
    → MatchOption r (AllWithin (λ x. eqb x 65535 ≡ false) (take n least) 0 (length (take n least))) (λ i. (i < length (take n least)) × HoldsAt (λ x. eqb x 65535 ≡ true) (take n least) i × AllWithin (λ x. eqb x 65535 ≡ false) (take n least) 0 i) → First (is_hidden least) n r
unfolding is_hidden
first_hidden least n None l h = λ p b. rw (← get_or-take n least p 0 b) (h p 0 (omega arith) (omega (arith, length-take-le n least l)))
first_hidden least n (Some i) l h = let b : i < n = omega (arith, length-take-le n least l) in (b, rw (← get_or-take n least i 0 b) (h.1 0), λ p q. rw (← get_or-take n least p 0 (omega arith)) (h.2 p 0 (omega arith) q))

pub returns : goal.returns
returns c =
    first_hidden _ _ _ c.requires.1
    (IsFirst-from_position _ _ _ (λ x. eqb x 65535 ≡ true) (λ x. eqb x 65535 ≡ false) c.position.ensures.ran (YieldsList-from_slice (take c.args.n c.args.least.now) cc) (λ x q k. search (rules, tests)) (λ x q k. search (rules, tests)))
