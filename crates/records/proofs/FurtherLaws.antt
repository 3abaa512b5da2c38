-- Further laws of these definitions, which no proof here cites.
use Rattle.std.specs.Prelude.{false, List, [], ◌∷◌, ℕ, ◌+◌, ◌*◌, ◌-◌, get_or, Some, None}
use Rattle.model.specs.Reading.{u16_at}
use Rattle.records.specs.declared.Counts.{Counts}
use Rattle.records.specs.Records.{lead_of, less_group, less_member, spent, u32_at}
use Rattle.std.proofs.Math.Path.{◌≡◌}
use Prim.Native.Nat.{suc}
use native.Mathlib.Omega.{arith}
use Rattle.std.proofs.Math.Dec.{eqb}
use borrow.Author.Tests.{eq-eqb, ne_eqb}

-- the head's counts, one less
pub member_over : (c : Counts) → c.members ≡ 0 → None ≡ less_member c
unfolding less_member
member_over c e = rw (eq-eqb c.members 0 e)

pub member_left : (c : Counts) → (c.members ≡ 0 → ⊥) → Some (record { members = c.members - 1; groups = c.groups }) ≡ less_member c
unfolding less_member
member_left c h = rw (ne_eqb c.members 0 h)

pub group_over : (c : Counts) → c.groups ≡ 0 → None ≡ less_group c
unfolding less_group
group_over c e = rw (eq-eqb c.groups 0 e)

pub group_left : (c : Counts) → (c.groups ≡ 0 → ⊥) → Some (record { members = c.members; groups = c.groups - 1 }) ≡ less_group c
unfolding less_group
group_left c h = rw (ne_eqb c.groups 0 h)

-- both used up
pub unspent : (c : Counts) → (c.members ≡ 0 → ⊥) → false ≡ spent c
unfolding spent
unspent c h = rw (ne_eqb c.members 0 h)

pub spent_by : (c : Counts) → c.members ≡ 0 → eqb c.groups 0 ≡ spent c
unfolding spent
spent_by c e = rw (eq-eqb c.members 0 e)

module _ (s : List ℕ) (at : ℕ) where
  pub u16_is : (a b : ℕ) → a ≡ get_or s at 0 → b ≡ get_or s (at + 1) 0 → a + 256 * b ≡ u16_at s at
  unfolding u16_at
  u16_is a b e f = let h : at + 1 ≡ suc at = omega arith in rw (e, f, h)

-- mark and group as one number
pub u32_is : (s : List ℕ) (at x y : ℕ) → x ≡ u16_at s at → y ≡ u16_at s (at + 2) → x + 65536 * y ≡ u32_at s at
unfolding u32_at
u32_is s at x y e f = rw (e, f)

pub lead_is : (i x : ℕ) → x ≡ u16_at (0x53 ∷ 0x45 ∷ []) 0 → x + 65536 * i ≡ lead_of i
unfolding lead_of
lead_is i x e = rw e
