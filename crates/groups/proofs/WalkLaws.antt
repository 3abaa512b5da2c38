-- A group walked upwards, member by member.
use Rattle.std.proofs.Common.{◌≡◌, ◌∙◌, refl, List, ℕ, suc, ◌-◌, ◌<◌, Option, Some, None, arith}
use Rattle.std.specs.Prelude.{MatchOption}
use Rattle.model.specs.Tables.{node_number}
use Rattle.rings.specs.Steps.{Renamed, Sound, Stored}
use Rattle.rings.specs.StoreLaws.{Renaming, beside, renamed, renaming_more, rising_next, rising_none}
use Rattle.groups.specs.Groups.{NextGreater}

-- the loop of `rename`: p is the next to be renamed, or all are done
abbrev pub Walking : ℕ → ℕ → ℕ → List ℕ → List ℕ → Option ℕ → Type 0
Walking n x y t t' m = MatchOption m (Renamed n x y t t') (λ p. (p < n) × Renaming n p x y t t')

-- how much is left of it
abbrev pub left : ℕ → Option ℕ → ℕ
left n None = 0
left n (Some p) = suc n - p

module _ {n p x y : ℕ} {t t₁ t₂ : List ℕ} (s : Sound n t) (a : (p < n) × Renaming n p x y t t₁) (e : Stored p 0 y t₁ t₂) where
  pub walk_on : (m : Option ℕ) → NextGreater t₂ p m → Walking n x y t t₂ m
  walk_on None h = renamed (renaming_more s a.1 a.0 e (rising_none n p _ t₂ refl h)) (omega arith)
  walk_on (Some b) h =
      let same : node_number t₂ p 1 ≡ node_number t p 1 = beside e p 1 (omega arith) (omega arith) (omega arith) ∙ a.1.done.rest p 1 (omega arith) (omega arith) in
      (omega (arith, h.0, s.next p a.0), renaming_more s a.1 a.0 e (rising_next n p b t₂ h.0 h.1))
