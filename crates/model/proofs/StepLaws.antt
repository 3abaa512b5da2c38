-- Laws of steps in order.
use Rattle.std.specs.Prelude.{◌≡◌, refl, List, [], ◌∷◌, suc, length}
use Rattle.std.proofs.Common.{ap, ap₂}
use Rattle.model.specs.Steps.{Stepped, run}

-- what each step keeps
pub run_keeps : {S C O : Type 0} (f : S → C → Stepped S O) (P : S → Type 0) → ((s : S) (c : C) → P s → P (f s c).after) → (cs : List C) (s : S) → P s → P (run f s cs).after
unfolding run
run_keeps f P keep [] s h = h
run_keeps f P keep (c ∷ cs) s h = run_keeps f P keep cs (f s c).after (keep s c h)

pub run_length : {S C O : Type 0} (f : S → C → Stepped S O) (cs : List C) (s : S) → length (run f s cs).outcome ≡ length cs
unfolding run
run_length f [] s = refl
run_length f (c ∷ cs) s = ap suc (run_length f cs (f s c).after)

-- two steps side by side: related states after them, and the same outcome
abbrev pub Matched : {S P O : Type 0} → (S → P → Type 0) → Stepped S O → Stepped P O → Type 0
Matched R x y = R x.after y.after × (x.outcome ≡ y.outcome)

pub run_matched : {S P C O : Type 0} (R : S → P → Type 0) (f : S → C → Stepped S O) (h : P → C → Stepped P O) → ((s : S) (p : P) (c : C) → R s p → Matched R (f s c) (h p c))
    → (cs : List C) (s : S) (p : P) → R s p → Matched R (run f s cs) (run h p cs)
unfolding run
run_matched R f h each [] s p r = (r, refl)
run_matched R f h each (c ∷ cs) s p r =
    let k = each s p c r in
    let m = run_matched R f h each cs (f s c).after (h p c).after k.0 in
    (m.0, ap₂ ◌∷◌ k.1 m.1)
