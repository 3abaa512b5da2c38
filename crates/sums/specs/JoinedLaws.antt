-- Laws of cubes added to sums one after the other.
use Rattle.std.specs.Prelude.{◌≡◌, ℕ, ◌+◌, ◌%◌, ◌^◌, List, slice_index, slice_index_or, refl}
use Rattle.std.proofs.Common.{◌∙◌, arith}
use Rattle.sums.specs.Joined.{SumsAdded, SumsAdding}

pub cubes_start : (f : ℕ → ℕ) (t : List ℕ) → SumsAdding f f t t
cubes_start f t = record { size = refl; own = λ l. refl; near = λ l h b. (b, refl) }

pub cubes_step : {all rest f more : ℕ → ℕ} {t now after : List ℕ} → SumsAdding all rest t now → SumsAdded f now after → ((l : ℕ) → rest l ≡ f l + more l) → SumsAdding all more t after
cubes_step {rest = rest} {f = f} {more = more} {t = t} {now = now} {after = after} x y e = record {
  size = y.size ∙ x.size;
  own = λ l. y.own l ∙ x.own l;
  near = λ l h b. let z = x.near l h b in let w : slice_index_or after l 0 ≡ (slice_index now l + f l) % 2 ^ 32 = y.near l h z.0 in (omega arith, omega (arith, z.1, e l));
}

pub cubes_done : {all rest : ℕ → ℕ} {t now : List ℕ} → SumsAdding all rest t now → ((l : ℕ) → rest l ≡ 0) → SumsAdded all t now
cubes_done {rest = rest} x e = record {
  size = x.size;
  own = x.own;
  near = λ l h b. let z = x.near l h b in omega (arith, z.0, z.1, e l);
}
