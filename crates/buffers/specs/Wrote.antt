-- Bytes written at a place of a buffer, and a run of such writes.
use Rattle.std.specs.Prelude.{◌≡◌, List, ℕ, ◌+◌, length}
use Rattle.std.proofs.lemmas.List.Edits.{sets}

-- t is s with the bytes bs from the place at on, and nothing else changed; next is the place after them
pub record Wrote (s : List ℕ) (at : ℕ) (bs t : List ℕ) (next : ℕ) : Type 0 where
  pub bytes : t ≡ sets s at bs
  pub place : next ≡ at + length bs

-- a run that is to write all into s₀ at at₀ has come to s and at, and rest is still to be written
pub record Left (s₀ : List ℕ) (at₀ : ℕ) (all s : List ℕ) (at : ℕ) (rest : List ℕ) : Type 0 where
  pub same : sets s at rest ≡ sets s₀ at₀ all
  pub ends : at + length rest ≡ at₀ + length all
  pub size : length s ≡ length s₀
