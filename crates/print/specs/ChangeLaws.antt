-- Laws of the change lines, one answer after the other.
use Rattle.std.specs.Prelude.{◌≡◌, List, [], ◌++◌, ℕ, ◌+◌, ◌≤◌, ◌<◌, ℤ, pos, length, get_or, drop}
use Rattle.std.proofs.Common.{ap, ◌∙◌, add-one, drop_of_length-le, drop-cons, to_z-of_z, SFits, of_z, to_z}
use Rattle.std.specs.Int.{w16}
use Rattle.model.specs.Program.{change_line, change_lines}
use Rattle.buffers.specs.Wrote.{Left, Wrote}
use Rattle.buffers.specs.WroteLaws.{left_done, left_room, left_step}

changes_next : (as' : List ℤ) (i : ℕ) → i < length as' → change_lines (i + 1) (drop i as') ≡ change_line (i + 1) (get_or as' i (pos 0)) ++ change_lines (i + 1 + 1) (drop (i + 1) as')
unfolding change_lines
changes_next as' i h = rw (drop-cons as' i (pos 0) h, add-one (i + 1), add-one i)

changes_end : (as' : List ℤ) (i : ℕ) → length as' ≤ i → change_lines (i + 1) (drop i as') ≡ []
unfolding change_lines
changes_end as' i h = rw (drop_of_length-le as' h)

-- the answer that is handed on is the one that stands at i
pub change_room : {s₀ : List ℕ} {at₀ : ℕ} {all s : List ℕ} {at : ℕ} (as' : List ℤ) (i : ℕ) → i < length as' → SFits w16 (get_or as' i (pos 0))
    → Left s₀ at₀ all s at (change_lines (i + 1) (drop i as')) → at₀ + length all ≤ length s₀ → at + length (change_line (i + 1) (to_z w16 (of_z w16 (get_or as' i (pos 0))))) ≤ length s
change_room as' i h f l r = rw (to_z-of_z f) (left_room l r (change_line (i + 1) (get_or as' i (pos 0))) (change_lines (i + 1 + 1) (drop (i + 1) as')) (changes_next as' i h))

pub change_step : {s₀ : List ℕ} {at₀ : ℕ} {all s : List ℕ} {at : ℕ} {t : List ℕ} {next : ℕ} (as' : List ℤ) (i : ℕ) → i < length as' → SFits w16 (get_or as' i (pos 0))
    → Left s₀ at₀ all s at (change_lines (i + 1) (drop i as')) → Wrote s at (change_line (i + 1) (to_z w16 (of_z w16 (get_or as' i (pos 0))))) t next → Left s₀ at₀ all t next (change_lines (i + 1 + 1) (drop (i + 1) as'))
change_step as' i h f l w = left_step l w (changes_next as' i h ∙ ap (λ a. change_line (i + 1) a ++ change_lines (i + 1 + 1) (drop (i + 1) as')) (rw (to_z-of_z f)))

pub change_done : {s₀ : List ℕ} {at₀ : ℕ} {all s : List ℕ} {at : ℕ} (as' : List ℤ) (i : ℕ) → length as' ≤ i → Left s₀ at₀ all s at (change_lines (i + 1) (drop i as')) → Wrote s₀ at₀ all s at
change_done as' i h l = left_done l (changes_end as' i h)
