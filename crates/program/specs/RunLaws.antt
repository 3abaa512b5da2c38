-- What the parser tells of an input, and the program's output for it.
use Rattle.std.specs.Prelude.{◌≡◌, true, false, List, Result, Ok, Err, ◌⊎◌, ℕ, ◌+◌, ◌*◌, ◌≤◌, ◌<◌, ltb, length, take}
use Rattle.std.proofs.Common.{sym, ◌∙◌, inl, inr, arith, length-take, length-take-le, take_all, ltb-false, ltb-true, lt-ltb}
use Rattle.std.proofs.Math.Path.{ap}
use Rattle.model.specs.Calls.{onto}
use Rattle.model.specs.Graph.{max_updates}
use Rattle.model.specs.Program.{Input, accepted, input_of, max_bytes, printed, program, refused_line}
use Rattle.model.proofs.ProgramLaws.{input_small}
use Rattle.model.proofs.TestLaws.{decide}
use Rattle.model.specs.Updates.{update_numbers, updates_in}
use Rattle.buffers.specs.Wrote.{Wrote}
use Rattle.buffers.specs.WroteLaws.{sets_onto}
use Rattle.print.specs.LengthLaws.{program_short}
use Rattle.print.specs.Lines.{max_text}
use Rattle.text.specs.Grammar.{ParsedAs, input_in, used}
use Rattle.text.specs.declared.Accepted.{Accepted}
use Rattle.text.specs.declared.Refused.{Refused}
use Rattle.program.specs.Accepted.{WithinLimits}

module _ (bytes : List ℕ) {before after : List ℕ} {r : Result Accepted Refused} (h : ParsedAs (input_of bytes) before after r) where
  input-is : {i : Input} → input_in r after ≡ i → printed i ≡ program bytes
  unfolding program
  input-is e = ap printed (sym e ∙ h.input)

  -- refused
  pub refused_is : (e : Refused) → r ≡ Err e → refused_line e.line ≡ program bytes
  unfolding printed input_in
  refused_is e q = input-is (ap (λ (p : Result Accepted Refused). input_in p after) q)

  -- accepted: the changes stand in the first numbers of the batch
  accepted-input : (a : Accepted) → r ≡ Ok a → input_in r after ≡ accepted a.n (updates_in (take (update_numbers * a.count) after))
  unfolding input_in
  accepted-input a e = ap (λ (p : Result Accepted Refused). input_in p after) e

  pub accepted_is : (a : Accepted) → r ≡ Ok a → printed (accepted a.n (updates_in (take (update_numbers * a.count) after))) ≡ program bytes
  accepted_is a e = input-is (accepted-input a e)

  pub accepted_few : (a : Accepted) → r ≡ Ok a → a.count ≤ max_updates
  unfolding used
  accepted_few a e = rw (ap used e) at h.few

  pub accepted_small : (a : Accepted) → r ≡ Ok a → update_numbers * max_updates ≤ length after → WithinLimits a.n (take (update_numbers * a.count) after)
  accepted_small a e room =
      let few = accepted_few a e in
      let size = length-take-le (update_numbers * a.count) after (omega arith) in
      record {
        nodes = (input_small bytes a.n (updates_in (take (update_numbers * a.count) after)) (sym h.input ∙ accepted-input a e)).0;
        whole = omega (arith, size);
        few = omega (arith, size);
      }

-- the output fits, and stands at the start of the buffer
module _ (bytes : List ℕ) {xs : List ℕ} (e : xs ≡ program bytes) where
  pub run_short : length xs ≤ max_text
  run_short = omega (arith, ap length e, program_short bytes)

  pub run_bytes : {s t : List ℕ} {k : ℕ} → max_text ≤ length s → Wrote s 0 xs t k → (t ≡ onto (program bytes) s) × (k ≡ length (program bytes))
  run_bytes {s} {t} {k} h w =
      let none : 0 + length xs ≡ length xs = omega arith in (
        w.bytes ∙ sets_onto xs s (omega (arith, run_short)) ∙ ap (λ (l : List ℕ). onto l s) e,
        w.place ∙ none ∙ ap length e,
      )

-- the byte past the longest input has it refused, and those after it are not looked at
pub front_tells : (k : ℕ) (bytes : List ℕ) → max_bytes < k → program (take k bytes) ≡ program bytes
unfolding program input_of
front_tells k bytes h = step (decide (ltb max_bytes (length bytes)))
  where
    step : (ltb max_bytes (length bytes) ≡ true) ⊎ (ltb max_bytes (length bytes) ≡ false) → program (take k bytes) ≡ program bytes
    step (inl t) = rw (t, lt-ltb max_bytes (length (take k bytes)) (omega (arith, length-take k bytes, ltb-true max_bytes (length bytes) t)))
    step (inr t) = ap program (take_all k bytes (omega (arith, ltb-false max_bytes (length bytes) t)))
