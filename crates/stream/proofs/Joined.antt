-- Reads one after the other, into one buffer.
use Rattle.std.proofs.Common.{◌≡◌, ℕ, ◌+◌, List, ◌++◌, Option, None, Some, take, drop, sym, ap, ◌∙◌, append_assoc}
use Rattle.std.proofs.Math.Seq.{take-add}
use Rattle.std.specs.Io.KnownBytes.{Consumes}

-- a buffer whose first f bytes were read, and n more after them
pub read_more : (a b c : Option (List ℕ)) (xs ys : List ℕ) (f n : ℕ) → take f ys ≡ take f xs → Consumes a b (take f xs) → Consumes b c (take n (drop f ys)) → Consumes a c (take (f + n) ys)
read_more None b c xs ys f n front before read = tt
read_more (Some x) None c xs ys f n front before read = absurd before
read_more (Some x) (Some y) None xs ys f n front before read = absurd read
read_more (Some x) (Some y) (Some z) xs ys f n front before read =
    before
    ∙ ap (λ l. l ++ y) (sym front)
    ∙ ap (λ l. take f ys ++ l) read
    ∙ sym (append_assoc (take f ys) (take n (drop f ys)) z)
    ∙ ap (λ l. l ++ z) (sym (take-add f n ys))
