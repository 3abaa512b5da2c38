-- The eights, and then the rest, are united word by word.
use Rattle.std.proofs.Common.{◌≡◌, List, ℕ, rules}
use Rattle.std.specs.List.{fold}
use Rattle.std.specs.Int.Bits.{bit_or}
use Rattle.buffers.specs.UnionLaws.{united_all}
use Rattle.buffers.proofs.union_of.Goals as goal

pub returns : goal.returns
returns c =
    let eights : c.fold-bits.result ≡ fold (λ (u : ℕ) (eight : List ℕ). fold bit_or u eight) 0 c.as_chunks.result.0.now = search rules in
    let rest : c.fold.result ≡ fold bit_or c.fold-bits.result c.as_chunks.result.1.now = search rules in
    united_all 8 _ c.args.words.now (rw c.as_chunks.ensures.front at eights) (rw c.as_chunks.ensures.back at rest)
