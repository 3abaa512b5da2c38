-- The row is folded word by word.
use Rattle.std.proofs.Common.{◌≡◌, ◌+◌, ◌-◌, ◌*◌, take, drop, ◌∙◌, rules}
use Rattle.std.specs.List.{fold}
use Rattle.std.specs.Int.Bits.{bit_xor}
use Rattle.grouping.specs.Chains.{rotated}
use Rattle.grouping.specs.HashLaws.{hash_folded}
use Rattle.grouping.proofs.sum_rotated.Goals as goal

pub returns : goal.returns
unfolding rotated
returns c =
    let e : c.fold.result ≡ fold (λ h x. bit_xor (rotated h) x) 0 (take (8 * c.args.p + 8 - 8 * c.args.p) (drop (8 * c.args.p) c.args.edges.now)) = search rules in
    e ∙ hash_folded rotated _ _ c.requires.1
