use Rattle.std.proofs.Common.{◌≡◌, ◌<◌, ℕ, rules, get_or}
use Rattle.std.specs.Prelude.{IsTrue, ◌↔◌}
use Rattle.std.specs.Int.Bits.{bit_xor}
use Rattle.search.specs.Search.{own_bits}
use Rattle.search.specs.SearchLaws.{meets_each_is}
use Rattle.search.proofs.same_row.Goals as goal

pub returns : goal.returns
returns c =
    let each : IsTrue c.all.result ↔ ((k : ℕ) → k < 8 → bit_xor (get_or c.args.row.now k 0) (get_or c.args.other.now k 0) ≡ own_bits c.args.closed c.args.u c.args.q k) = search rules in
    meets_each_is _ _ _ _ _ 8 each
