-- The low byte, then the high byte.
use Rattle.std.specs.Prelude.{◌≡◌, ◌/◌, ◌%◌}
use Rattle.std.proofs.Common.{arith}
use Rattle.model.specs.Release.{u16}
use Rattle.writer.proofs.put_u16.Goals as goal

pub returns : goal.returns
unfolding u16
returns c =
    let high : c.args.v / 256 % 256 ≡ c.args.v / 256 = omega arith in
    rw high at (rw c.to_le_bytes.ensures at c.put_two.ensures)
