-- The rows across hold what the strip holds if no word differs.
use Rattle.std.proofs.Common.{arith, rules}
use Rattle.symmetry.specs.StripLaws.{columns_tell, differences}
use Rattle.symmetry.proofs.is_across.Goals as goal

pub returns : goal.returns
returns c =
    let e = c.rows_of-m.ensures in
    columns_tell c.requires.2 c.args.edges.small (omega arith) e.0 e.1 e.2 c.fits-b c.args.edges.bits (c.united.ensures (differences c.args.edges.words.now c.args.b.now c.args.i c.args.w) (search rules) 0)
