-- The end of the table, copied over zeros.
use Rattle.std.proofs.Common.{◌-◌, length, take, drop, refl, arith, length-take, length-drop}
use Rattle.symmetry.specs.StripLaws.{strip_copied}
use Rattle.symmetry.proofs.load.Goals as goal

pub returns : goal.returns
returns c =
    let rest = take (length c.args.edges.now - c.args.at) (drop c.args.at c.args.edges.now) in
    strip_copied {m = length rest} c.copy_from_slice.ensures.after c.requires.2 (simp (length-take, length-drop) (omega arith)) c.requires.0 c.requires.1
