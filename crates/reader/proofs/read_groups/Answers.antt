-- `reader::read_groups` meets its contract.
use lib.ListN.{length-set}
use mathlib.Core.Path.{◌∙◌, refl}
use native.Mathlib.Omega.{arith}
use Rattle.reader.specs.GroupLaws.{groups_all, groups_broken, groups_more, groups_none, groups_start}
use Rattle.reader.proofs.read_groups.Goals as goal

pub loop-first-init : goal.loop-first-init
loop-first-init c = record { read = groups_start _ _ _ _ _ _ _ _ _ c.requires.0 c.requires.2 c.requires.3 c.requires.4; sums = refl }

pub returns-in_err-group : goal.returns-in_err-group
returns-in_err-group c =
    let before = c.loop-first.invariant.read in
    record {
      read =
          simp (length-set, c.loop-first.auto.first-items, c.from_residual.ensures)
          (groups_none _ _ _ _ _ _ _ _ _ _ (c.take_group.ensures.taken.size ∙ before.nodes) before.kind.size before.class.size (simp length-set c.loop-first.auto.first-items)
          (groups_broken _ _ _ _ _ _ _ _ _ _ _ _ _ (omega arith) before _ _ c.take_group.ensures.taken c.in_err-group.was));
      sums = c.loop-first.invariant.sums;
    }

pub loop-first-preserved : goal.loop-first-preserved
loop-first-preserved c = record {
  read = groups_more _ _ _ _ _ _ _ _ _ _ _ _ _ (omega arith) c.loop-first.invariant.read _ _ c.take_group.ensures.taken c.requires.0 _ c.in_ok-group.was (omega arith);
  sums = c.loop-first.invariant.sums;
}

pub returns : goal.returns
returns c = record { read = rw c.loop-first.auto.first-items (groups_all _ _ _ _ _ _ _ _ _ _ _ _ _ _ (omega arith) c.loop-first.auto.first-items c.loop-first.invariant.read); sums = c.loop-first.invariant.sums }
