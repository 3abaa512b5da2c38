-- What is known of lent tables that hold a graph gives what each step asks.
use mathlib.Core.Path.{refl, ◌∙◌}
use Prim.Native.Nat.{ℕ}
use native.Mathlib.Omega.{arith}
use lib.ListN.{length-replicate}
use Rattle.tables.specs.LentLaws.{held_sized}
use Rattle.release.specs.ReleaseLaws.{drawn-held, visible_labelled, visible_parts, visible_told}
use Rattle.release.proofs.write_visible.Goals as goal

pub least_members-least-requires : goal.least_members-least-requires
least_members-least-requires c =
    let s = held_sized c.args.tables.held in
    drawn-held c.args.tables.held (omega (arith, length-replicate {A = ℕ} 512 0, s.small)) (omega (arith, length-replicate {A = ℕ} 512 0, s.small)) c.take_numbers-hidden.ensures c.take_numbers-classes.ensures

pub write-requires : goal.write-requires
write-requires c =
    (visible_parts _ _ _ _ c.least_members-least.ensures, visible_labelled _ _ _ _ c.least_members-least.ensures)

pub returns : goal.returns
returns c =
    c.write.ensures ∙ visible_told _ _ _ _ c.least_members-least.ensures _ refl c.take_numbers-hidden.ensures c.take_numbers-classes.ensures _
