-- `program::run` meets its contract.
use mathlib.Core.Path.{sym}
use Prim.Native.Nat.{◌*◌}
use native.Mathlib.Omega.{arith}
use lib.Seq.{length-take-le}
use Rattle.model.specs.Updates.{update_numbers}
use Rattle.program.specs.RunLaws.{accepted_few, accepted_is, accepted_small, refused_is, run_bytes, run_short}
use Rattle.program.proofs.run.Goals as goal

pub refused_line-requires : goal.refused_line-requires
refused_line-requires c =
    let short = run_short _ (refused_is _ c.parse.ensures _ c.in-Err.is) in
    omega arith

pub overflow_mul-end : goal.overflow_mul-end
overflow_mul-end c =
    let few = accepted_few _ c.parse.ensures _ c.in-Ok.is in
    omega arith

pub slice_bounds-batch-end : goal.slice_bounds-batch-end
slice_bounds-batch-end c =
    let few = accepted_few _ c.parse.ensures _ c.in-Ok.is in
    omega arith

pub slice_bounds-print_accepted-end : goal.slice_bounds-print_accepted-end
slice_bounds-print_accepted-end c =
    let few = accepted_few _ c.parse.ensures _ c.in-Ok.is in
    sym (length-take-le (update_numbers * c.in-Ok.accepted.count) c.parse.new.batch (omega arith))

pub print_accepted-requires : goal.print_accepted-requires
print_accepted-requires c =
    let short = run_short _ (accepted_is _ c.parse.ensures _ c.in-Ok.is) in
    record { within_limits = accepted_small _ c.parse.ensures _ c.in-Ok.is (omega arith); batch_in_bounds = omega arith }

pub returns-in-Err : goal.returns-in-Err
returns-in-Err c =
    let both = run_bytes _ (refused_is _ c.parse.ensures _ c.in-Err.is) (omega arith) c.refused_line.ensures in
    record { bytes = both.0; count = both.1 }

pub returns-in-Ok : goal.returns-in-Ok
returns-in-Ok c =
    let both = run_bytes _ (accepted_is _ c.parse.ensures _ c.in-Ok.is) (omega arith) c.print_accepted.ensures in
    record { bytes = both.0; count = both.1 }
