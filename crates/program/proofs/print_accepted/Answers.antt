-- `program::print_accepted` meets its contract.
use mathlib.Core.Path.{sym}
use Prim.Native.Nat.{ℕ, ◌*◌}
use native.Mathlib.Omega.{arith}
use lib.ListN.{length-replicate, replicate}
use lib.Seq.{length-take-le}
use Rattle.program.specs.AcceptedLaws.{done_fits, done_text, lent_parts}
use Rattle.program.proofs.print_accepted.Goals as goal

pub slice_bounds-release_after-end : goal.slice_bounds-release_after-end
slice_bounds-release_after-end c =
    sym (length-take-le (8 * c.args.n) (replicate 4096 0) (omega (arith, length-replicate {A = ℕ} 4096 0, c.requires.within_limits.nodes)))

pub slice_bounds-release_after-end-2 : goal.slice_bounds-release_after-end-2
slice_bounds-release_after-end-2 c =
    sym (length-take-le (5 * c.args.n) (replicate 2560 0) (omega (arith, length-replicate {A = ℕ} 2560 0, c.requires.within_limits.nodes)))

pub slice_bounds-release_after-end-3 : goal.slice_bounds-release_after-end-3
slice_bounds-release_after-end-3 c =
    sym (length-take-le (2 * c.args.n) (replicate 1024 0) (omega (arith, length-replicate {A = ℕ} 1024 0, c.requires.within_limits.nodes)))

pub slice_bounds-release_after-end-4 : goal.slice_bounds-release_after-end-4
slice_bounds-release_after-end-4 c =
    let w = c.words-kept in
    sym (length-take-le w.result (replicate 36889 0) (omega (arith, length-replicate {A = ℕ} 36889 0, w.ensures, c.requires.within_limits.nodes)))

pub release_after-bytes-requires : goal.release_after-bytes-requires
release_after-bytes-requires c =
    lent_parts (replicate 4096 0) (replicate 2560 0) (replicate 1024 0) (replicate 36889 0) c.requires.within_limits (omega (arith, length-replicate {A = ℕ} 4096 0)) (omega (arith, length-replicate {A = ℕ} 2560 0)) (omega (arith, length-replicate {A = ℕ} 1024 0)) (omega (arith, length-replicate {A = ℕ} 36889 0)) (omega arith) (omega (arith, length-replicate {A = ℕ} 65536 0)) c.words-kept.ensures

pub slice_bounds-output-end : goal.slice_bounds-output-end
slice_bounds-output-end c =
    sym (length-take-le _ c.release_after-bytes.new.answers (omega (arith, c.requires.within_limits.few)))

pub slice_bounds-file-end : goal.slice_bounds-file-end
slice_bounds-file-end c =
    omega (arith, done_fits c.requires.within_limits c.release_after-bytes.ensures)

pub slice_bounds-output-end-2 : goal.slice_bounds-output-end-2
slice_bounds-output-end-2 c =
    sym (length-take-le c.release_after-bytes.result c.release_after-bytes.new.file (omega (arith, done_fits c.requires.within_limits c.release_after-bytes.ensures)))

pub output-requires : goal.output-requires
output-requires c =
    rw (done_text c.release_after-bytes.ensures) c.requires.batch_in_bounds

pub returns : goal.returns
returns c =
    rw (done_text c.release_after-bytes.ensures) at c.output.ensures
