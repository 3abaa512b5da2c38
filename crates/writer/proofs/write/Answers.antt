-- The test is on the file's length.
use native.Mathlib.Omega.{arith}
use Rattle.layout.specs.WholeLaws.{done, groups_length, refused, room_is, rows_of}
use Rattle.layout.specs.WordLaws.{marked_as, rowed_of}
use Rattle.writer.proofs.write.Goals as goal

pub returns-then-out-measured : goal.returns-then-out-measured
returns-then-out-measured c = refused _ _ _ _ c.measure-measured.ensures.bytes_are _ c.if-out-measured.true

pub slice_bounds-told-end : goal.slice_bounds-told-end
slice_bounds-told-end c = let m = c.measure-measured.ensures in groups_length _ _ m.groups_are m.listed

pub invariant_of-told : goal.invariant_of-told
invariant_of-told c =
    let m = c.measure-measured.ensures in
    record { rowed = rowed_of (rows_of c.requires.0 m.listed); marked = marked_as m.set_is m.listed }

pub write_file-requires : goal.write_file-requires
write_file-requires c =
    let m = c.measure-measured.ensures in
    record { partition = c.requires; leaders_value = m.listed; m_value = m.nodes_are; edges_in_bounds = room_is _ _ _ _ m.bytes_are c.requires.0 c.if-out-measured.false }

pub overflow_cast-result-4 : goal.overflow_cast-result-4
overflow_cast-result-4 c = omega (arith, c.measure-measured.ensures.bytes_fit)

pub returns : goal.returns
returns c =
    let m = c.measure-measured.ensures in
    done _ _ _ _ m.bytes_are m.groups_are m.nodes_are m.superedges_are _ c.requires.0 c.if-out-measured.false c.write_file.ensures
