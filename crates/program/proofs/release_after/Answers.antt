-- The three calls are done, so the file is the release and its length is told.
use Rattle.program.specs.AcceptedLaws.{done}
use Rattle.program.proofs.release_after.Goals as goal

pub returns-in-Ok : goal.returns-in-Ok
returns-in-Ok c = done c.requires c.«open».ensures c.apply.ensures c.in-Ok.ensures

pub returns-in-Err : goal.returns-in-Err
returns-in-Err c = done c.requires c.«open».ensures c.apply.ensures c.in-Err.ensures
