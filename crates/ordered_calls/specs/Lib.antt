-- What the promise of the ordered call means: the least answer above the tuple or none, every answer by a chain of calls, the
-- maps on the trees' elements, the wrong programs shut out.
pub mod Exactly
pub mod Calls
pub mod Demands
pub mod ShutOut
pub mod OnTrees
pub mod Worked
pub mod Tens
