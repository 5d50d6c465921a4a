-- A shelf in memory.
pub mod MemoryFileSteps
-- A desk whose jobs are all done by the one who holds it.
pub mod Turns
pub mod Unchanged
pub mod IdleDesk
