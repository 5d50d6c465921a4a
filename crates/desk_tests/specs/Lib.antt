-- A shelf in memory.
pub mod MemoryFiles
-- A desk whose jobs are all done by the one who holds it.
pub mod Settling
