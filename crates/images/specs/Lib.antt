pub mod Processors
pub mod PackedImages
