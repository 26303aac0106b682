pub mod WorthBounds
pub mod Backwards
