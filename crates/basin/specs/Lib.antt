pub mod Bits
pub mod Faults
pub mod Making
pub mod Numbers
pub mod Ranges
pub mod Stepping
pub mod Basins
pub mod Floats
