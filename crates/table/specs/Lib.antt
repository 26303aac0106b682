pub mod Faults
pub mod Layout
pub mod Rules
pub mod Reading
pub mod Tables
pub mod Listing
pub mod Lawful
