pub mod Firsts
pub mod Decisions
pub mod Tellings
pub mod Chunks
pub mod Places
