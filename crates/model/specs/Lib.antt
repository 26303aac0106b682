pub mod Faults
pub mod First
pub mod Meaning
pub mod Walk
pub mod Tariffs
pub mod TariffMaking
