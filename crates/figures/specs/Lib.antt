pub mod Figures
pub mod Stations
