pub mod Seats
pub mod SeatsLaws
