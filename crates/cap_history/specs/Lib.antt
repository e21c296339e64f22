pub mod Beginnings
pub mod History
pub mod Own
pub mod Rules
pub mod Seat
pub mod Seen
