-- The seats that are handed back, for private contracts. No rule is defined here.
pub mod Seats
