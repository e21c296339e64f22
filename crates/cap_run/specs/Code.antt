-- The progress of workers, of a shell, and of an input that is read line by line, for private contracts. No
-- rule is defined here.
pub mod Calls
pub mod Run
pub mod Shell
pub mod Unread
