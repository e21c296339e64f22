pub mod StreamCalls
pub mod Writing
