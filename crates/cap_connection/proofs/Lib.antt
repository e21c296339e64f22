mod AcceptedLemmas
mod ApplicationLemmas
mod CallLemmas
pub mod Crossing
mod OneCommandLemmas
mod LoadLemmas
mod PositionLemmas
mod QuietLemmas
mod RecordLemmas
mod ReplyLemmas
