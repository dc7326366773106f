pub mod Words
pub mod Report
pub mod Running
pub mod Sound
pub mod Stages
pub mod Headline
pub mod Answer
