pub mod Counts
pub mod Files
pub mod FileEntry
pub mod Answers
pub mod MemoryStore
pub mod MemorySink
pub mod WordsCode
