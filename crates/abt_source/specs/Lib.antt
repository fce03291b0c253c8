pub mod Fault
pub mod MemoryFiles
pub mod MemorySink
pub mod RealFiles
pub mod RealSink
pub mod Seen
pub mod Source
