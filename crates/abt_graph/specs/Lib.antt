pub mod Graphs
pub mod Pictured
pub mod Rows
pub mod Shapes
pub mod Workloads
