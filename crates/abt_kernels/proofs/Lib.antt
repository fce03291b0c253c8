pub mod Ascending
pub mod CommonLengths
pub mod Coordinates
mod Counting
pub mod Escaping
pub mod MergedRows
pub mod Merging
pub mod Neighbours
pub mod Pixels
pub mod SortingGraphs
