pub mod Blocks
pub mod Mandelbrot
pub mod Pictures
pub mod Queens
pub mod Sorting
pub mod SortingGraph
pub mod Subsequences
pub mod Turns
