pub mod Acts
pub mod Dues
pub mod Hearing
pub mod Marks
pub mod Shapes
