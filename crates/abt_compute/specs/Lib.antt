pub mod Answers
pub mod Files
pub mod Numbers
pub mod Program
pub mod Questions
