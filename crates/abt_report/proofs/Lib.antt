mod Guessing
mod Joining
mod JournalTexts
pub mod Limits
mod LineBreaks
mod Numbering
