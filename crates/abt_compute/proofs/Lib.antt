pub mod Asking
mod Cutting
mod Ended
mod Few
mod Fetching
mod Stopping
mod Within
