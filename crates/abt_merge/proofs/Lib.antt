mod Single
mod Taken
mod Woven
