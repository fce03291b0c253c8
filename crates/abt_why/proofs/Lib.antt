mod Following
mod Holding
mod Listing
mod Numbers
mod Walking
