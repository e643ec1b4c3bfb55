mod Counts
mod Found
mod Homes
mod Openings
mod Stored
