mod Changes
mod Homes
mod Laid
mod Views
