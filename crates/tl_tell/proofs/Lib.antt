mod Fine
mod Fits
mod Kept
mod Options
mod Runs
