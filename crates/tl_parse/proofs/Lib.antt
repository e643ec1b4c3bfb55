mod Answered
mod Few
mod Whole
