mod Begun
mod Events
mod Fresh
mod Lists
mod Room
mod Written
mod Stores
