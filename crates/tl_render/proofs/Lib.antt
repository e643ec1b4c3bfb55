mod FinalRows
mod LastStores
mod ReadCells
mod ShownRows
mod Taken
mod Told
