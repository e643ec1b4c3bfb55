pub mod Account
mod Attempts
mod Beginning
pub mod Borne
pub mod Cells
mod Confined
pub mod Duties
mod Examples
pub mod Finished
mod Finishing
pub mod ForKey
pub mod Frames
pub mod Held
mod History
mod HomeKeys
pub mod Homes
pub mod Inv
pub mod Laid
mod Later
pub mod Ledger
pub mod Managers
pub mod Meanings
mod Moves
mod Named
mod Opening
mod Owner
mod Play
pub mod Proper
mod RarerMoves
mod Refused
pub mod Reached
mod Recovery
pub mod Sets
pub mod Showing
pub mod Shown
pub mod Standing
mod Statements
pub mod Steps
mod Stores
pub mod Turns
mod Vanishing
