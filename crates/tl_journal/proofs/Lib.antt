mod Accepted
mod Alone
pub mod Asking
mod Attempts
mod Begins
mod ChangeSizes
mod Claims
mod ClaimsMade
mod ClashSays
pub mod CutShort
mod CutSpoken
mod Dispatch
pub mod Elsewhere
mod Endings
mod Ends
mod Examples
mod Facts
pub mod FirstCommits
mod Fits
mod ForKeyTests
mod Goings
mod Gone
pub mod Grows
mod Heeded
pub mod InOrder
mod Insides
pub mod Journals
pub mod KeyOrder
mod Keyed
pub mod Logs
mod LostKeys
mod Lows
mod ManagerPremises
mod ManagerServes
mod Managers
mod Meets
pub mod Named
mod NoneLeft
pub mod Opens
mod Owed
mod OwnHeld
pub mod OwnKeyed
mod OwnWrites
pub mod Posted
mod Present
mod ReadSizes
pub mod Records
mod Recovered
mod RecoveredServed
mod Recoveries
mod RecoveriesWhole
mod RecoverySays
pub mod Requests
mod RivalsStand
mod RowSizes
mod Seen
mod Shards
pub mod Sizes
pub mod Speaking
mod Spoken
mod Stated
mod Statements
pub mod Stood
pub mod Store
mod StoreEvents
pub mod StoreLogs
pub mod StoreOpening
mod StorePage
mod StorePages
mod StoreRanges
mod StoreServes
mod StoreStays
mod StrangeCounts
mod StrangeExamples
pub mod StrangeHeard
mod StrangeLefts
mod StrangeOdd
pub mod StrangeReplies
pub mod StrangeSound
pub mod StrangeStops
mod StrangeTells
mod Together
mod Unbound
mod Unlawful
mod Unsaid
mod Vanishes
