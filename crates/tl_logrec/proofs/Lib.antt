pub mod EntryReading
