pub mod Numbers
pub mod Waiting
pub mod Entries
