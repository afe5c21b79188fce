-- The scheduler's queue in lent words: a line of numbers, and two of them.
pub mod Line
pub mod Lines
