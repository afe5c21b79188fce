-- What a worker's state in cells stands for, and what a turn of it leads to.
pub mod State
pub mod Frames
pub mod Outcomes
pub mod Steps
pub mod Operators
pub mod Performing
pub mod Resuming
pub mod Binding
pub mod Turning
pub mod Receiving
