pub mod Tree
pub mod Slots
pub mod Heap
pub mod Stack
pub mod Collect
pub mod Compare
