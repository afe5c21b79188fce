pub mod Reading
pub mod Cutting
pub mod Skipping
pub mod Placing
pub mod Yielding
