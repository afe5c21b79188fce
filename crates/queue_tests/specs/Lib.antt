-- What the examples promise.
pub mod Rotate
