pub mod Exact
pub mod Divided
