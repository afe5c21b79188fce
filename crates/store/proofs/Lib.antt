pub mod Words
pub mod Denoting
pub mod Spines
pub mod Laws
pub mod Collecting
pub mod Stacking
pub mod Comparing
pub mod Growth
