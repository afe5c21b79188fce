pub mod Laws
pub mod Shapes
pub mod Comparing
pub mod Counting
pub mod Walking
pub mod Outputs
pub mod Decimals
pub mod Printing
