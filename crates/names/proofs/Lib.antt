pub mod Keywords
pub mod Counting
pub mod Naming
pub mod Looking
pub mod Spelling
pub mod Entering
