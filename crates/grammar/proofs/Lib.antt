-- What classes and levels say; then complete (LookAhead to Complete), sound (Elements to Sound), and both for whole
-- texts; then names and functions checked while a text is read (Pairwise to Places).
pub mod Classes
pub mod Levels
pub mod LookAhead
pub mod ReadsPatterns
pub mod ReadsExprs
pub mod Complete
pub mod Elements
pub mod Made
pub mod SoundExprs
pub mod SoundPatterns
pub mod Sound
pub mod Exact
pub mod Pairwise
pub mod Boundness
pub mod Scoping
pub mod EarlyStops
pub mod Places
