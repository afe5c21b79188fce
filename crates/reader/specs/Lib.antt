-- What the code of the reader says, in the grammar's own words: what a token is, and the look-ahead.
pub mod Classes
pub mod LookAhead
