-- How programs are read. In reading order: what a token is, what is held between two tokens, expressions, patterns,
-- the look-ahead, the machine, the names in scope and what is checked of them, whole texts, what is promised of them,
-- and examples.
pub mod Classes
pub mod Stack
pub mod Expressions
pub mod Patterns
pub mod LookAhead
pub mod Machine
pub mod Scopes
pub mod Checks
pub mod Reading
pub mod Promise
pub mod Examples
pub mod WorkedTexts
