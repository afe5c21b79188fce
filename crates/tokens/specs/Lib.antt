-- What a token is and how a text is cut at one; where a byte stands.
pub mod Cutting
pub mod Lexemes
pub mod Position
