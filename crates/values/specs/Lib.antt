-- Values of the language as trees of the store. In reading order: the tree of a value and when a slot holds it,
-- what its outermost part is, comparing; names, pieces of a text, the walk that gives them, printing;
-- and the cells that values take.
pub mod Encoding
pub mod Shape
pub mod Compare
pub mod Names
pub mod Pieces
pub mod Walk
pub mod Output
pub mod Print
pub mod Space
