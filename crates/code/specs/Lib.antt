-- How programs stand in cells. In reading order: the kinds of slots, the trees, what has a tree of its own, whole programs.
pub mod Kinds
pub mod Trees
pub mod Fine
pub mod Program
pub mod Environment
pub mod Turning
pub mod Code
pub mod Instruction
pub mod Operation
pub mod Function
pub mod Clauses
pub mod Reading
