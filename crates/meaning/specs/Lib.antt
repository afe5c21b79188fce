-- What programs mean. In reading order: syntax, values, systems, turns, moves; then texts, space,
-- what is promised of every order of moves, fairness, and the scheduler's model.
pub mod Basics
pub mod Atoms
pub mod Syntax
pub mod Stages
pub mod Values
pub mod System
pub mod Turns
pub mod Moves
pub mod Tokens
pub mod Bound
pub mod Grammar
pub mod Space
pub mod Promise
pub mod Fair
pub mod Effects
pub mod Doing
pub mod Scheduler
pub mod Rounds
pub mod Worked
