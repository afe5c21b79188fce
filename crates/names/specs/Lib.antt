-- The names of a text, and the table that gives each its number. In reading order: which names, how a word is looked up
-- by its hash, and how the table stands in words.
pub mod Names
pub mod Buckets
pub mod Table
pub mod Collect
