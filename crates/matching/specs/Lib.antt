-- Matching in cells. In reading order: a pattern's tree against a value's tree, patterns against values, the first clause
-- that matches, mailboxes, and the first message that some clause matches.
pub mod Fit
pub mod Matches
pub mod Choices
pub mod Mailboxes
pub mod Receives
