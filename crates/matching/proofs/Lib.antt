pub mod Fitting
pub mod Agreeing
pub mod Choosing
pub mod Mailboxes
pub mod Receiving
pub mod Laws
