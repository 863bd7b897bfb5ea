-- What the table keeping promises.
pub mod Keeping
