-- The laws of the promise, for the proofs of the crates above.
pub mod Laws
