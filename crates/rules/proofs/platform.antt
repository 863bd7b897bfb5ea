-- Laws behind the platform's functions.
pub mod BitLaws
pub mod HalfLaws
