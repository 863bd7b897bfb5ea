-- What the words of the rows mean, and what is promised of the functions on them.
pub mod Rows
pub mod Sets
pub mod Tests
pub mod Seen
pub mod Settling
