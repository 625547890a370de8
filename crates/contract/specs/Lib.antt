-- What reading a record answers, and what an accepted one shows.
pub mod Refusal
pub mod Reading
pub mod Accepted
