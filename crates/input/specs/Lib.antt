-- What reading the inputs answers, and what accepted ones show.
pub mod Read
pub mod Given
pub mod Reading
pub mod Accepted
