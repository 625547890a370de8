-- Decisions over a finite number of dates, with no word of annuities.
pub mod Index
pub mod Groups
pub mod Bits
pub mod Choice
pub mod Process
pub mod Means
pub mod Layers
pub mod Bisection
