-- What the definitions of specs/ come to: laws and theorems.
pub mod Bits
pub mod Choice
pub mod Means
pub mod Optimal
pub mod Bounds
pub mod Arrivals
pub mod Compare
pub mod Units
pub mod Later
