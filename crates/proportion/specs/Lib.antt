pub mod Held
pub mod Offers
pub mod Tried
pub mod Share
pub mod States
