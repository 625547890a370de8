-- Laws on which a definition of specs/ bears in such a way that an edit of it is to fall at them.
pub mod AnyOrder
pub mod Compared
pub mod FeeSought
pub mod Fee
pub mod Pricing
pub mod FeeCases
pub mod Walk
