-- What the definitions of specs/ come to: the sum by account is the sum by list, and the cases worked by hand.
pub mod ByList
pub mod Cases
