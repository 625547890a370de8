-- What the definitions of specs/ come to.
pub mod InForce
