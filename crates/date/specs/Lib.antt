-- What a behaviour in the code is in the rules.
pub mod Behaviour
