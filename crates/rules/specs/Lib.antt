-- The rules of documents 01 and 02, in the order of reading: the definitions, the cases worked by hand, and the order of the checks.
pub mod Contract
pub mod Date
pub mod Product
pub mod FixedTerm
pub mod ByList
pub mod Refusals
pub mod Operations
pub mod Policy
pub mod Booking
pub mod Map
pub mod Sizes
pub mod Fee
pub mod Printed
pub mod Facts
