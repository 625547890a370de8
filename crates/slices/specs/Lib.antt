-- Facts about slices, whatever the width of their numbers.
pub mod Stored
pub mod Rows
pub mod Parts
pub mod Found
