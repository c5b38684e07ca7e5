pub mod Products
pub mod Seeds
