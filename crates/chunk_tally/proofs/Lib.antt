pub mod Does
pub mod Order
