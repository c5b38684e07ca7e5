pub mod Ids
pub mod Spans
pub mod Tally
pub mod AnyOrder
pub mod Does
pub mod Lists
pub mod Order
pub mod Room
