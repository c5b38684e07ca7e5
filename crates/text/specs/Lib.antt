pub mod Decimal
pub mod Line
pub mod Field
pub mod RoundTrip
pub mod Sign
