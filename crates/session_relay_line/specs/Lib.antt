pub mod Relays
