pub mod Loop
