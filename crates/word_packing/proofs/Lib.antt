-- The steps of taking digits.
pub mod Steps
-- What is packed comes back.
pub mod RoundTrip
