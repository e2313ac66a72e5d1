-- What comes back.
pub mod RoundTrips
