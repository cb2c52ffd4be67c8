pub mod WrittenLaws
pub mod PassingLaws
pub mod RoundTrip
