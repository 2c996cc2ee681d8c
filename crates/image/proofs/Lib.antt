pub mod Ends
pub mod Copying
pub mod Judged
pub mod Loading
pub mod Saving
pub mod Theorems
pub mod RoundTrips
