pub mod Found
pub mod CommandTests
