pub mod Failures
pub mod Numbers
pub mod Log
pub mod Departures
pub mod Lives
pub mod Hubs
