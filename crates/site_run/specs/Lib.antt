pub mod Feed
pub mod FeedLaws
pub mod Station
pub mod Taped
pub mod Seat
pub mod Contact
pub mod Site
pub mod Touchdown
