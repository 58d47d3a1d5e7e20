-- Read Commands first (what is written of a text, and why), then Numbers and Laws (texts that are accepted).
pub mod TextListing
pub mod Commands
pub mod Numbers
pub mod Laws
pub mod FewCycles
pub mod FlatWants
