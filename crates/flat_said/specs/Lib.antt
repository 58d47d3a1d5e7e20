-- Read FlatSaid first (the text as statements), then Laws (its tokens). Shape has when statements have heads such as
-- the grammar has them.
pub mod FlatSaid
pub mod Laws
pub mod Shape
