-- Read Moved first (a row under another site's number), then Cut (which rows a part has), then PartText (how they are
-- written). Inside has what the code computes.
pub mod Moved
pub mod Cut
pub mod PartText
pub mod Inside
