-- Read Lines first, then LineFault (the first line up to which no text of a kind begins as one does), then Reading
-- (where a text stands that is read line by line), Words (names in a line).
pub mod Lines
pub mod LineFault
pub mod Reading
pub mod Words
