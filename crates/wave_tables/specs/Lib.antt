-- Read Scope first (what the tables are made from), then Sources (which waveform counts), Own, ReadWaves and Made
-- (how the code holds waveforms), Lineage (tables made of others), Standing and Check (what is refused), Rows (the
-- waves of a table), and Built last (what is answered).
pub mod Characters
pub mod Scope
pub mod Sources
pub mod Own
pub mod ReadWaves
pub mod Lineage
pub mod Waves
pub mod Check
pub mod Made
pub mod Standing
pub mod Rows
pub mod Built
pub mod Laws
