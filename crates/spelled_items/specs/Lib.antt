-- Read SpelledData and SpelledCells first (what tokens spell, and why they spell nothing), then Laws.
pub mod SpelledData
pub mod SpelledCells
pub mod Laws
