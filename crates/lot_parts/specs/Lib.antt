-- Read Words first (what words ask for), then Endings and Refusals (how a run ends), then Parts, Merging and Grades
-- (what each command answers), and last Divider.
pub mod Words
pub mod Jobs
pub mod Outcomes
pub mod Endings
pub mod Refusals
pub mod Files
pub mod Parts
pub mod Merging
pub mod Grades
pub mod Divider
