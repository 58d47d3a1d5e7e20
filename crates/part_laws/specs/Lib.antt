-- Read Runs first (runs of the parts of a plan, and the floor that they are together), then Laws, then Divided (what
-- they merge to where nothing cuts a try), and Grades by itself.
pub mod Runs
pub mod Laws
pub mod Divided
pub mod Grades
