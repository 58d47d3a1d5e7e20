-- Read FlatLot first: a lot on a flat text beside one on its source. Chains has codes without chains; Unmarked what is
-- told beside the marks of cycles, which no public clause cites.
pub mod Chains
pub mod FlatLot
pub mod Unmarked
