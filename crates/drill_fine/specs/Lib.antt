-- Laws stands above the others. Texts has the texts of a drill, Said the statements of its pattern, Blocks the blocks
-- that they are, Nets the lines of its netlist, Rows the records and rows of its plan, Bindings its code's signals.
pub mod Texts
pub mod Said
pub mod Blocks
pub mod Nets
pub mod Rows
pub mod Bindings
pub mod Laws
