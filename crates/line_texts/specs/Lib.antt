-- Read Said first: statements as a text says them, with their pieces and trees. Tests has when pieces and statements
-- are such, by Booleans that compute; Lexemes has what readers of forms see of pieces.
pub mod Said
pub mod Tests
pub mod Lexemes
