-- Statements of a keyword and a name that `;` ends (IEEE 1450-1999, clause 6).
use Rattle.std.specs.Prelude.{ℕ, List}
use Rattle.stil_tree.specs.Trees.{Entry}
use Rattle.stil_form.specs.Setting.{Setting, line_at}
use Rattle.stil_ast.specs.declared.name.Named.{Named}

-- names that were declared, each under a title
abbrev pub Names : Type 0
Names = List (List ℕ × List ℕ)

-- a name on the line of its statement
abbrev pub named_on : Setting → Entry → List ℕ → Named
named_on s e called = record { name = called; line = line_at s.tokens e.first }
