use Rattle.std.proofs.Common.{[]}
use Rattle.line_texts.proofs.TreeLemmas.{said_parses}
use Rattle.flat_said.specs.FlatSaid.{flat_said}
use Rattle.flat_said.proofs.laws.said_are_statements.Goals as goal

pub returns : goal.returns
returns c = λ code nests h. said_parses 0 0 [] (flat_said code nests) h
