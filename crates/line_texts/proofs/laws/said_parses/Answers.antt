use Rattle.std.proofs.Common.{[]}
use Rattle.line_texts.proofs.TreeLemmas.{said_parses as said_parses_at}
use Rattle.line_texts.proofs.laws.said_parses.Goals as goal

pub returns : goal.returns
returns c = λ s h. said_parses_at 0 0 [] s h
