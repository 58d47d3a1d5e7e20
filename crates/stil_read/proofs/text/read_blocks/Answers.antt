use Rattle.stil_tree.specs.Trees.{entries, trees}
use Rattle.stil_read.proofs.TextLemmas.{refused_once}
use Rattle.stil_read.proofs.text.read_blocks.Goals as goal

pub returns-clause-refused : goal.returns-clause-refused
returns-clause-refused c = λ fault is.
    refused_once c.args.bytes.now c.args.tokens.now (entries (trees c.args.forest.now)) c.read_forest.result fault c.read_forest.ensures is
