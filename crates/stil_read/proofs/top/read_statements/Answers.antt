use Rattle.std.proofs.Common.{map}
use Rattle.stil_tree.specs.Trees.{entry_of}
use Rattle.stil_read.proofs.KeptLemmas.{all_taken}
use Rattle.stil_read.proofs.top.read_statements.Goals as goal

pub returns : goal.returns
returns c = (
  c.take_all.new.words,
  all_taken c.args.source.bytes.now c.args.source.tokens.now (map entry_of c.args.stmts.now)
      c.new-words.result c.take_all.new.words c.args.lists.now c.take_all.new.lists c.take_all.result c.new-words.ensures
      c.requires c.take_all.ensures,
)
