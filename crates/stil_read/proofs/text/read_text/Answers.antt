use Rattle.std.proofs.Common.{ap, map, rules}
use Rattle.std.proofs.lemmas.List.{nil_from_length}
use Rattle.stil_tree.specs.Trees.{entry_of}
use Rattle.stil_read.proofs.TextLemmas.{nothing_there}
use Rattle.stil_read.proofs.text.read_text.Goals as goal

pub returns-in-empty : goal.returns-in-empty
returns-in-empty c =
    nothing_there c.args.source.bytes.now c.args.source.tokens.now (map entry_of c.args.stmts.now) c.stands_nowhere.result
    (ap (map entry_of) (nil_from_length c.args.stmts.now (search rules))) c.stands_nowhere.ensures
