use Rattle.std.proofs.Common.{◌≡◌, ◌∙◌, ap, map}
use Rattle.stil_tree.specs.Trees.{entry_of, trees, trees_from}
use Rattle.pat_read.proofs.BodyLemmas.{trees_from-entries}
use Rattle.pat_read.proofs.reader.read_trees.Goals as goal

pub returns : goal.returns
returns c =
    let same : trees_from (map entry_of c.as_slice.result.now) ≡ trees c.args.body.now =
    ap trees_from c.as_slice.ensures ∙ trees_from-entries (trees c.args.body.now) in
    rw same at c.read_stmts.ensures
