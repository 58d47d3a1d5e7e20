use Rattle.stil_tree.specs.Trees.{trees}
use Rattle.stil_form.specs.Setting.{setting}
use Rattle.pat_read.proofs.ToldLemmas.{refused_once}
use Rattle.pat_read.proofs.reader.read_body.Goals as goal

pub returns-clause-refused : goal.returns-clause-refused
returns-clause-refused c = λ fault is.
    refused_once (setting c.args.bytes.now c.args.tokens.now c.args.user.now) c.args.place (trees c.args.body.now) c.read_tokens.result fault c.read_tokens.ensures is
