use Rattle.std.proofs.Common.{◌++◌, ◌∷◌, [], sym, ap, ◌∙◌, cond, slice_index}
use Rattle.std.specs.Prelude.{slice_range}
use Rattle.std.proofs.lemmas.Bool.{ne_eqb}
use Rattle.stil_ast.specs.Meaning.GroupReading.{between, in_quotes}
use Rattle.signal_groups.proofs.LexedLemmas.{piece-more}
use Rattle.signal_groups.proofs.lexeme.go_on_quoted.Goals as goal

pub returns-clause-next : goal.returns-clause-next
returns-clause-next c =
    let text = c.args.text.now in
    let at = c.args.at in
    ap in_quotes (piece-more text c.args.start at 0 c.requires.start c.requires.at)
    ∙ sym (ap (λ b. cond b between (in_quotes (slice_range text c.args.start at ++ slice_index text at ∷ [])))
    (ne_eqb (slice_index text at) 34 c.if-text-at-eq34.false))
