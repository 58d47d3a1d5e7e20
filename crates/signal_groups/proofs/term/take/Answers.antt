use Rattle.std.proofs.Common.{◌+◌, Bool, map, ap, ◌∙◌}
use Rattle.signal_groups.specs.Lexed.{lexeme_of, term_of, left_of}
use Rattle.signal_groups.proofs.LexedLemmas.{left-other, left-sign}
use Rattle.signal_groups.proofs.term.take.Goals as goal

pub returns-in-None-clause-same : goal.returns-in-None-clause-same
returns-in-None-clause-same c =
    left-other (map term_of c.args.terms.now.items) c.args.lexemes.now c.args.at c.args.reading _ c.requires.at c.requires.start c.in-None.ensures

pub returns-in_ok-good-in-Some-clause-same : goal.returns-in_ok-good-in-Some-clause-same
returns-in_ok-good-in-Some-clause-same c =
    let terms = map term_of c.add_item.new.terms.items in
    let ls = map lexeme_of c.args.lexemes.now in
    ap (λ (b : Bool). left_of terms ls (c.args.at + 1) (record { good = b; adds = c.in-Some.adds; start = c.args.at + 1 })) c.both.ensures
    ∙ left-sign (map term_of c.args.terms.now.items) terms c.args.lexemes.now c.args.at c.args.reading c.in-Some.adds
    c.in_ok-good-in-Some.good _ c.requires.at c.requires.start c.in-Some.ensures c.in_ok-good-in-Some.ensures
