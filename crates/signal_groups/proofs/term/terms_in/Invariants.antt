use Rattle.std.proofs.Common.{◌≡◌, ◌≤◌, map, [], true}
use Rattle.stil_ast.specs.Meaning.GroupReading.{terms_from}
use Rattle.signal_groups.specs.Lexed.{lexeme_of, term_of, left_of}
use Rattle.signal_groups.proofs.term.terms_in.Given as goal

abbrev pub invariant-loop-at : goal.invariant-loop-at
invariant-loop-at l = record {
  start : l.reading.start ≤ l.at;
  whole : left_of (map term_of l.terms.items) (map lexeme_of l.lexemes) l.at l.reading
      ≡ terms_from true [] (map lexeme_of l.lexemes);
}
