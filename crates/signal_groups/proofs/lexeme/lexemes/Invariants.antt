use Rattle.std.proofs.Common.{◌≡◌, ◌++◌, map, drop}
use Rattle.stil_ast.specs.Meaning.GroupReading.{lexemes, between}
use Rattle.signal_groups.specs.Lexed.{lexeme_of, place_at, IsBehind}
use Rattle.signal_groups.proofs.lexeme.lexemes.Given as goal

abbrev pub invariant-loop-at : goal.invariant-loop-at
invariant-loop-at l = record {
  behind : IsBehind l.at l.place;
  whole : map lexeme_of l.found.items ++ lexemes (place_at l.text l.at l.place) (drop l.at l.text) ≡ lexemes between l.text;
}
