use Rattle.std.proofs.Common.{◌≡◌, map, drop}
use Rattle.std.specs.List.{list_all}
use Rattle.stil_ast.specs.Meaning.GroupText.{Term}
use Rattle.signal_groups.specs.Lexed.{term_of}
use Rattle.signal_groups.specs.Lookup.{known_in}
use Rattle.signal_groups.proofs.resolve.are_known.Given as goal

abbrev pub invariant-loop-term : goal.invariant-loop-term
invariant-loop-term l =
    list_all (λ (t : Term). known_in l.fn.table t.item) (map term_of (drop l.term-index l.terms))
    ≡ list_all (λ (t : Term). known_in l.fn.table t.item) (map term_of l.terms)
