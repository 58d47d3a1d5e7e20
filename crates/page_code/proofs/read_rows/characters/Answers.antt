use Rattle.std.proofs.Common.{arith, subst, sym, List, ℕ, Bor}
use Rattle.page_code.specs.Fields.{Read, Gives}
use Rattle.page_code.proofs.CharactersLemmas.{characters_refused, characters_taken}
use Rattle.page_code.proofs.read_rows.characters.Goals as goal

pub returns-then-front-most-clause-read : goal.returns-then-front-most-clause-read
returns-then-front-most-clause-read c =
    characters_refused c.args.signals c.min-most.result c.places-front.result c.args.bytes.now c.min-most.ensures c.places-front.ensures (omega arith)

pub returns-clause-read : goal.returns-clause-read
returns-clause-read c =
    subst (λ (read : Read (List ℕ)). Gives {X = Bor (List ℕ) × Bor (List ℕ)} (λ x. (x.0.now, x.1.now)) c.piece.result read)
    (sym (characters_taken c.args.signals c.min-most.result c.places-front.result c.args.bytes.now c.min-most.ensures c.places-front.ensures
    (omega arith))) c.piece.ensures.read
