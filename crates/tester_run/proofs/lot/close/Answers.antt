use Rattle.std.proofs.Common.{ℕ, List, length, sym, ap, ◌∙◌}
use Rattle.std.proofs.lemmas.List.{length-map}
use Rattle.floor_core.specs.Book.{places_of}
use Rattle.tester_run.proofs.lot.close.Goals as goal

pub returns-clause-all : goal.returns-clause-all
returns-clause-all g c =
    sym (length-map c.close.result places_of) ∙ ap (λ (l : List ℕ). length l) c.close.ensures.places
