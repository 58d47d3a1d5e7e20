use Rattle.std.proofs.Common.{sym, subst}
use Rattle.die_words.specs.declared.capture.Rise.{Rise}
use Rattle.die_words.specs.Lane.{Shows}
use Rattle.die_words.specs.Capture.{kept_after}
use Rattle.die_words.proofs.capture.kept_word.Goals as goal

pub returns-in-Doubts : goal.returns-in-Doubts
returns-in-Doubts c = λ k x d p q.
    subst (λ (r : Rise). Shows c.agreed.result k (kept_after r x d)) (sym c.in-Doubts.is) (c.agreed.ensures k x d p q)
