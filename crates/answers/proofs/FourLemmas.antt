-- That a pass finds its value or blames its first fault is the four clauses that outsiders read.
use Rattle.std.proofs.Common.{Option, refl, inl, inr}
use Rattle.std.specs.Prelude.{Result, Ok, Err}
use Rattle.answers.specs.Answers.{Finds, IsFourOf}
use Rattle.answers.specs.declared.short.Short.{Short}
use Rattle.answers.specs.declared.short.Short.TheVariants.{NoMemory, Fault}

module _ {A F : Type 0} (fault : Option F) (Wanted : A → Type 0) where
  pub four_of : (result : Result A (Short F)) → Finds fault Wanted result → IsFourOf fault Wanted result
  four_of (Ok x) h = record { found = h; only = λ _. h.1; refuses = tt; refused = λ f is. cc (h.0) }
  four_of (Err NoMemory) h = record { found = tt; only = λ _. refl; refuses = inl refl; refused = λ _ _. inl refl }
  four_of (Err (Fault g)) h = record { found = tt; only = λ none. cc (h g refl); refuses = inr (g, refl, h g refl); refused = λ f is. inr (cc (h g refl)) }
