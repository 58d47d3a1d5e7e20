-- What a pass answers: the value, or the first fault, or want of memory.
use Rattle.std.specs.Prelude.{◌≡◌, ◌⊎◌, Option, None, Some, Result, Ok, Err, IfOk, IfErr, MatchResult}
use Rattle.answers.specs.declared.short.Short.{Short}
use Rattle.answers.specs.declared.short.Short.TheVariants.{NoMemory, Fault}

-- what is blamed is the first fault, if it is no want of memory
abbrev pub Blames : {F : Type 0} → Option F → Short F → Type 0
Blames fault short = (first : _) → short ≡ Fault first → fault ≡ Some first

-- a value that is wanted where there is no fault, and else the first fault, or want of memory
abbrev pub Finds : {A F : Type 0} → Option F → (A → Type 0) → Result A (Short F) → Type 0
Finds fault Wanted (Ok x) = (fault ≡ None) × Wanted x
Finds fault Wanted (Err short) = Blames fault short

-- a check that has no value to give
abbrev pub Passes : {F : Type 0} → Option F → Result Unit (Short F) → Type 0
Passes fault (Ok done) = fault ≡ None
Passes fault (Err short) = Blames fault short

-- a value that is seen as what a reading gives, and else the fault that the reading has, or want of memory
abbrev pub Gives : {A B F : Type 0} → (A → B) → Result B F → Result A (Short F) → Type 0
Gives view wanted (Ok x) = wanted ≡ Ok (view x)
Gives view wanted (Err short) = (fault : _) → short ≡ Fault fault → wanted ≡ Err fault

-- the fault of a pass above
abbrev pub Raises : {F G : Type 0} → (F → G → Type 0) → Short F → Short G → Type 0
Raises gives NoMemory NoMemory = Unit {0}
Raises gives NoMemory (Fault above) = ⊥
Raises gives (Fault fault) NoMemory = ⊥
Raises gives (Fault fault) (Fault above) = gives fault above

-- the same as Finds, in four clauses: what is found, that nothing else is answered where there is no fault, and the same of a fault
pub record IsFourOf {A F : Type 0} (fault : Option F) (Wanted : A → Type 0) (result : Result A (Short F)) : Type 0 where
  pub found : IfOk result (λ x. (fault ≡ None) × Wanted x)
  pub only : fault ≡ None → MatchResult result Wanted (λ e. e ≡ NoMemory)
  pub refuses : IfErr result (λ e. (e ≡ NoMemory) ⊎ ((f : F) × (e ≡ Fault f) × (fault ≡ Some f)))
  pub refused : (f : F) → fault ≡ Some f → MatchResult result (λ _. ⊥) (λ e. (e ≡ NoMemory) ⊎ (e ≡ Fault f))
