-- Statements of the items of a list are read one after another.
use Rattle.std.proofs.Common.{◌≡◌, ◌⊎◌, ℕ, List, [], ◌∷◌, ◌++◌, Result, Ok, Err, sym, ap, subst, ◌∙◌, append_assoc, append-nil, inl, inr}
use Rattle.std.specs.List.{AllByRecursion, AllZip}
use Rattle.stil_lex.specs.declared.token.Token.{Token}
use Rattle.stil_tree.specs.Trees.{Entry, entries}
use Rattle.answers.specs.Reading.{and_then, reading, stepping}
use Rattle.stil_form.specs.declared.fault.FormFault.{FormFault}
use Rattle.stil_form.specs.declared.fault.FormFault.TheVariants.{Refused}
use Rattle.stil_form.specs.declared.fault.FormKind.TheVariants.{OutOfRange}
use Rattle.line_texts.specs.Said.{Said, no_more, trees_at, each_said}
use Rattle.line_texts.proofs.StandingLemmas.{Stands}

-- what items are read as, of which the first begins with the token `at`
abbrev pub each_from : {X D : Type 0} → (ℕ → X → D) → (ℕ → X → ℕ) → ℕ → List X → List D
each_from decl next at [] = []
each_from decl next at (x ∷ xs) = decl at x ∷ each_from decl next (next at x) xs

-- where the statements behind them begin
abbrev pub end_from : {X : Type 0} → (ℕ → X → ℕ) → ℕ → List X → ℕ
end_from next at [] = at
end_from next at (x ∷ xs) = end_from next (next at x) xs

-- each item is one statement, and those behind it begin with this token
pub record IsForm {X : Type 0} (bytes : List ℕ) (tokens : List Token) (said : X → Said → Said) (entry : ℕ → X → Entry)
    (next : ℕ → X → ℕ) : Type 0 where
  pub front : (x : X) (at : ℕ) (more : Said) → entries (trees_at at (said x more)) ≡ entry at x ∷ entries (trees_at (next at x) more)
  pub behind : (x : X) (at : ℕ) (more : Said) → Stands bytes tokens at (said x more) → Stands bytes tokens (next at x) more

-- the statements behind all of them
pub behind_each : {X : Type 0} (bytes : List ℕ) (tokens : List Token) (said : X → Said → Said) (entry : ℕ → X → Entry) (next : ℕ → X → ℕ)
    → IsForm bytes tokens said entry next → (xs : List X) (at : ℕ) (more : Said) → Stands bytes tokens at (each_said said xs more)
    → Stands bytes tokens (end_from next at xs) more
behind_each bytes tokens said entry next form [] at more stands = stands
behind_each bytes tokens said entry next form (x ∷ xs) at more stands =
    behind_each bytes tokens said entry next form xs (next at x) more (form.behind x at (each_said said xs more) stands)

-- items are read, where each is, by what was read before it and what is still to be read
pub reading_each : {X D : Type 0} (bytes : List ℕ) (tokens : List Token) (said : X → Said → Said) (entry : ℕ → X → Entry)
    (next : ℕ → X → ℕ) → IsForm bytes tokens said entry next → (judge : List D → Entry → Result D FormFault) (decl : ℕ → X → D)
    (Fits : List D → List X → Type 0)
    → ((before : List D) (at : ℕ) (x : X) (xs : List X) (more : Said) → Fits before (x ∷ xs) → Stands bytes tokens at (said x more)
    → (judge before (entry at x) ≡ Ok (decl at x)) × Fits (before ++ decl at x ∷ []) xs)
    → (xs : List X) (before : List D) (at : ℕ) → Fits before xs → Stands bytes tokens at (each_said said xs no_more)
    → reading judge before (entries (trees_at at (each_said said xs no_more))) ≡ Ok (before ++ each_from decl next at xs)
reading_each bytes tokens said entry next form judge decl Fits one [] before at fits stands =
    ap (λ (done : List _). Ok done) (sym (append-nil before))
reading_each {X} {D} bytes tokens said entry next form judge decl Fits one (x ∷ xs) before at fits stands =
    let more = each_said said xs no_more in
    let here = one before at x xs more fits stands in
    ap (λ (es : List Entry). reading judge before es) (form.front x at more)
    ∙ ap (λ (r : Result D FormFault). and_then r (λ d. reading judge (before ++ d ∷ []) (entries (trees_at (next at x) more)))) here.0
    ∙ reading_each bytes tokens said entry next form judge decl Fits one xs (before ++ decl at x ∷ []) (next at x) here.1
    (form.behind x at more stands)
    ∙ ap (λ (done : List D). Ok done) (append_assoc before (decl at x ∷ []) (each_from decl next (next at x) xs))

-- an answer, or that something is beyond its limit, where this is so
abbrev pub Gives : {X : Type 0} → Type 0 → Result X FormFault → X → Type 0
Gives Beyond r x = (r ≡ Ok x) ⊎ ((first : ℕ) × (r ≡ Err (Refused OutOfRange first)) × Beyond)

-- one answer behind another
pub and_then-gives : {B X Y : Type 0} (r : Result X FormFault) (next : X → Result Y FormFault) (x : X) (y : Y)
    → Gives B r x → Gives B (next x) y → Gives B (and_then r next) y
and_then-gives {X = X} r next x y (inl is) (inl h) = inl (ap (λ (o : Result X FormFault). and_then o next) is ∙ h)
and_then-gives {X = X} r next x y (inl is) (inr h) = inr (h.0, ap (λ (o : Result X FormFault). and_then o next) is ∙ h.1, h.2)
and_then-gives {X = X} r next x y (inr h) rest = inr (h.0, ap (λ (o : Result X FormFault). and_then o next) h.1, h.2)

-- the same of what is the same
pub gives_behind : {B X : Type 0} (r s : Result X FormFault) (x : X) → r ≡ s → Gives B s x → Gives B r x
gives_behind r s x same (inl is) = inl (same ∙ is)
gives_behind r s x same (inr h) = inr (h.0, same ∙ h.1, h.2)

-- and where something else is so too
pub gives_for : {B C X : Type 0} (r : Result X FormFault) (x : X) → (B → C) → Gives B r x → Gives C r x
gives_for r x so (inl is) = inl is
gives_for r x so (inr h) = inr (h.0, h.1, so h.2)

-- items are read, or one is beyond a limit
pub giving_each : {B X D : Type 0} (bytes : List ℕ) (tokens : List Token) (said : X → Said → Said) (entry : ℕ → X → Entry)
    (next : ℕ → X → ℕ) → IsForm bytes tokens said entry next → (judge : List D → Entry → Result D FormFault) (decl : ℕ → X → D)
    (Fits : List D → List X → Type 0)
    → ((before : List D) (at : ℕ) (x : X) (xs : List X) (more : Said) → Fits before (x ∷ xs) → Stands bytes tokens at (said x more)
    → Gives B (judge before (entry at x)) (decl at x) × Fits (before ++ decl at x ∷ []) xs)
    → (xs : List X) (before : List D) (at : ℕ) → Fits before xs → Stands bytes tokens at (each_said said xs no_more)
    → Gives B (reading judge before (entries (trees_at at (each_said said xs no_more)))) (before ++ each_from decl next at xs)
giving_each bytes tokens said entry next form judge decl Fits one [] before at fits stands =
    inl (ap (λ (done : List _). Ok done) (sym (append-nil before)))
giving_each {B} {X} {D} bytes tokens said entry next form judge decl Fits one (x ∷ xs) before at fits stands =
    let more = each_said said xs no_more in
    let here = one before at x xs more fits stands in
    let done = before ++ decl at x ∷ [] in
    let behind = giving_each bytes tokens said entry next form judge decl Fits one xs done (next at x) here.1
    (form.behind x at more stands) in
    gives_behind _ (and_then (judge before (entry at x)) (λ d. reading judge (before ++ d ∷ []) (entries (trees_at (next at x) more)))) _
    (ap (λ (es : List Entry). reading judge before es) (form.front x at more))
    (and_then-gives (judge before (entry at x)) (λ d. reading judge (before ++ d ∷ []) (entries (trees_at (next at x) more))) (decl at x)
    (before ++ each_from decl next at (x ∷ xs)) here.0
    (subst (λ (all : List D). Gives B (reading judge done (entries (trees_at (next at x) more))) all)
    (append_assoc before (decl at x ∷ []) (each_from decl next (next at x) xs)) behind))

-- steps lead from a state and statements to others, or one is beyond a limit
abbrev pub Reaches : {S : Type 0} → Type 0 → (S → Entry → Result S FormFault) → S → List Entry → S → List Entry → Type 0
Reaches Beyond step s es t fs =
    (stepping step s es ≡ stepping step t fs) ⊎ ((first : ℕ) × (stepping step s es ≡ Err (Refused OutOfRange first)) × Beyond)

-- one way behind another
pub reaches_behind : {B S : Type 0} (step : S → Entry → Result S FormFault) (s t u : S) (es fs gs : List Entry)
    → Reaches B step s es t fs → Reaches B step t fs u gs → Reaches B step s es u gs
reaches_behind step s t u es fs gs (inl a) (inl b) = inl (a ∙ b)
reaches_behind step s t u es fs gs (inl a) (inr b) = inr (b.0, a ∙ b.1, b.2)
reaches_behind step s t u es fs gs (inr a) b = inr a

-- one step
pub reaches_one : {B S : Type 0} (step : S → Entry → Result S FormFault) (s t : S) (e : Entry) (es : List Entry) → Gives B (step s e) t
    → Reaches B step s (e ∷ es) t es
reaches_one {S = S} step s t e es (inl is) = inl (ap (λ (r : Result S FormFault). and_then r (λ next. stepping step next es)) is)
reaches_one {S = S} step s t e es (inr h) =
    inr (h.0, ap (λ (r : Result S FormFault). and_then r (λ next. stepping step next es)) h.1, h.2)

-- the steps of items, which lay one more into the state each
pub reaches_each : {B X D S : Type 0} (bytes : List ℕ) (tokens : List Token) (said : X → Said → Said) (entry : ℕ → X → Entry)
    (next : ℕ → X → ℕ) → IsForm bytes tokens said entry next → (step : S → Entry → Result S FormFault) (lay : List D → S)
    (decl : ℕ → X → D) (Fits : List D → List X → Type 0)
    → ((before : List D) (at : ℕ) (x : X) (xs : List X) (more : Said) → Fits before (x ∷ xs) → Stands bytes tokens at (said x more)
    → Gives B (step (lay before) (entry at x)) (lay (before ++ decl at x ∷ [])) × Fits (before ++ decl at x ∷ []) xs)
    → (xs : List X) (before : List D) (at : ℕ) (more : Said) → Fits before xs → Stands bytes tokens at (each_said said xs more)
    → Reaches B step (lay before) (entries (trees_at at (each_said said xs more))) (lay (before ++ each_from decl next at xs))
    (entries (trees_at (end_from next at xs) more))
reaches_each bytes tokens said entry next form step lay decl Fits one [] before at more fits stands =
    inl (ap (λ (done : List _). stepping step (lay done) (entries (trees_at at more))) (sym (append-nil before)))
reaches_each {B} {X} {D} {S} bytes tokens said entry next form step lay decl Fits one (x ∷ xs) before at more fits stands =
    let rest = each_said said xs more in
    let here = one before at x xs rest fits stands in
    let done = before ++ decl at x ∷ [] in
    let all = lay (before ++ each_from decl next at (x ∷ xs)) in
    let es = entries (trees_at (next at x) rest) in
    let fs = entries (trees_at (end_from next at (x ∷ xs)) more) in
    let behind = reaches_each bytes tokens said entry next form step lay decl Fits one xs done (next at x) more here.1
    (form.behind x at rest stands) in
    let placed : Reaches B step (lay done) es all fs =
    subst (λ (d : List D). Reaches B step (lay done) es (lay d) fs)
    (append_assoc before (decl at x ∷ []) (each_from decl next (next at x) xs)) behind in
    subst (λ (e : List Entry). Reaches B step (lay before) e all fs) (sym (form.front x at rest))
    (reaches_behind step (lay before) (lay done) all (entry at x ∷ es) es fs
    (reaches_one step (lay before) (lay done) (entry at x) es here.0)
    placed)

-- what items are read as stands beside them
pub zip_each : {X D : Type 0} (R : X → D → Type 0) (P : X → Type 0) (decl : ℕ → X → D) (next : ℕ → X → ℕ)
    → ((at : ℕ) (x : X) → P x → R x (decl at x)) → (xs : List X) (at : ℕ) → AllByRecursion P xs → AllZip R xs (each_from decl next at xs)
zip_each R P decl next one [] at fits = tt
zip_each R P decl next one (x ∷ xs) at fits = (one at x fits.0, zip_each R P decl next one xs (next at x) fits.1)

-- of whatever items
pub zip_all : {X D : Type 0} (R : X → D → Type 0) (decl : ℕ → X → D) (next : ℕ → X → ℕ) → ((at : ℕ) (x : X) → R x (decl at x))
    → (xs : List X) (at : ℕ) → AllZip R xs (each_from decl next at xs)
zip_all R decl next one [] at = tt
zip_all R decl next one (x ∷ xs) at = (one at x, zip_all R decl next one xs (next at x))
