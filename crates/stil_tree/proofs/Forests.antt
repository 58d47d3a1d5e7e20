-- What the code answers, in the words of the definitions.
use Rattle.std.proofs.Common.{◌≡◌, ◌⊎◌, ℕ, ◌+◌, ◌<◌, List, [], ◌∷◌, length, take, drop, get_or, Result, Ok, Err, IfOk, IfErr, MatchResult, sym, ap, ◌∙◌, subst, inl, inr, arith}
use Rattle.std.proofs.lemmas.List.{take_more, length-take-le, take-append-drop}
use Rattle.stil_lex.specs.declared.token.Token.{Token}
use Rattle.stil_tree.specs.declared.stmt.StmtList.{StmtList}
use Rattle.stil_tree.specs.declared.fault.TreeFault.{TreeFault}
use Rattle.stil_tree.specs.declared.fault.TreeFault.TheVariants.{NoMemory}
use Rattle.stil_tree.specs.Trees.{Trees, end, trees}
use Rattle.stil_tree.specs.Grammar.{Parses}
use Rattle.stil_tree.specs.Faults.{IsFault}
use Rattle.stil_tree.specs.Step.{State, going, failed, step_on, run, outcome, forest_of}
use Rattle.stil_tree.proofs.Runs.{run-append, run-failed}
use Rattle.stil_tree.proofs.Reached.{forest_is_found, fault_is_found}
use Rattle.stil_tree.proofs.Standing.{IsAnswer, forest_says}

-- what the private call ensures
abbrev pub IsCode : List Token → Result StmtList TreeFault → Type 0
IsCode tokens r = MatchResult r (λ list. forest_of tokens ≡ Ok (trees list)) (λ e. (e ≡ NoMemory) ⊎ (forest_of tokens ≡ Err e))

-- statements are those of the grammar
pub found : (tokens : List Token) (r : Result StmtList TreeFault) → IsCode tokens r → IfOk r (λ list. Parses tokens (trees list))
found tokens (Ok list) h = subst (IsAnswer tokens) h (forest_says tokens)
found tokens (Err e) h = tt

-- the statements of the grammar are found
pub only : (tokens : List Token) (r : Result StmtList TreeFault) → IsCode tokens r → (wanted : Trees) → Parses tokens wanted
    → MatchResult r (λ list. trees list ≡ wanted) (λ e. e ≡ NoMemory)
only tokens (Ok list) h wanted p =
    let same : ◌≡◌ {A = Result Trees TreeFault} (Ok (trees list)) (Ok wanted) = sym h ∙ forest_is_found tokens wanted p in
    cc
only tokens (Err e) (inl none) wanted p = none
only tokens (Err e) (inr h) wanted p =
    let clash : ◌≡◌ {A = Result Trees TreeFault} (Err e) (Ok wanted) = sym h ∙ forest_is_found tokens wanted p in
    cc

-- a fault is that of the definition
pub fault : (tokens : List Token) (r : Result StmtList TreeFault) → IsCode tokens r → IfErr r (λ e. (e ≡ NoMemory) ⊎ IsFault tokens e)
fault tokens (Ok list) h = tt
fault tokens (Err e) (inl none) = inl none
fault tokens (Err e) (inr h) = inr (subst (IsAnswer tokens) h (forest_says tokens))

-- the fault of the definition is found
pub refused : (tokens : List Token) (r : Result StmtList TreeFault) → IsCode tokens r → (wanted : TreeFault) → IsFault tokens wanted
    → MatchResult r (λ _. ⊥) (λ e. (e ≡ NoMemory) ⊎ (e ≡ wanted))
refused tokens (Ok list) h wanted f =
    let clash : ◌≡◌ {A = Result Trees TreeFault} (Ok (trees list)) (Err wanted) = sym h ∙ fault_is_found tokens wanted f in
    cc
refused tokens (Err e) (inl none) wanted f = inl none
refused tokens (Err e) (inr h) wanted f =
    let same : ◌≡◌ {A = Result Trees TreeFault} (Err e) (Err wanted) = sym h ∙ fault_is_found tokens wanted f in
    inr cc

-- the run over one token more
pub run-more : (s : State) (tokens : List Token) (at : ℕ) (d : Token) → at < length tokens
    → run 0 s (take (at + 1) tokens) ≡ step_on at (run 0 s (take at tokens)) (get_or tokens at d)
run-more s tokens at d below =
    let place : 0 + length (take at tokens) ≡ at = omega (arith, length-take-le at tokens (omega arith)) in
    ap (run 0 s) (take_more tokens at d below)
    ∙ (run-append 0 s (take at tokens) (get_or tokens at d ∷ [])
    ∙ ap (λ n. step_on n (run 0 s (take at tokens)) (get_or tokens at d)) place)

-- where the run over a front fails, so does the run over all
pub failed_front : (tokens : List Token) (at : ℕ) (fault : TreeFault) → run 0 (going [] end 0) (take at tokens) ≡ failed fault → forest_of tokens ≡ Err fault
failed_front tokens at fault fails =
    ap (outcome (length tokens)) (
    ap (run 0 (going [] end 0)) (sym (take-append-drop at tokens))
    ∙ (run-append 0 (going [] end 0) (take at tokens) (drop at tokens)
    ∙ (ap (λ s. run (0 + length (take at tokens)) s (drop at tokens)) fails ∙ run-failed (0 + length (take at tokens)) fault (drop at tokens))))

-- the loop: a state is that of the run, and so is the next one
pub goes_on : (tokens : List Token) (at : ℕ) (d : Token) (s next : State) → at < length tokens → s ≡ run 0 (going [] end 0) (take at tokens)
    → next ≡ step_on at s (get_or tokens at d) → next ≡ run 0 (going [] end 0) (take (at + 1) tokens)
goes_on tokens at d s next below is steps =
    steps ∙ (ap (λ r. step_on at r (get_or tokens at d)) is ∙ sym (run-more (going [] end 0) tokens at d below))

-- a step that fails is the answer
pub stops : (tokens : List Token) (at : ℕ) (d : Token) (s : State) (fault : TreeFault) → at < length tokens → s ≡ run 0 (going [] end 0) (take at tokens)
    → step_on at s (get_or tokens at d) ≡ failed fault → forest_of tokens ≡ Err fault
stops tokens at d s fault below is fails =
    failed_front tokens (at + 1) fault (sym (goes_on tokens at d s (failed fault) below is (sym fails)))
