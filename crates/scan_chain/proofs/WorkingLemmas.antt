-- Chains that are taken one behind another are those of the definitions, and so is their first fault.
use Rattle.std.proofs.Common.{◌≡◌, ℕ, ◌+◌, Bool, true, false, cond, not, ◌||◌, List, [], ◌∷◌, ◌++◌, length, take, filter, refl, sym, ap, ◌∙◌, append_assoc, append-nil, length-append}
use Rattle.std.specs.Prelude.{◌==◌, Option, Result, Ok, Err, IfOk}
use Rattle.std.specs.List.{list_any, enumerate_from}
use Rattle.std.proofs.lemmas.Bool.{cond-true, cond-false, eqb-true}
use Rattle.std.proofs.lemmas.List.Folds.{list_any-append}
use Rattle.std.proofs.Math.Seq.{take-append_seam}
use Rattle.stil_ast.specs.Faults.Found.{or_else, first_in}
use Rattle.stil_ast.specs.Meaning.Signals.{Names}
use Rattle.stil_ast.specs.Meaning.Chains.{Chain, distinct_chains, chains_of, chain_fault, chains_fault}
use Rattle.stil_ast.specs.declared.scan.ChainDecl.{ChainDecl}
use Rattle.stil_ast.specs.declared.fault.StilFault.{StilFault}
use Rattle.scan_chain.specs.Working.{distinct_behind, chains_behind, faults_behind}
use Rattle.scan_chain.proofs.CellLemmas.{declared_chains}

-- of items that one test leaves out another leaves out more, if each of the first is one of the second
filter_more : {X : Type 0} (p q : X → Bool) → ((x : X) → p x ≡ false → q x ≡ false) → (xs : List X)
    → filter q (filter p xs) ≡ filter q xs
filter_more p q out [] = refl
filter_more {X} p q out (x ∷ xs) = by (p x) refl (filter_more p q out xs)
  where
    by : (b : Bool) → p x ≡ b → filter q (filter p xs) ≡ filter q xs
        → filter q (cond b (x ∷ filter p xs) (filter p xs)) ≡ filter q (x ∷ xs)
    by true is later = ap (λ (ys : List X). cond (q x) (x ∷ ys) ys) later
    by false is later = later ∙ sym (cond-false (q x) (x ∷ filter q xs) (filter q xs) (out x is))

-- two tests one after another are both at once
filter_both : {X : Type 0} (p q r : X → Bool) → ((x : X) → r x ≡ cond (p x) (q x) false) → (xs : List X)
    → filter r xs ≡ filter q (filter p xs)
filter_both p q r same [] = refl
filter_both {X} p q r same (x ∷ xs) =
    ap (λ b. cond b (x ∷ filter r xs) (filter r xs)) (same x)
    ∙ ap (λ (ys : List X). cond (cond (p x) (q x) false) (x ∷ ys) ys) (filter_both p q r same xs)
    ∙ by (p x)
  where
    by : (b : Bool) → cond (cond b (q x) false) (x ∷ filter q (filter p xs)) (filter q (filter p xs))
        ≡ filter q (cond b (x ∷ filter p xs) (filter p xs))
    by true = refl
    by false = refl

-- a chain ends where none of these does
abbrev is_new : List Chain → Chain → Bool
is_new before d = not (list_any (λ (b : Chain). b.scan_out == d.scan_out) before)

-- a chain ends elsewhere than this one
abbrev is_other : Chain → Chain → Bool
is_other c d = not (c.scan_out == d.scan_out)

-- what is not so is so
not_not : (b : Bool) → not b ≡ false → b ≡ true
not_not true is = refl
not_not false is = cc

-- a chain that ends where one does that is no new one is none
old_end : (before : List Chain) (c d : Chain) → list_any (λ (b : Chain). b.scan_out == c.scan_out) before ≡ true
    → is_other c d ≡ false → is_new before d ≡ false
old_end before c d old is =
    ap (λ n. not (list_any (λ (b : Chain). b.scan_out == n) before))
    (sym (eqb-true c.scan_out d.scan_out (not_not (c.scan_out == d.scan_out) is)))
    ∙ ap not old

-- a chain that is new behind one more is other than that and new
new_by : (a e : Bool) → not (a || (e || false)) ≡ cond (not e) (not a) false
new_by true true = refl
new_by true false = refl
new_by false true = refl
new_by false false = refl

new_end : (before : List Chain) (c d : Chain) → is_new (before ++ c ∷ []) d ≡ cond (is_other c d) (is_new before d) false
new_end before c d =
    ap not (list_any-append (λ (b : Chain). b.scan_out == d.scan_out) before (c ∷ []))
    ∙ new_by (list_any (λ (b : Chain). b.scan_out == d.scan_out) before) (c.scan_out == d.scan_out)

-- chains behind others are those others and the new ones of them
distinct-new : (before chains : List Chain)
    → distinct_behind before chains ≡ before ++ filter (is_new before) (distinct_chains chains)
distinct-new before [] = sym (append-nil before)
distinct-new before (c ∷ chains) =
    by (list_any (λ (b : Chain). b.scan_out == c.scan_out) before) refl (λ front. distinct-new front chains)
  where
    by : (b : Bool) → list_any (λ (b : Chain). b.scan_out == c.scan_out) before ≡ b
        → ((front : List Chain) → distinct_behind front chains ≡ front ++ filter (is_new front) (distinct_chains chains))
        → distinct_behind (cond b before (before ++ c ∷ [])) chains
        ≡ before ++ filter (is_new before) (c ∷ filter (is_other c) (distinct_chains chains))
    by true old later =
        later before
        ∙ ap (λ cs. before ++ cs) (sym (filter_more (is_other c) (is_new before) (λ d. old_end before c d old) (distinct_chains chains)))
        ∙ ap (λ cs. before ++ cs) (sym (cond-false (is_new before c) _ _ (ap not old)))
    by false new later =
        later (before ++ c ∷ [])
        ∙ append_assoc before (c ∷ []) (filter (is_new (before ++ c ∷ [])) (distinct_chains chains))
        ∙ ap (λ cs. before ++ c ∷ cs)
        (filter_both (is_other c) (is_new before) (is_new (before ++ c ∷ [])) (new_end before c) (distinct_chains chains))
        ∙ ap (λ cs. before ++ cs) (sym (cond-true (is_new before c) _ _ (ap not new)))

-- every chain is new behind none
all_new : (chains : List Chain) → filter (is_new []) chains ≡ chains
all_new [] = refl
all_new (c ∷ chains) = ap (λ cs. c ∷ cs) (all_new chains)

-- chains behind none are those of the definition
pub distinct_behind-none : (chains : List Chain) → distinct_behind [] chains ≡ distinct_chains chains
distinct_behind-none chains = distinct-new [] chains ∙ all_new (distinct_chains chains)

-- chains that are made one behind another, where they are made, are those of the definition
pub made_behind : {T E : Type 0} (chains : T → List Chain) (r : Result T E) (At : Names → Type 0) (decls : List ChainDecl)
    → IfOk r (λ x. (names : Names) → At names → chains x ≡ chains_behind names decls)
    → IfOk r (λ x. (names : Names) → At names → chains x ≡ chains_of names decls)
made_behind chains (Ok x) At decls is = λ names at. is names at ∙ distinct_behind-none (declared_chains names decls)
made_behind chains (Err e) At decls is = tt

-- the first fault of numbered chains, each behind those before it in the whole list
abbrev faults_in : Names → List ℕ → List ChainDecl → ℕ → List ChainDecl → Option StilFault
faults_in names block whole n chains =
    first_in (λ (placed : ℕ × ChainDecl). chain_fault names block (take placed.0 whole) placed.1) (enumerate_from n chains)

-- the first fault of chains behind others is that in the whole list
faults-in : (names : Names) (block : List ℕ) (before chains : List ChainDecl)
    → faults_behind names block before chains ≡ faults_in names block (before ++ chains) (length before) chains
faults-in names block before [] = refl
faults-in names block before (d ∷ chains) =
    ap (or_else (chain_fault names block before d))
    (faults-in names block (before ++ d ∷ []) chains
    ∙ ap (λ whole. faults_in names block whole (length (before ++ d ∷ [])) chains) (append_assoc before (d ∷ []) chains)
    ∙ ap (λ n. faults_in names block (before ++ d ∷ chains) n chains) (length-append before (d ∷ [])))
    ∙ ap (λ front. or_else (chain_fault names block front d) (faults_in names block (before ++ d ∷ chains) (length before + 1) chains))
    (sym (take-append_seam before (d ∷ chains)))

-- the first fault of chains behind none is that of the definition
pub faults_behind-none : (names : Names) (block : List ℕ) (chains : List ChainDecl)
    → faults_behind names block [] chains ≡ chains_fault names block chains
faults_behind-none names block chains = faults-in names block [] chains
