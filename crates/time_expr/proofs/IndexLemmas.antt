-- The index of the variables of an executive.
use Rattle.std.proofs.Common.{◌≡◌, ℕ, ◌+◌, ◌<◌, Bool, true, false, cond, ◌||◌, List, [], ◌∷◌, ◌++◌, length, take, drop, find, Option, Some, None, is_some, get_or, refl, sym, ap, subst, ◌∙◌, inl, inr, arith}
use Rattle.std.specs.Prelude.{nat_lt}
use Rattle.std.specs.Borrow.{Bor}
use Rattle.std.specs.Option.{option_or}
use Rattle.std.specs.List.{list_any}
use Rattle.std.specs.Map.{lookup}
use Rattle.std.specs.Str.{bytes_eq}
use Rattle.std.proofs.lemmas.Bool.{cases_Bool}
use Rattle.std.proofs.lemmas.List.{map-append, length-map, length-take-le, take_more}
use Rattle.std.proofs.lemmas.List.Folds.{find-append}
use Rattle.text_bytes.proofs.ListLemmas.{drop-item}
use Rattle.text_bytes.proofs.MapLemmas.{lookup-push}
use Rattle.indexmap.specs.IndexMap.{IndexMap, IsEmpty}
use Rattle.stil_ast.specs.Meaning.Variables.{Variable, picked_fault}
use Rattle.stil_ast.specs.Data.Texts.{same}
use Rattle.stil_ast.specs.Faults.Found.{fault_at, unless, refuse_if}
use Rattle.answers.specs.Answers.{Blames}
use Rattle.text_bytes.specs.Limits.{most_variables}
use Rattle.stil_ast.specs.declared.fault.StilFault.{StilFault}
use Rattle.stil_ast.specs.Data.Refusal.{StilRefusal}
use Rattle.stil_ast.specs.declared.fault.StilKind.TheVariants.{OutOfRange, Twice}
use Rattle.time_expr.specs.Picked.{variable_of, variables_of}
use Rattle.time_expr.specs.Choosing.{variable_named, variable_at, variable_in, next_fault, Keeps}
use Rattle.time_expr.specs.declared.picked.Picked.{Picked}
use Rattle.expr_text.proofs.VarsLemmas.{same-comm}

-- whether one passes, and which is the first
any-find : {X : Type 0} (p : X → Bool) (xs : List X) → list_any p xs ≡ is_some (find p xs)
any-find p [] = refl
any-find p (x ∷ xs) =
    elim (cases_Bool (p x)) [
      | inl t ↦ ap (λ b. b || list_any p xs) t ∙ sym (ap (λ b. is_some (cond b (Some x) (find p xs))) t)
      | inr f ↦ ap (λ b. b || list_any p xs) f ∙ any-find p xs ∙ sym (ap (λ b. is_some (cond b (Some x) (find p xs))) f)
    ]

-- the fault of a variable behind others, or that of those behind it
next-is : (before rest : List Variable) (v : Variable) (place : ℕ) (found : Option Variable) → length before ≡ place
    → found ≡ variable_named before v.name
    → picked_fault before (v ∷ rest) ≡ next_fault place found v.place (picked_fault (before ++ v ∷ []) rest)
next-is before rest v place found at is =
    ap (λ n. unless (nat_lt n most_variables) (fault_at v.place OutOfRange)
    (refuse_if (list_any (λ (b : Variable). same b.name v.name) before) (fault_at v.place Twice)
    (picked_fault (before ++ v ∷ []) rest))) at
    ∙ ap (λ b. unless (nat_lt place most_variables) (fault_at v.place OutOfRange)
    (refuse_if b (fault_at v.place Twice) (picked_fault (before ++ v ∷ []) rest)))
    (any-find (λ (b : Variable). same b.name v.name) before ∙ ap is_some (sym is))

-- the same where all variables stand in a list
pub next-follows : (vs before rest : List Variable) (v : Variable) (place : ℕ) (found : Option Variable) → length before ≡ place
    → found ≡ variable_named before v.name → picked_fault before (v ∷ rest) ≡ picked_fault [] vs
    → ((more : Option StilFault) → next_fault place found v.place more ≡ more)
    → picked_fault (before ++ v ∷ []) rest ≡ picked_fault [] vs
next-follows vs before rest v place found at is apart follows =
    sym (follows (picked_fault (before ++ v ∷ []) rest)) ∙ sym (next-is before rest v place found at is) ∙ apart

pub next-refused : (vs before rest : List Variable) (v : Variable) (place : ℕ) (found : Option Variable) (e : StilRefusal)
    → length before ≡ place → found ≡ variable_named before v.name → picked_fault before (v ∷ rest) ≡ picked_fault [] vs
    → ((more : Option StilFault) → Blames (next_fault place found v.place more) e)
    → Blames (picked_fault [] vs) e
next-refused vs before rest v place found e at is apart refused =
    subst (λ (o : Option StilFault). Blames o e) (sym (next-is before rest v place found at is) ∙ apart)
    (refused (picked_fault (before ++ v ∷ []) rest))

-- what is kept after one more entry
variable-at-or : (o : Option (Bor Picked)) (b : Bool) (x : Bor Picked)
    → variable_at (option_or o (cond b (Some x) None)) ≡ option_or (variable_at o) (cond b (Some (variable_of x.now)) None)
variable-at-or None true x = refl
variable-at-or None false x = refl
variable-at-or (Some y) b x = refl

pub kept-more : {S : Type 0} (old new : IndexMap (Bor (List ℕ)) (Bor Picked) S) (before : List Variable) (key : Bor (List ℕ))
    (x : Bor Picked) → key.now ≡ (variable_of x.now).name → new.entries ≡ old.entries ++ (key, x) ∷ [] → Keeps before old
    → Keeps (before ++ variable_of x.now ∷ []) new
kept-more old new before key x is put kept = λ name.
    ap (λ es. variable_at (lookup (λ (k : Bor (List ℕ)). bytes_eq name k.now) es)) put
    ∙ ap variable_at (lookup-push (λ (k : Bor (List ℕ)). bytes_eq name k.now) old.entries key x)
    ∙ variable-at-or (lookup (λ (k : Bor (List ℕ)). bytes_eq name k.now) old.entries) (bytes_eq name key.now) x
    ∙ ap (λ o. option_or o (cond (bytes_eq name key.now) (Some (variable_of x.now)) None)) (kept name)
    ∙ ap (λ n. option_or (variable_named before name) (cond (bytes_eq name n) (Some (variable_of x.now)) None)) is
    ∙ ap (λ b. option_or (variable_named before name) (cond b (Some (variable_of x.now)) None))
    (same-comm name (variable_of x.now).name)
    ∙ sym (find-append (λ (v : Variable). same v.name name) before (variable_of x.now ∷ []))

-- an empty index keeps nothing
pub none-kept : {S : Type 0} (index : IndexMap (Bor (List ℕ)) (Bor Picked) S) → IsEmpty index → Keeps [] index
none-kept index empty = λ name. ap (λ es. variable_at (lookup (λ (k : Bor (List ℕ)). bytes_eq name k.now) es)) empty

at-none : (o : Option (Bor Picked)) → variable_at o ≡ None → o ≡ None
at-none None e = refl
at-none (Some x) e = cc

pub nothing-kept : {S : Type 0} (index : IndexMap (Bor (List ℕ)) (Bor Picked) S) (name : List ℕ)
    → variable_in index name ≡ None → lookup (λ (k : Bor (List ℕ)). bytes_eq name k.now) index.entries ≡ None
nothing-kept index name e = at-none (lookup (λ (k : Bor (List ℕ)). bytes_eq name k.now) index.entries) e

-- one more variable is behind, and one fewer before
taken-more : (xs : List Picked) (i : ℕ) (x : Picked) → i < length xs → x ≡ get_or xs i x
    → variables_of (take (i + 1) xs) ≡ variables_of (take i xs) ++ variable_of x ∷ []
taken-more xs i x within is =
    ap variables_of (take_more xs i x within ∙ ap (λ y. take i xs ++ y ∷ []) (sym is))
    ∙ map-append variable_of (take i xs) (x ∷ [])

pub left-fewer : (xs : List Picked) (i : ℕ) (x : Picked) → i < length xs → x ≡ get_or xs i x
    → variables_of (drop i xs) ≡ variable_of x ∷ variables_of (drop (i + 1) xs)
left-fewer xs i x within is = ap variables_of (drop-item xs i x within is)

taken-length : (xs : List Picked) (i : ℕ) → i < length xs → length (variables_of (take i xs)) ≡ i
taken-length xs i within = length-map (take i xs) variable_of ∙ length-take-le i xs (omega (arith, within))

pub index-grows : {S : Type 0} (xs : List Picked) (i : ℕ) (x : Picked) (old new : IndexMap (Bor (List ℕ)) (Bor Picked) S)
    (key : Bor (List ℕ)) (b : Bor Picked) → i < length xs → x ≡ get_or xs i x → key.now ≡ x.name.now → b.now ≡ x
    → new.entries ≡ old.entries ++ (key, b) ∷ [] → Keeps (variables_of (take i xs)) old
    → Keeps (variables_of (take (i + 1) xs)) new
index-grows xs i x old new key b within is named same_one put kept =
    subst (λ vs. Keeps vs new) (sym (taken-more xs i x within is
    ∙ ap (λ (y : Picked). variables_of (take i xs) ++ variable_of y ∷ []) (sym same_one)))
    (kept-more old new (variables_of (take i xs)) key b (named ∙ ap (λ (y : Picked). y.name.now) (sym same_one)) put kept)

pub index-apart : (xs : List Picked) (i : ℕ) (x : Picked) (found : Option Variable) → i < length xs → x ≡ get_or xs i x
    → found ≡ variable_named (variables_of (take i xs)) x.name.now
    → picked_fault (variables_of (take i xs)) (variables_of (drop i xs)) ≡ picked_fault [] (variables_of xs)
    → ((more : Option StilFault) → next_fault i found (variable_of x).place more ≡ more)
    → picked_fault (variables_of (take (i + 1) xs)) (variables_of (drop (i + 1) xs)) ≡ picked_fault [] (variables_of xs)
index-apart xs i x found within is kept apart follows =
    ap (λ vs. picked_fault vs (variables_of (drop (i + 1) xs))) (taken-more xs i x within is)
    ∙ next-follows (variables_of xs) (variables_of (take i xs)) (variables_of (drop (i + 1) xs)) (variable_of x) i found
    (taken-length xs i within) kept
    (ap (picked_fault (variables_of (take i xs))) (sym (left-fewer xs i x within is)) ∙ apart) follows

pub index-refused : (xs : List Picked) (i : ℕ) (x : Picked) (found : Option Variable) (e : StilRefusal) → i < length xs
    → x ≡ get_or xs i x
    → found ≡ variable_named (variables_of (take i xs)) x.name.now
    → picked_fault (variables_of (take i xs)) (variables_of (drop i xs)) ≡ picked_fault [] (variables_of xs)
    → ((more : Option StilFault) → Blames (next_fault i found (variable_of x).place more) e)
    → Blames (picked_fault [] (variables_of xs)) e
index-refused xs i x found e within is kept apart refused =
    next-refused (variables_of xs) (variables_of (take i xs)) (variables_of (drop (i + 1) xs)) (variable_of x) i found e
    (taken-length xs i within) kept
    (ap (picked_fault (variables_of (take i xs))) (sym (left-fewer xs i x within is)) ∙ apart) refused
