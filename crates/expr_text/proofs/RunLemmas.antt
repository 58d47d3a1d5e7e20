-- What the grammar says of lexemes is what the code's run finds.
use Rattle.std.proofs.Common.{◌≡◌, ℕ, suc, ◌<◌, true, List, [], ◌∷◌, ◌++◌, length, Option, Some, None, refl, sym, ap, ◌∙◌, arith, append_assoc}
use Rattle.std.specs.Prelude.{◌==◌}
use Rattle.std.proofs.Common.{ne_eqb}
use Rattle.std.proofs.lemmas.Bool.{cond-false, false≢true}
use Rattle.std.proofs.lemmas.List.{append-nil}
use Rattle.expr_text.specs.Tree.{Tree, chain, linked, extreme, also}
use Rattle.expr_text.specs.Lexeme.{Lexeme, operator, opening, comma, closing}
use Rattle.expr_text.specs.Grammar.{most_parens, of_term, of_sum, joins, Part, factor, several, joined, operands, Parses, Parses.is_number, Parses.is_name, Parses.in_parens, Parses.is_extreme, Parses.two_joined, Parses.more_joined, Parses.is_one, Parses.are_several, Parses.two_operands, Parses.more_operands}
use Rattle.expr_text.specs.Machine.{Unfinished, finished_by, grown_by, Sum, nothing, total, grouping, no_operand, some_operands, Frame, State, before, behind, refused, with_operator, purpose_of, opened, run, outcome, parsed}
use Rattle.expr_text.specs.declared.expr.Operator.{Operator}
use Rattle.expr_text.specs.declared.expr.Operator.TheVariants.{Plus, Minus, Times, Over}
use Rattle.expr_text.specs.declared.expr.Bound.{Bound}

-- a run that goes from a state to another over these lexemes, whatever follows
abbrev pub Leads : State → List Lexeme → State → Type 0
Leads from ls to = (rest : List Lexeme) → run from (ls ++ rest) ≡ run to rest

-- one run behind another
pub leads-append : (a b c : State) (ls ms : List Lexeme) → Leads a ls b → Leads b ms c → Leads a (ls ++ ms) c
leads-append a b c ls ms p q = λ rest. ap (run a) (append_assoc ls ms rest) ∙ p (ms ++ rest) ∙ q rest

-- the factors of a term up to its last
pub record EndsTerm (depth : ℕ) (ls : List Lexeme) (t : Tree) : Type 0 where
  pub factors : Option Unfinished
  pub last : Tree
  pub is : finished_by factors last ≡ t
  pub leads : (fs : List Frame) → depth ≡ length fs → (terms : Option Unfinished)
      → Leads (before fs (record { terms = terms; factors = None })) ls
      (behind fs (record { terms = terms; factors = factors }) last)

-- the same of a term of two or more factors
pub record EndsFactors (depth : ℕ) (ls : List Lexeme) (t : Tree) : Type 0 where
  pub factors : Unfinished
  pub last : Tree
  pub is : linked factors.tree factors.next last ≡ t
  pub leads : (fs : List Frame) → depth ≡ length fs → (terms : Option Unfinished)
      → Leads (before fs (record { terms = terms; factors = None })) ls
      (behind fs (record { terms = terms; factors = Some factors }) last)

-- a sum up to its last factor
pub record EndsSum (depth : ℕ) (ls : List Lexeme) (t : Tree) : Type 0 where
  pub sum : Sum
  pub last : Tree
  pub is : total sum last ≡ t
  pub leads : (fs : List Frame) → depth ≡ length fs → Leads (before fs nothing) ls (behind fs sum last)

-- the same of a sum of two or more terms
pub record EndsTerms (depth : ℕ) (ls : List Lexeme) (t : Tree) : Type 0 where
  pub terms : Unfinished
  pub factors : Option Unfinished
  pub last : Tree
  pub is : linked terms.tree terms.next (finished_by factors last) ≡ t
  pub leads : (fs : List Frame) → depth ≡ length fs
      → Leads (before fs nothing) ls (behind fs (record { terms = Some terms; factors = factors }) last)

-- operands in the parenthesis of `min` or `max`, up to the last factor
pub record EndsOperands (depth : ℕ) (bound : Bound) (ls : List Lexeme) (t : Tree) : Type 0 where
  pub others : Tree
  pub sum : Sum
  pub last : Tree
  pub is : also others (total sum last) ≡ t
  pub leads : (fs : List Frame) → depth ≡ suc (length fs) → (around : Sum)
      → Leads (before (record { around = around; purpose = no_operand bound } ∷ fs) nothing) ls
      (behind (record { around = around; purpose = some_operands others } ∷ fs) sum last)

-- where a run over a part leads
abbrev pub Ends : Part → ℕ → List Lexeme → Tree → Type 0
Ends factor depth ls t = (fs : List Frame) → depth ≡ length fs → (s : Sum) → Leads (before fs s) ls (behind fs s t)
Ends (several of_term) depth ls t = EndsFactors depth ls t
Ends (several of_sum) depth ls t = EndsTerms depth ls t
Ends (joined of_term) depth ls t = EndsTerm depth ls t
Ends (joined of_sum) depth ls t = EndsSum depth ls t
Ends (operands bound) depth ls t = EndsOperands depth bound ls t

-- an operator of a term
operator-term : (s : Sum) (t : Tree) (op : Operator) → joins of_term op ≡ true
    → with_operator s t op ≡ record { terms = s.terms; factors = grown_by s.factors t op }
operator-term s t Plus h = absurd (false≢true h)
operator-term s t Minus h = absurd (false≢true h)
operator-term s t Times h = refl
operator-term s t Over h = refl

-- an operator of a sum
operator-sum : (s : Sum) (t : Tree) (op : Operator) → joins of_sum op ≡ true
    → with_operator s t op ≡ record { terms = grown_by s.terms (finished_by s.factors t) op; factors = None }
operator-sum s t Plus h = refl
operator-sum s t Minus h = refl
operator-sum s t Times h = absurd (false≢true h)
operator-sum s t Over h = absurd (false≢true h)

-- a run over an operator and more
over_operator : (fs : List Frame) (s : Sum) (t : Tree) (op : Operator) (next : Sum) (ms : List Lexeme) (to : State)
    → with_operator s t op ≡ next
    → Leads (before fs next) ms to → Leads (behind fs s t) (operator op ∷ ms) to
over_operator fs s t op next ms to e h = λ rest. ap (λ (x : Sum). run (before fs x) (ms ++ rest)) e ∙ h rest

-- two factors
two_factors : (depth : ℕ) (ls ms : List Lexeme) (s : Tree) (op : Operator) (t : Tree) → Ends factor depth ls s
    → joins of_term op ≡ true → Ends factor depth ms t
    → EndsFactors depth (ls ++ operator op ∷ ms) (linked (chain s) op t)
two_factors depth ls ms s op t p j q = record {
  factors = record { tree = chain s; next = op };
  last = t;
  is = refl;
  leads = λ fs d terms.
      let start : Sum = record { terms = terms; factors = None } in
      let next : Sum = record { terms = terms; factors = Some (record { tree = chain s; next = op }) } in
      leads-append (before fs start) (behind fs start s) (behind fs next t) ls (operator op ∷ ms) (p fs d start)
      (over_operator fs start s op next ms (behind fs next t) (operator-term start s op j) (q fs d next));
}

-- one factor more
more_factors : (depth : ℕ) (ls ms : List Lexeme) (s : Tree) (op : Operator) (t : Tree) → EndsFactors depth ls s
    → joins of_term op ≡ true → Ends factor depth ms t
    → EndsFactors depth (ls ++ operator op ∷ ms) (linked s op t)
more_factors depth ls ms s op t p j q = record {
  factors = record { tree = linked p.factors.tree p.factors.next p.last; next = op };
  last = t;
  is = ap (λ x. linked x op t) p.is;
  leads = λ fs d terms.
      let start : Sum = record { terms = terms; factors = None } in
      let middle : Sum = record { terms = terms; factors = Some p.factors } in
      let next : Sum =
      record {
        terms = terms;
        factors = Some
            (record { tree = linked p.factors.tree p.factors.next p.last; next = op });
      } in
      leads-append (before fs start) (behind fs middle p.last) (behind fs next t) ls (operator op ∷ ms) (p.leads fs d terms)
      (over_operator fs middle p.last op next ms (behind fs next t) (operator-term middle p.last op j) (q fs d next));
}

-- two terms
two_terms : (depth : ℕ) (ls ms : List Lexeme) (s : Tree) (op : Operator) (t : Tree) → EndsTerm depth ls s
    → joins of_sum op ≡ true → EndsTerm depth ms t
    → EndsTerms depth (ls ++ operator op ∷ ms) (linked (chain s) op t)
two_terms depth ls ms s op t p j q = record {
  terms = record { tree = chain s; next = op };
  factors = q.factors;
  last = q.last;
  is = ap (linked (chain s) op) q.is;
  leads = λ fs d.
      let terms : Unfinished = record { tree = chain s; next = op } in
      let middle : Sum = record { terms = None; factors = p.factors } in
      let next : Sum = record { terms = Some terms; factors = None } in
      let to : State = behind fs (record { terms = Some terms; factors = q.factors }) q.last in
      leads-append (before fs nothing) (behind fs middle p.last) to ls (operator op ∷ ms) (p.leads fs d None)
      (over_operator fs middle p.last op next ms to
      (operator-sum middle p.last op j
      ∙ ap (λ (x : Tree). record { terms = Some (record { tree = chain x; next = op }); factors = None }) p.is)
      (q.leads fs d (Some terms)));
}

-- one term more
more_terms : (depth : ℕ) (ls ms : List Lexeme) (s : Tree) (op : Operator) (t : Tree) → EndsTerms depth ls s
    → joins of_sum op ≡ true → EndsTerm depth ms t
    → EndsTerms depth (ls ++ operator op ∷ ms) (linked s op t)
more_terms depth ls ms s op t p j q = record {
  terms = record { tree = s; next = op };
  factors = q.factors;
  last = q.last;
  is = ap (linked s op) q.is;
  leads = λ fs d.
      let terms : Unfinished = record { tree = s; next = op } in
      let middle : Sum = record { terms = Some p.terms; factors = p.factors } in
      let next : Sum = record { terms = Some terms; factors = None } in
      let to : State = behind fs (record { terms = Some terms; factors = q.factors }) q.last in
      leads-append (before fs nothing) (behind fs middle p.last) to ls (operator op ∷ ms) (p.leads fs d)
      (over_operator fs middle p.last op next ms to
      (operator-sum middle p.last op j
      ∙ ap (λ (x : Tree). record { terms = Some (record { tree = x; next = op }); factors = None }) p.is)
      (q.leads fs d (Some terms)));
}

-- a parenthesis that may open
opened-few : (fs : List Frame) (s : Sum) (bound : Option Bound) → length fs < most_parens
    → opened fs s bound ≡ before (record { around = s; purpose = purpose_of bound } ∷ fs) nothing
opened-few fs s bound few =
    cond-false (length fs == most_parens) refused (before (record { around = s; purpose = purpose_of bound } ∷ fs) nothing)
    (ne_eqb (length fs) most_parens (λ e. omega (arith, e, few)))

-- a sum in parentheses
parens : (depth : ℕ) (ls : List Lexeme) (t : Tree) → depth < most_parens → EndsSum (suc depth) ls t
    → Ends factor depth (opening None ∷ (ls ++ closing ∷ [])) t
parens depth ls t few q = λ fs d s rest.
    let inner : State = before (record { around = s; purpose = grouping } ∷ fs) nothing in
    ap (λ (x : State). run x ((ls ++ closing ∷ []) ++ rest)) (opened-few fs s None (omega (arith, d, few)))
    ∙ (ap (run inner) (append_assoc ls (closing ∷ []) rest)
    ∙ (q.leads (record { around = s; purpose = grouping } ∷ fs) (ap suc d) (closing ∷ rest)
    ∙ ap (λ (x : Tree). run (behind fs s x) rest) q.is))

-- `min` or `max`
extremes : (depth : ℕ) (bound : Bound) (ls : List Lexeme) (t : Tree) → depth < most_parens
    → EndsOperands (suc depth) bound ls t
    → Ends factor depth (opening (Some bound) ∷ (ls ++ closing ∷ [])) t
extremes depth bound ls t few q = λ fs d s rest.
    let inner : State = before (record { around = s; purpose = no_operand bound } ∷ fs) nothing in
    ap (λ (x : State). run x ((ls ++ closing ∷ []) ++ rest)) (opened-few fs s (Some bound) (omega (arith, d, few)))
    ∙ (ap (run inner) (append_assoc ls (closing ∷ []) rest)
    ∙ (q.leads fs (ap suc d) s (closing ∷ rest)
    ∙ ap (λ (x : Tree). run (behind fs s x) rest) q.is))

-- two operands of `min` or `max`
first_operands : (depth : ℕ) (bound : Bound) (ls ms : List Lexeme) (s t : Tree) → EndsSum depth ls s → EndsSum depth ms t
    → EndsOperands depth bound (ls ++ comma ∷ ms) (also (extreme bound s) t)
first_operands depth bound ls ms s t p q = record {
  others = extreme bound s;
  sum = q.sum;
  last = q.last;
  is = ap (also (extreme bound s)) q.is;
  leads = λ fs d around.
      let one : Frame = record { around = around; purpose = no_operand bound } in
      let two : Frame = record { around = around; purpose = some_operands (extreme bound s) } in
      leads-append (before (one ∷ fs) nothing) (behind (one ∷ fs) p.sum p.last) (behind (two ∷ fs) q.sum q.last) ls
      (comma ∷ ms) (p.leads (one ∷ fs) d)
      (λ rest. ap
      (λ (x : Tree). run (before (record { around = around; purpose = some_operands (extreme bound x) } ∷ fs) nothing)
      (ms ++ rest)) p.is
      ∙ q.leads (two ∷ fs) d rest);
}

-- one operand more
next_operands : (depth : ℕ) (bound : Bound) (ls ms : List Lexeme) (s t : Tree) → EndsOperands depth bound ls s
    → EndsSum depth ms t
    → EndsOperands depth bound (ls ++ comma ∷ ms) (also s t)
next_operands depth bound ls ms s t p q = record {
  others = s;
  sum = q.sum;
  last = q.last;
  is = ap (also s) q.is;
  leads = λ fs d around.
      let one : Frame = record { around = around; purpose = no_operand bound } in
      let some : Frame = record { around = around; purpose = some_operands p.others } in
      let more : Frame = record { around = around; purpose = some_operands s } in
      leads-append (before (one ∷ fs) nothing) (behind (some ∷ fs) p.sum p.last) (behind (more ∷ fs) q.sum q.last) ls
      (comma ∷ ms) (p.leads fs d around)
      (λ rest. ap
      (λ (x : Tree). run (before (record { around = around; purpose = some_operands x } ∷ fs) nothing) (ms ++ rest)) p.is
      ∙ q.leads (more ∷ fs) d rest);
}

-- where the run over a part of the grammar leads
pub part_is_run : {part : Part} {depth : ℕ} {ls : List Lexeme} {t : Tree} → Parses part depth ls t → Ends part depth ls t
part_is_run (is_number depth n) = λ fs d s rest. refl
part_is_run (is_name depth bytes) = λ fs d s rest. refl
part_is_run (in_parens depth ls t few p) = parens depth ls t few (part_is_run p)
part_is_run (is_extreme depth bound ls t few p) = extremes depth bound ls t few (part_is_run p)
part_is_run (two_joined of_term depth ls s op ms t p j q) = two_factors depth ls ms s op t (part_is_run p) j (part_is_run q)
part_is_run (two_joined of_sum depth ls s op ms t p j q) = two_terms depth ls ms s op t (part_is_run p) j (part_is_run q)
part_is_run (more_joined of_term depth ls s op ms t p j q) = more_factors depth ls ms s op t (part_is_run p) j (part_is_run q)
part_is_run (more_joined of_sum depth ls s op ms t p j q) = more_terms depth ls ms s op t (part_is_run p) j (part_is_run q)
part_is_run (is_one of_term depth ls t p) =
    let q = part_is_run p in
    record { factors = None; last = t; is = refl; leads = λ fs d terms. q fs d (record { terms = terms; factors = None }) }
part_is_run (is_one of_sum depth ls t p) =
    let q = part_is_run p in
    record { sum = record { terms = None; factors = q.factors }; last = q.last; is = q.is; leads = λ fs d. q.leads fs d None }
part_is_run (are_several of_term depth ls t p) =
    let q = part_is_run p in
    record { factors = Some q.factors; last = q.last; is = q.is; leads = q.leads }
part_is_run (are_several of_sum depth ls t p) =
    let q = part_is_run p in
    record { sum = record { terms = Some q.terms; factors = q.factors }; last = q.last; is = q.is; leads = q.leads }
part_is_run (two_operands bound depth ls s ms t p q) = first_operands depth bound ls ms s t (part_is_run p) (part_is_run q)
part_is_run (more_operands bound depth ls s ms t p q) = next_operands depth bound ls ms s t (part_is_run p) (part_is_run q)

-- the tree of the grammar is the one that the run finds
pub so_is_parsed : (ls : List Lexeme) (t : Tree) → Parses (joined of_sum) 0 ls t → parsed ls ≡ Some t
so_is_parsed ls t p =
    let q = part_is_run p in
    ap (λ (xs : List Lexeme). outcome (run (before [] nothing) xs)) (sym (append-nil ls)) ∙ ap outcome (q.leads [] refl [])
    ∙ ap Some q.is
