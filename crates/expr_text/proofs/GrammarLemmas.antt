-- What the code's run finds of lexemes is what the grammar says.
use Rattle.std.proofs.Common.{◌≡◌, ℕ, suc, ◌<◌, true, List, [], ◌∷◌, ◌++◌, length, Option, Some, None, refl, sym, ap, ◌∙◌, subst, arith, append_assoc}
use Rattle.std.specs.Prelude.{◌==◌}
use Rattle.std.proofs.lemmas.Bool.{cond_both, eqb-false}
use Rattle.std.proofs.lemmas.List.{append-nil}
use Rattle.expr_text.specs.Tree.{Tree, number, name, linked, extreme, also}
use Rattle.expr_text.specs.Lexeme.{Lexeme, literal, word, operator, opening, comma, closing}
use Rattle.expr_text.specs.Grammar.{most_parens, Joint, of_term, of_sum, joins, Part, factor, several, joined, operands, operand_of, Parses, Parses.is_number, Parses.is_name, Parses.in_parens, Parses.is_extreme, Parses.two_joined, Parses.more_joined, Parses.is_one, Parses.are_several, Parses.two_operands, Parses.more_operands}
use Rattle.expr_text.specs.Machine.{Unfinished, finished_by, grown_by, Sum, nothing, total, Purpose, grouping, no_operand, some_operands, Frame, State, before, behind, refused, with_operator, purpose_of, opened, separated, closed, step, run, outcome, parsed}
use Rattle.expr_text.specs.declared.expr.Operator.{Operator}
use Rattle.expr_text.specs.declared.expr.Operator.TheVariants.{Plus, Minus, Times, Over}
use Rattle.expr_text.specs.declared.expr.Bound.{Bound}

-- operands that stand before, with their operators: with one more behind they are a chain
abbrev pub IsOpen : Joint → ℕ → Option Unfinished → List Lexeme → Type 0
IsOpen joint depth None front = front ≡ []
IsOpen joint depth (Some u) front =
    (ls : List Lexeme) (t : Tree) → Parses (operand_of joint) depth ls t
    → Parses (several joint) depth (front ++ ls) (linked u.tree u.next t)

-- the lexemes of a sum before a factor
pub record IsOpenSum (depth : ℕ) (s : Sum) (front : List Lexeme) : Type 0 where
  pub terms : List Lexeme
  pub factors : List Lexeme
  pub spelled : front ≡ terms ++ factors
  pub are_terms : IsOpen of_sum depth s.terms terms
  pub are_factors : IsOpen of_term depth s.factors factors

-- a parenthesis, and the operands behind it
abbrev pub IsPurpose : ℕ → Purpose → Lexeme → List Lexeme → Type 0
IsPurpose depth grouping l front = (l ≡ opening None) × (front ≡ [])
IsPurpose depth (no_operand bound) l front = (l ≡ opening (Some bound)) × (front ≡ [])
IsPurpose depth (some_operands others) l front =
    (bound : Bound) × (l ≡ opening (Some bound))
    × ((ls : List Lexeme) (t : Tree) → Parses (joined of_sum) depth ls t
    → Parses (operands bound) depth (front ++ ls) (also others t))

-- the lexemes up to an open parenthesis, and the operands behind it
pub record IsFrame (Outer : List Lexeme → Type 0) (depth : ℕ) (f : Frame) (front : List Lexeme) : Type 0 where
  pub outer : List Lexeme
  pub sum : List Lexeme
  pub paren : Lexeme
  pub inner : List Lexeme
  pub spelled : front ≡ outer ++ (sum ++ paren ∷ inner)
  pub below : Outer outer
  pub around : IsOpenSum depth f.around sum
  pub purpose : IsPurpose (suc depth) f.purpose paren inner
  pub few : depth < most_parens

-- the lexemes before the innermost sum
abbrev pub AreFrames : List Frame → List Lexeme → Type 0
AreFrames [] front = front ≡ []
AreFrames (f ∷ fs) front = IsFrame (AreFrames fs) (length fs) f front

-- the lexemes before a factor
pub record IsBefore (fs : List Frame) (s : Sum) (front : List Lexeme) : Type 0 where
  pub outer : List Lexeme
  pub sum : List Lexeme
  pub spelled : front ≡ outer ++ sum
  pub frames : AreFrames fs outer
  pub opened : IsOpenSum (length fs) s sum

-- the lexemes up to a factor
pub record IsUpto (fs : List Frame) (s : Sum) (t : Tree) (front : List Lexeme) : Type 0 where
  pub start : List Lexeme
  pub last : List Lexeme
  pub spelled : front ≡ start ++ last
  pub starts : IsBefore fs s start
  pub is : Parses factor (length fs) last t

-- what is known of the lexemes before a state
abbrev pub Stands : State → List Lexeme → Type 0
Stands (before fs s) front = IsBefore fs s front
Stands (behind fs s t) front = IsUpto fs s t front
Stands refused front = Unit {0}

-- other lexemes that are the same
pub Parses-as : {part : Part} {depth : ℕ} {ls : List Lexeme} {t : Tree} (ms : List Lexeme) → ls ≡ ms → Parses part depth ls t
    → Parses part depth ms t
Parses-as {part} {depth} {ls} {t} ms e p = subst (λ (xs : List Lexeme). Parses part depth xs t) e p

-- a last operand
pub finish_one : (joint : Joint) (depth : ℕ) (o : Option Unfinished) (front ls : List Lexeme) (t : Tree)
    → IsOpen joint depth o front
    → Parses (operand_of joint) depth ls t → Parses (joined joint) depth (front ++ ls) (finished_by o t)
finish_one joint depth None front ls t h p = Parses-as (front ++ ls) (ap (λ xs. xs ++ ls) (sym h)) (is_one joint depth ls t p)
finish_one joint depth (Some u) front ls t h p = are_several joint depth (front ++ ls) (linked u.tree u.next t) (h ls t p)

-- one more operand with an operator
pub grow_one : (joint : Joint) (depth : ℕ) (o : Option Unfinished) (front ls : List Lexeme) (t : Tree) (op : Operator)
    → IsOpen joint depth o front
    → Parses (operand_of joint) depth ls t → joins joint op ≡ true
    → IsOpen joint depth (grown_by o t op) (front ++ (ls ++ operator op ∷ []))
grow_one joint depth None front ls t op h p j = λ ms u q.
    let whole : ls ++ operator op ∷ ms ≡ (front ++ (ls ++ operator op ∷ [])) ++ ms =
    sym (append_assoc ls (operator op ∷ []) ms) ∙ ap (λ xs. (xs ++ (ls ++ operator op ∷ [])) ++ ms) (sym h) in
    Parses-as ((front ++ (ls ++ operator op ∷ [])) ++ ms) whole (two_joined joint depth ls t op ms u p j q)
grow_one joint depth (Some o) front ls t op h p j = λ ms u q.
    let whole : (front ++ ls) ++ operator op ∷ ms ≡ (front ++ (ls ++ operator op ∷ [])) ++ ms = simp append_assoc in
    Parses-as ((front ++ (ls ++ operator op ∷ [])) ++ ms) whole
    (more_joined joint depth (front ++ ls) (linked o.tree o.next t) op ms u (h ls t p) j q)

-- a sum before its first factor
pub open_nothing : (depth : ℕ) → IsOpenSum depth nothing []
open_nothing depth = record { terms = []; factors = []; spelled = refl; are_terms = refl; are_factors = refl }

-- a sum with its last factor
pub finish_sum : (depth : ℕ) (s : Sum) (front ls : List Lexeme) (t : Tree) → IsOpenSum depth s front
    → Parses factor depth ls t
    → Parses (joined of_sum) depth (front ++ ls) (total s t)
finish_sum depth s front ls t o p =
    let term = finish_one of_term depth s.factors o.factors ls t o.are_factors p in
    let whole : o.terms ++ (o.factors ++ ls) ≡ front ++ ls =
    sym (append_assoc o.terms o.factors ls) ∙ ap (λ xs. xs ++ ls) (sym o.spelled) in
    Parses-as (front ++ ls) whole
    (finish_one of_sum depth s.terms o.terms (o.factors ++ ls) (finished_by s.factors t) o.are_terms term)

-- an operator of a term behind a factor
grow_term : (depth : ℕ) (s : Sum) (front ls : List Lexeme) (t : Tree) (op : Operator) → joins of_term op ≡ true
    → IsOpenSum depth s front → Parses factor depth ls t
    → IsOpenSum depth (record { terms = s.terms; factors = grown_by s.factors t op }) (front ++ (ls ++ operator op ∷ []))
grow_term depth s front ls t op j o p = record {
  terms = o.terms;
  factors = o.factors ++ (ls ++ operator op ∷ []);
  spelled = ap (λ xs. xs ++ (ls ++ operator op ∷ [])) o.spelled ∙ append_assoc o.terms o.factors (ls ++ operator op ∷ []);
  are_terms = o.are_terms;
  are_factors = grow_one of_term depth s.factors o.factors ls t op o.are_factors p j;
}

-- an operator of a sum behind a factor
grow_sum : (depth : ℕ) (s : Sum) (front ls : List Lexeme) (t : Tree) (op : Operator) → joins of_sum op ≡ true
    → IsOpenSum depth s front → Parses factor depth ls t
    → IsOpenSum depth (record { terms = grown_by s.terms (finished_by s.factors t) op; factors = None })
    (front ++ (ls ++ operator op ∷ []))
grow_sum depth s front ls t op j o p =
    let term = finish_one of_term depth s.factors o.factors ls t o.are_factors p in
    record {
      terms = o.terms ++ ((o.factors ++ ls) ++ operator op ∷ []);
      factors = [];
      spelled = ap (λ xs. xs ++ (ls ++ operator op ∷ [])) o.spelled ∙ simp (append_assoc, append-nil);
      are_terms = grow_one of_sum depth s.terms o.terms (o.factors ++ ls) (finished_by s.factors t) op o.are_terms term j;
      are_factors = refl;
    }

-- an operator behind a factor
pub grow : (depth : ℕ) (s : Sum) (front ls : List Lexeme) (t : Tree) (op : Operator) → IsOpenSum depth s front
    → Parses factor depth ls t
    → IsOpenSum depth (with_operator s t op) (front ++ (ls ++ operator op ∷ []))
grow depth s front ls t Plus o p = grow_sum depth s front ls t Plus refl o p
grow depth s front ls t Minus o p = grow_sum depth s front ls t Minus refl o p
grow depth s front ls t Times o p = grow_term depth s front ls t Times refl o p
grow depth s front ls t Over o p = grow_term depth s front ls t Over refl o p

-- a factor behind the lexemes before it
pub upto : (fs : List Frame) (s : Sum) (t : Tree) (front : List Lexeme) (l : Lexeme) → IsBefore fs s front
    → Parses factor (length fs) (l ∷ []) t
    → IsUpto fs s t (front ++ l ∷ [])
upto fs s t front l b p = record { start = front; last = l ∷ []; spelled = refl; starts = b; is = p }

-- the whole innermost sum behind its last factor
pub record IsSumDone (fs : List Frame) (t : Tree) (front : List Lexeme) : Type 0 where
  pub outer : List Lexeme
  pub sum : List Lexeme
  pub spelled : front ≡ outer ++ sum
  pub frames : AreFrames fs outer
  pub is : Parses (joined of_sum) (length fs) sum t

pub sum_done : (fs : List Frame) (s : Sum) (t : Tree) (front : List Lexeme) → IsUpto fs s t front
    → IsSumDone fs (total s t) front
sum_done fs s t front u = record {
  outer = u.starts.outer;
  sum = u.starts.sum ++ u.last;
  spelled = u.spelled ∙ ap (λ xs. xs ++ u.last) u.starts.spelled ∙ append_assoc u.starts.outer u.starts.sum u.last;
  frames = u.starts.frames;
  is = finish_sum (length fs) s u.starts.sum u.last t u.starts.opened u.is;
}

-- an operator
pub stands-operator : (fs : List Frame) (s : Sum) (t : Tree) (front : List Lexeme) (op : Operator) → IsUpto fs s t front
    → IsBefore fs (with_operator s t op) (front ++ operator op ∷ [])
stands-operator fs s t front op u = record {
  outer = u.starts.outer;
  sum = u.starts.sum ++ (u.last ++ operator op ∷ []);
  spelled = ap (λ xs. xs ++ operator op ∷ []) (u.spelled ∙ ap (λ xs. xs ++ u.last) u.starts.spelled) ∙ simp append_assoc;
  frames = u.starts.frames;
  opened = grow (length fs) s u.starts.sum u.last t op u.starts.opened u.is;
}

-- a parenthesis that opens
purpose_opens : (depth : ℕ) (bound : Option Bound) → IsPurpose depth (purpose_of bound) (opening bound) []
purpose_opens depth None = (refl, refl)
purpose_opens depth (Some bound) = (refl, refl)

few_from : (fs : List Frame) (front : List Lexeme) → AreFrames fs front → (length fs ≡ most_parens → ⊥)
    → length fs < most_parens
few_from [] front h other = omega arith
few_from (f ∷ fs) front h other = let few = h.few in omega (arith, other)

pub stands-opening : (fs : List Frame) (s : Sum) (front : List Lexeme) (bound : Option Bound) → IsBefore fs s front
    → Stands (opened fs s bound) (front ++ opening bound ∷ [])
stands-opening fs s front bound b =
    let next : State = before (record { around = s; purpose = purpose_of bound } ∷ fs) nothing in
    cond_both (length fs == most_parens) refused next (λ state. Stands state (front ++ opening bound ∷ []))
    (λ many. tt)
    (λ few. record {
      outer = front ++ opening bound ∷ [];
      sum = [];
      spelled = sym (append-nil (front ++ opening bound ∷ []));
      frames = record {
        outer = b.outer;
        sum = b.sum;
        paren = opening bound;
        inner = [];
        spelled = ap (λ xs. xs ++ opening bound ∷ []) b.spelled ∙ append_assoc b.outer b.sum (opening bound ∷ []);
        below = b.frames;
        around = b.opened;
        purpose = purpose_opens (suc (length fs)) bound;
        few = few_from fs b.outer b.frames (eqb-false (length fs) most_parens few);
      };
      opened = open_nothing (suc (length fs));
    })

-- a frame with other operands behind its parenthesis
reframed : (fs : List Frame) (f : Frame) (purpose : Purpose) (front sum : List Lexeme) (l : Lexeme)
    → (g : IsFrame (AreFrames fs) (length fs) f front)
    → IsPurpose (suc (length fs)) purpose g.paren (g.inner ++ (sum ++ l ∷ []))
    → IsBefore (record { around = f.around; purpose = purpose } ∷ fs) nothing ((front ++ sum) ++ l ∷ [])
reframed fs f purpose front sum l g is = record {
  outer = (front ++ sum) ++ l ∷ [];
  sum = [];
  spelled = sym (append-nil ((front ++ sum) ++ l ∷ []));
  frames = record {
    outer = g.outer;
    sum = g.sum;
    paren = g.paren;
    inner = g.inner ++ (sum ++ l ∷ []);
    spelled = ap (λ xs. (xs ++ sum) ++ l ∷ []) g.spelled ∙ simp append_assoc;
    below = g.below;
    around = g.around;
    purpose = is;
    few = g.few;
  };
  opened = open_nothing (suc (length fs));
}

-- a comma in a parenthesis
comma_in : (fs : List Frame) (around : Sum) (purpose : Purpose) (front sum : List Lexeme) (t : Tree)
    → IsFrame (AreFrames fs) (length fs) (record { around = around; purpose = purpose }) front
    → Parses (joined of_sum) (suc (length fs)) sum t
    → Stands (separated (record { around = around; purpose = purpose } ∷ fs) t) ((front ++ sum) ++ comma ∷ [])
comma_in fs around grouping front sum t g p = tt
comma_in fs around (no_operand bound) front sum t g p =
    reframed fs (record { around = around; purpose = no_operand bound }) (some_operands (extreme bound t)) front sum comma g (
      bound,
      g.purpose.0,
      λ ls u q.
          let whole : sum ++ comma ∷ ls ≡ (g.inner ++ (sum ++ comma ∷ [])) ++ ls =
          sym (append_assoc sum (comma ∷ []) ls) ∙ ap (λ xs. (xs ++ (sum ++ comma ∷ [])) ++ ls) (sym g.purpose.1) in
          Parses-as ((g.inner ++ (sum ++ comma ∷ [])) ++ ls) whole (two_operands bound (suc (length fs)) sum t ls u p q),
    )
comma_in fs around (some_operands others) front sum t g p =
    reframed fs (record { around = around; purpose = some_operands others }) (some_operands (also others t)) front sum comma g (
      g.purpose.0,
      g.purpose.1,
      λ ls u q.
          let whole : (g.inner ++ sum) ++ comma ∷ ls ≡ (g.inner ++ (sum ++ comma ∷ [])) ++ ls = simp append_assoc in
          Parses-as ((g.inner ++ (sum ++ comma ∷ [])) ++ ls) whole
          (more_operands g.purpose.0 (suc (length fs)) (g.inner ++ sum) (also others t) ls u (g.purpose.2 sum t p) q),
    )

pub stands-comma : (fs : List Frame) (t : Tree) (front : List Lexeme) → IsSumDone fs t front
    → Stands (separated fs t) (front ++ comma ∷ [])
stands-comma [] t front d = tt
stands-comma (f ∷ fs) t front d =
    subst (λ (xs : List Lexeme). Stands (separated (f ∷ fs) t) (xs ++ comma ∷ [])) (sym d.spelled)
    (comma_in fs f.around f.purpose d.outer d.sum t d.frames d.is)

-- the factor that a parenthesis closes
closed_factor : (fs : List Frame) (f : Frame) (front sum : List Lexeme) (t : Tree)
    (g : IsFrame (AreFrames fs) (length fs) f front)
    → Parses factor (length fs) (g.paren ∷ ((g.inner ++ sum) ++ closing ∷ [])) t
    → IsUpto fs f.around t ((front ++ sum) ++ closing ∷ [])
closed_factor fs f front sum t g p = record {
  start = g.outer ++ g.sum;
  last = g.paren ∷ ((g.inner ++ sum) ++ closing ∷ []);
  spelled = ap (λ xs. (xs ++ sum) ++ closing ∷ []) g.spelled ∙ simp append_assoc;
  starts = record { outer = g.outer; sum = g.sum; spelled = refl; frames = g.below; opened = g.around };
  is = p;
}

closing_in : (fs : List Frame) (around : Sum) (purpose : Purpose) (front sum : List Lexeme) (t : Tree)
    → IsFrame (AreFrames fs) (length fs) (record { around = around; purpose = purpose }) front
    → Parses (joined of_sum) (suc (length fs)) sum t
    → Stands (closed (record { around = around; purpose = purpose } ∷ fs) t) ((front ++ sum) ++ closing ∷ [])
closing_in fs around grouping front sum t g p =
    let whole : opening None ∷ (sum ++ closing ∷ []) ≡ g.paren ∷ ((g.inner ++ sum) ++ closing ∷ []) =
    ap (λ xs. opening None ∷ ((xs ++ sum) ++ closing ∷ [])) (sym g.purpose.1)
    ∙ ap (λ l. l ∷ ((g.inner ++ sum) ++ closing ∷ [])) (sym g.purpose.0) in
    closed_factor fs (record { around = around; purpose = grouping }) front sum t g
    (Parses-as (g.paren ∷ ((g.inner ++ sum) ++ closing ∷ [])) whole (in_parens (length fs) sum t g.few p))
closing_in fs around (no_operand bound) front sum t g p = tt
closing_in fs around (some_operands others) front sum t g p =
    closed_factor fs (record { around = around; purpose = some_operands others }) front sum (also others t) g
    (Parses-as (g.paren ∷ ((g.inner ++ sum) ++ closing ∷ []))
    (ap (λ l. l ∷ ((g.inner ++ sum) ++ closing ∷ [])) (sym g.purpose.1))
    (is_extreme (length fs) g.purpose.0 (g.inner ++ sum) (also others t) g.few (g.purpose.2 sum t p)))

pub stands-closing : (fs : List Frame) (t : Tree) (front : List Lexeme) → IsSumDone fs t front
    → Stands (closed fs t) (front ++ closing ∷ [])
stands-closing [] t front d = tt
stands-closing (f ∷ fs) t front d =
    subst (λ (xs : List Lexeme). Stands (closed (f ∷ fs) t) (xs ++ closing ∷ [])) (sym d.spelled)
    (closing_in fs f.around f.purpose d.outer d.sum t d.frames d.is)

-- one lexeme more
pub stands-step : (state : State) (front : List Lexeme) (l : Lexeme) → Stands state front
    → Stands (step state l) (front ++ l ∷ [])
stands-step (before fs s) front (literal n) b =
    upto fs s (number n.value n.unit) front (literal n) b (is_number (length fs) n)
stands-step (before fs s) front (word bytes) b = upto fs s (name bytes) front (word bytes) b (is_name (length fs) bytes)
stands-step (before fs s) front (operator op) b = tt
stands-step (before fs s) front (opening bound) b = stands-opening fs s front bound b
stands-step (before fs s) front comma b = tt
stands-step (before fs s) front closing b = tt
stands-step (behind fs s t) front (literal n) u = tt
stands-step (behind fs s t) front (word bytes) u = tt
stands-step (behind fs s t) front (operator op) u = stands-operator fs s t front op u
stands-step (behind fs s t) front (opening bound) u = tt
stands-step (behind fs s t) front comma u = stands-comma fs (total s t) front (sum_done fs s t front u)
stands-step (behind fs s t) front closing u = stands-closing fs (total s t) front (sum_done fs s t front u)
stands-step refused front l u = tt

-- more lexemes
pub stands-run : (state : State) (front ls : List Lexeme) → Stands state front → Stands (run state ls) (front ++ ls)
stands-run state front [] h = subst (Stands state) (sym (append-nil front)) h
stands-run state front (l ∷ ls) h =
    subst (Stands (run (step state l) ls)) (append_assoc front (l ∷ []) ls)
    (stands-run (step state l) (front ++ l ∷ []) ls (stands-step state front l h))

-- what is found at the end
at_end : (state : State) (ls : List Lexeme) (t : Tree) → Stands state ls → outcome state ≡ Some t
    → Parses (joined of_sum) 0 ls t
at_end (before fs s) ls t h e = let clash : ◌≡◌ {A = Option Tree} None (Some t) = e in cc
at_end (behind [] s x) ls t h e =
    let same : ◌≡◌ {A = Option Tree} (Some (total s x)) (Some t) = e in
    let is : total s x ≡ t = cc in
    let d = sum_done [] s x ls h in
    let whole : d.sum ≡ ls = ap (λ xs. xs ++ d.sum) (sym d.frames) ∙ sym d.spelled in
    subst (λ (u : Tree). Parses (joined of_sum) 0 ls u) is (Parses-as ls whole d.is)
at_end (behind (f ∷ fs) s x) ls t h e = let clash : ◌≡◌ {A = Option Tree} None (Some t) = e in cc
at_end refused ls t h e = let clash : ◌≡◌ {A = Option Tree} None (Some t) = e in cc

-- the tree that the run finds is that of the grammar
pub parsed_is_so : (ls : List Lexeme) (t : Tree) → parsed ls ≡ Some t → Parses (joined of_sum) 0 ls t
parsed_is_so ls t e =
    at_end (run (before [] nothing) ls) ls t
    (stands-run (before [] nothing) [] ls
    (record { outer = []; sum = []; spelled = refl; frames = refl; opened = open_nothing 0 })) e
