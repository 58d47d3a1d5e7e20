-- What the code reads of a text is what the text spells.
use Rattle.std.proofs.Common.{◌≡◌, ◌⊎◌, ℕ, zero, suc, ◌+◌, ◌-◌, ◌≤◌, ◌<◌, Bool, true, false, ◌&&◌, List, [], ◌∷◌, ◌++◌, length, length-append, drop, get_or, Option, Some, None, option_map, Result, Ok, Err, refl, sym, ap, subst, ◌∙◌, inl, inr, arith}
use Rattle.std.specs.List.{list_all}
use Rattle.std.proofs.lemmas.List.{drop_all, drop-drop}
use Rattle.std.proofs.Math.Bool.{and-true}
use Rattle.text_bytes.specs.Bytes.{is_blank}
use Rattle.expr_text.specs.Tree.{Tree, tree_of}
use Rattle.expr_text.specs.Lexeme.{Lexeme, is_in_range}
use Rattle.expr_text.specs.Spelling.{Spells, IsFault}
use Rattle.expr_text.specs.Front.{front_of, in_front, going, lexed}
use Rattle.expr_text.specs.Machine.{State, before, refused, nothing, step, run, outcome, parsed, outcome_from, read_of}
use Rattle.expr_text.specs.Memory.{state_of, Answers, ReadsFront, GoesOn, ReadsOn}
use Rattle.expr_text.specs.declared.expr.Expr.{Expr}
use Rattle.expr_text.specs.declared.read.Progress.{Progress}
use Rattle.expr_text.specs.declared.fault.ExprFault.{ExprFault}
use Rattle.expr_text.specs.declared.fault.ExprFault.TheVariants.{NoMemory, BadExpr, OutOfRange, UnknownName, ZeroDivisor}
use Rattle.expr_text.proofs.FrontLemmas.{front_is_so}
use Rattle.expr_text.proofs.LexedLemmas.{lexed-skipped, lexed-blank, lexed-front, lexed-nothing, lexed_is_so, so_is_lexed, are_apart}
use Rattle.expr_text.proofs.GrammarLemmas.{parsed_is_so}
use Rattle.expr_text.proofs.RunLemmas.{so_is_parsed}

-- two answers that are the same
pub same_answer : (s t : Tree) (a b : Bool) → ◌≡◌ {A = Option (Tree × Bool)} (Some (s, a)) (Some (t, b)) → (s ≡ t) × (a ≡ b)
same_answer s t a b e =
    let inner : ◌≡◌ {A = Tree × Bool} (s, a) (t, b) = cc in
    (ap (λ (p : Tree × Bool). p.0) inner, ap (λ (p : Tree × Bool). p.1) inner)

-- from the lexemes and their tree
spelled_by : (text : List ℕ) (t : Tree) (b : Bool) (found : Option (List Lexeme)) → lexed 0 text ≡ found
    → outcome_from (before [] nothing) true found ≡ Some (t, b)
    → Spells text t b
spelled_by text t b None is e = let clash : ◌≡◌ {A = Option (Tree × Bool)} None (Some (t, b)) = e in cc
spelled_by text t b (Some ls) is e = by_tree (parsed ls) refl e
  where
    by_tree : (tree : Option Tree) → parsed ls ≡ tree
        → option_map {U = Tree × Bool} (λ x. (x, list_all is_in_range ls)) tree ≡ Some (t, b) → Spells text t b
    by_tree None p h = let clash : ◌≡◌ {A = Option (Tree × Bool)} None (Some (t, b)) = h in cc
    by_tree (Some x) p h =
        let same = same_answer x t (list_all is_in_range ls) b h in
        record {
          lexemes = ls;
          reads = lexed_is_so 0 text ls is;
          parses = parsed_is_so ls t (p
              ∙ ap Some same.0);
          judged = same.1;
        }

-- what is read is spelled
pub read_is_so : (text : List ℕ) (t : Tree) (b : Bool) → read_of text ≡ Some (t, b) → Spells text t b
read_is_so text t b e = spelled_by text t b (lexed 0 text) refl e

-- what is spelled is read
pub so_is_read : (text : List ℕ) (t : Tree) (b : Bool) → Spells text t b → read_of text ≡ Some (t, b)
so_is_read text t b s =
    let tree = so_is_parsed s.lexemes t s.parses in
    let found = so_is_lexed s.lexemes text s.reads (are_apart (before [] nothing) s.lexemes t tree) in
    ap (outcome_from (before [] nothing) true) found
    ∙ ap (option_map (λ x. (x, list_all is_in_range s.lexemes))) tree
    ∙ ap (λ (r : Bool). Some (t, r)) s.judged

-- a text spells one expression at most
pub one_spelling : (text : List ℕ) (s t : Tree) (a b : Bool) → Spells text s a → Spells text t b → (s ≡ t) × (a ≡ b)
one_spelling text s t a b p q = same_answer s t a b (sym (so_is_read text s a p) ∙ so_is_read text t b q)

-- a text for which nothing is read spells nothing
pub none_spelled : (text : List ℕ) → read_of text ≡ None → IsFault text BadExpr
none_spelled text e =
    λ t b s. let clash : ◌≡◌ {A = Option (Tree × Bool)} None (Some (t, b)) = sym e ∙ so_is_read text t b s in cc

-- what the private call ensures
abbrev pub IsCode : List ℕ → Result (Expr × Bool) ExprFault → Type 0
IsCode text r = Answers (λ read. (tree_of read.0, read.1)) r (read_of text)

-- at an error of the private call
pub err_only : (text : List ℕ) (e : ExprFault) → IsCode text (Err e) → (t : Tree) (b : Bool) → Spells text t b → e ≡ NoMemory
err_only text e (inl n_memory) t b s = n_memory
err_only text e (inr bad) t b s = absurd (none_spelled text bad.1 t b s)

pub err_fault : (text : List ℕ) (e : ExprFault) → IsCode text (Err e) → (e ≡ NoMemory) ⊎ IsFault text e
err_fault text e (inl n_memory) = inl n_memory
err_fault text e (inr bad) = inr (subst (IsFault text) (sym bad.0) (none_spelled text bad.1))

pub err_refused : (text : List ℕ) (e : ExprFault) → IsCode text (Err e) → (fault : ExprFault) → IsFault text fault
    → (e ≡ NoMemory) ⊎ (e ≡ fault)
err_refused text e h NoMemory f = absurd f
err_refused text e (inl n_memory) BadExpr f = inl n_memory
err_refused text e (inr bad) BadExpr f = inr bad.0
err_refused text e h OutOfRange f = inl (err_only text e h f.0 false f.1)
err_refused text e h UnknownName f = absurd f
err_refused text e h ZeroDivisor f = absurd f

-- where all is in range
pub ok_found : (text : List ℕ) (x : Expr) (b : Bool) → read_of text ≡ Some (tree_of x, b) → b ≡ true
    → Spells text (tree_of x) true
ok_found text x b e t = subst (Spells text (tree_of x)) t (read_is_so text (tree_of x) b e)

pub ok_only : (text : List ℕ) (x : Expr) (b : Bool) → read_of text ≡ Some (tree_of x, b) → (t : Tree) → Spells text t true
    → tree_of x ≡ t
ok_only text x b e t s = (one_spelling text (tree_of x) t b true (read_is_so text (tree_of x) b e) s).0

pub ok_refused : (text : List ℕ) (x : Expr) (b : Bool) → read_of text ≡ Some (tree_of x, b) → b ≡ true → (fault : ExprFault)
    → IsFault text fault → ⊥
ok_refused text x b e t NoMemory f = f
ok_refused text x b e t BadExpr f = f (tree_of x) b (read_is_so text (tree_of x) b e)
ok_refused text x b e t OutOfRange f =
    let clash : true ≡ false = sym t ∙ (one_spelling text (tree_of x) f.0 b false (read_is_so text (tree_of x) b e) f.1).1 in
    cc
ok_refused text x b e t UnknownName f = f
ok_refused text x b e t ZeroDivisor f = f

-- where not all is in range
pub out_only : {A : Type 0} (text : List ℕ) (x : Expr) (b : Bool) → read_of text ≡ Some (tree_of x, b) → b ≡ false
    → (t : Tree) → Spells text t true → A
out_only text x b e f t s =
    let clash : false ≡ true = sym f ∙ (one_spelling text (tree_of x) t b true (read_is_so text (tree_of x) b e) s).1 in
    cc

pub out_fault : (text : List ℕ) (x : Expr) (b : Bool) → read_of text ≡ Some (tree_of x, b) → b ≡ false
    → IsFault text OutOfRange
out_fault text x b e f = (tree_of x, subst (Spells text (tree_of x)) f (read_is_so text (tree_of x) b e))

pub out_refused : (text : List ℕ) (x : Expr) (b : Bool) → read_of text ≡ Some (tree_of x, b) → (fault : ExprFault)
    → IsFault text fault
    → ◌≡◌ {A = ExprFault} OutOfRange fault
out_refused text x b e NoMemory f = absurd f
out_refused text x b e BadExpr f = absurd (f (tree_of x) b (read_is_so text (tree_of x) b e))
out_refused text x b e OutOfRange f = refl
out_refused text x b e UnknownName f = absurd f
out_refused text x b e ZeroDivisor f = absurd f

-- behind one lexeme more
after_lexeme : (s : State) (r : Bool) (l : Lexeme) (o : Option (List Lexeme))
    → outcome_from s r (in_front l o) ≡ outcome_from (step s l) (r && is_in_range l) o
after_lexeme s r l None = refl
after_lexeme s r l (Some ls) =
    ap (λ (b : Bool). option_map (λ t. (t, b)) (outcome (run (step s l) ls)))
    (sym (assoc r (is_in_range l) (list_all is_in_range ls)))
  where
    assoc : (a b c : Bool) → ((a && b) && c) ≡ (a && (b && c))
    assoc true b c = refl
    assoc false b c = refl

-- a refusal is the end
refused_ends : (s : State) (r : Bool) (o : Option (List Lexeme)) → s ≡ refused → outcome_from s r o ≡ None
refused_ends s r None e = refl
refused_ends s r (Some ls) e =
    ap (λ (x : State). option_map (λ t. (t, r && list_all is_in_range ls)) (outcome (run x ls))) e ∙ stays ls
  where
    stays : (xs : List Lexeme)
        → option_map {U = Tree × Bool} (λ t. (t, r && list_all is_in_range ls)) (outcome (run refused xs)) ≡ None
    stays [] = refl
    stays (x ∷ xs) = stays xs

-- a blank changes nothing
pub over_blank : (text : List ℕ) (p : Progress) (s : State) → 0 < length text → is_blank (get_or text 0 0) ≡ true
    → state_of p.reader ≡ s → p.in_range ≡ true → p.len ≡ 1
    → GoesOn p s text
over_blank [] p s some blank state in_range len = absurd (omega (arith, some))
over_blank (b ∷ text) p s some blank state in_range len = record {
  some = omega (arith, len);
  within = omega (arith, len);
  same = λ r.
      let rest : drop p.len (b ∷ text) ≡ text = ap (λ n. drop n (b ∷ text)) len in
      ap (outcome_from s r) (lexed-blank b text blank ∙ ap (lexed 0) (sym rest))
      ∙ ap (λ (x : State). outcome_from x r (lexed 0 (drop p.len (b ∷ text)))) (sym state)
      ∙ ap (λ (x : Bool). outcome_from (state_of p.reader) x (lexed 0 (drop p.len (b ∷ text))))
      (sym (ap (λ (x : Bool). r && x) in_range ∙ and-true r));
}

-- bytes behind a front
behind_front : (b : ℕ) (text : List ℕ) (n : ℕ) → 0 < n → drop n (b ∷ text) ≡ drop (n - 1) text
behind_front b text zero h = absurd (omega (arith, h))
behind_front b text (suc n) h = ap (λ m. drop m text) (omega arith)

-- where no lexeme stands, nothing is read
stops : (b : ℕ) (text : List ℕ) (s : State) (r : Bool) → is_blank b ≡ false → front_of (b ∷ text) ≡ None
    → outcome_from s r (lexed 0 (b ∷ text)) ≡ None
stops b text s r other found =
    ap (outcome_from s r) (lexed-front b text other ∙ ap (λ (f : Option (Lexeme × ℕ)). going f (λ n. lexed n text)) found)

-- the next lexeme
next_is : (b : ℕ) (text : List ℕ) (s : State) (r : Bool) (f : Lexeme × ℕ) → is_blank b ≡ false → front_of (b ∷ text) ≡ Some f
    → 0 < f.1
    → outcome_from s r (lexed 0 (b ∷ text)) ≡ outcome_from (step s f.0) (r && is_in_range f.0) (lexed 0 (drop f.1 (b ∷ text)))
next_is b text s r f other found some =
    ap (outcome_from s r) (lexed-front b text other ∙ ap (λ (x : Option (Lexeme × ℕ)). going x (λ n. lexed n text)) found)
    ∙ (after_lexeme s r f.0 (lexed (f.1 - 1) text)
    ∙ ap (outcome_from (step s f.0) (r && is_in_range f.0)) (lexed-skipped (f.1 - 1) text
    ∙ ap (lexed 0) (sym (behind_front b text f.1 some))))

-- a front lies within the text
front_within : (text piece rest : List ℕ) (n : ℕ) → text ≡ piece ++ rest → n ≡ length piece → n ≤ length text
front_within text piece rest n e is = omega (arith, is, ap length e, length-append piece rest)

-- from the front of a text to the whole
from_front : (b : ℕ) (text : List ℕ) (r : Result Progress ExprFault) (s : State) (front : Option (Lexeme × ℕ))
    → is_blank b ≡ false → front_of (b ∷ text) ≡ front
    → ReadsFront r s front → ReadsOn r s (b ∷ text)
from_front b text (Ok p) s None other found h = absurd h
from_front b text (Ok p) s (Some f) other found h =
    let is = front_is_so b text f.0 f.1 found in record {
      some = omega (arith, is.some, h.2);
      within = omega (arith, front_within (b ∷ text) is.piece is.rest f.1 is.spelled is.length_is, h.2);
      same = λ r.
          next_is b text s r f other found is.some
          ∙ ap (λ (n : ℕ). outcome_from (step s f.0) (r && is_in_range f.0) (lexed 0 (drop n (b ∷ text)))) (sym h.2)
          ∙ ap (λ (x : State). outcome_from x (r && is_in_range f.0) (lexed 0 (drop p.len (b ∷ text)))) (sym h.0)
          ∙ ap (λ (x : Bool). outcome_from (state_of p.reader) (r && x) (lexed 0 (drop p.len (b ∷ text)))) (sym h.1);
    }
from_front b text (Err e) s None other found h = inr (h, λ r. stops b text s r other found)
from_front b text (Err e) s (Some f) other found (inl n_memory) = inl n_memory
from_front b text (Err e) s (Some f) other found (inr bad) =
    let is = front_is_so b text f.0 f.1 found in
    inr (
      bad.0,
      λ r. next_is b text s r f other found is.some
          ∙ refused_ends (step s f.0) (r && is_in_range f.0) (lexed 0 (drop f.1 (b ∷ text))) bad.1,
    )

pub over_front : (text : List ℕ) (r : Result Progress ExprFault) (s : State) → 0 < length text
    → is_blank (get_or text 0 0) ≡ false → ReadsFront r s (front_of text)
    → ReadsOn r s text
over_front [] r s some other h = absurd (omega (arith, some))
over_front (b ∷ text) r s some other h = from_front b text r s (front_of (b ∷ text)) other refl h

-- the loop: what was read behind the front
pub goes_on : (text : List ℕ) (at : ℕ) (s : State) (r : Bool) (p : Progress) (o : Option (Tree × Bool))
    → outcome_from s r (lexed 0 (drop at text)) ≡ o
    → GoesOn p s (drop at text) → outcome_from (state_of p.reader) (r && p.in_range) (lexed 0 (drop (at + p.len) text)) ≡ o
goes_on text at s r p o e g =
    ap (λ (xs : List ℕ). outcome_from (state_of p.reader) (r && p.in_range) (lexed 0 xs)) (sym (drop-drop p.len at text))
    ∙ sym (g.same r) ∙ e

-- at the text's end
pub ends_at : (text : List ℕ) (at : ℕ) (s : State) (r : Bool) (o : Option (Tree × Bool)) → length text ≤ at
    → outcome_from s r (lexed 0 (drop at text)) ≡ o
    → o ≡ option_map (λ t. (t, r)) (outcome s)
ends_at text at s r o h e =
    sym e ∙ ap (λ (xs : List ℕ). outcome_from s r (lexed 0 xs)) (drop_all at text h) ∙ ap (outcome_from s r) lexed-nothing
    ∙ ap (λ (b : Bool). option_map (λ t. (t, b)) (outcome s)) (and-true r)
