-- The evaluation that is computed from texts is that of the language, and there is no other.
use Rattle.std.proofs.Common.{◌≡◌, ℕ, Bool, true, false, List, Option, Some, None, Result, Err, refl, sym, ap, ◌∙◌}
use Rattle.stil_ast.specs.Meaning.Times.{Met, in_text, Times}
use Rattle.expr_text.specs.Ratio.{Ratio}
use Rattle.expr_text.specs.Tree.{Tree}
use Rattle.expr_text.specs.Spelling.{IsFault}
use Rattle.expr_text.specs.Machine.{read_of}
use Rattle.time_expr.specs.NamedValue.{kind_of}
use Rattle.time_expr.specs.TimesOf.{AreOfLanguage, value_read, times_of}
use Rattle.expr_text.specs.declared.fault.ExprFault.{ExprFault}
use Rattle.expr_text.specs.declared.fault.ExprFault.TheVariants.{NoMemory, BadExpr, OutOfRange, UnknownName, ZeroDivisor}
use Rattle.expr_text.proofs.ReadLemmas.{read_is_so, so_is_read, none_spelled}

-- the answer at a fault, by what is read
at_fault : (names : List ℕ → Result Ratio Met) (text : List ℕ) (fault : ExprFault) → IsFault text fault
    → (read : Option (Tree × Bool)) → read_of text ≡ read
    → value_read names read ≡ Err (in_text (kind_of fault))
at_fault names text NoMemory f read e = absurd f
at_fault names text BadExpr f None e = refl
at_fault names text BadExpr f (Some (t, b)) e = absurd (f t b (read_is_so text t b e))
at_fault names text OutOfRange f read e =
    ap (value_read names) (sym e ∙ so_is_read text f.0 false f.1)
at_fault names text UnknownName f read e = absurd f
at_fault names text ZeroDivisor f read e = absurd f

-- the evaluation computed from texts is that of the language
pub times_of_is : AreOfLanguage times_of
times_of_is = record {
  spelled = λ names text tree s. ap (value_read names) (so_is_read text tree true s);
  refused = λ names text fault f. at_fault names text fault f (read_of text) refl;
  whole = λ value. refl;
}

-- two evaluations of the language agree at each text
value_alike : (a b : Times Ratio) → AreOfLanguage a → AreOfLanguage b → (names : List ℕ → Result Ratio Met)
    → (text : List ℕ) (read : Option (Tree × Bool)) → read_of text ≡ read
    → a.value names text ≡ b.value names text
value_alike a b p q names text None e =
    p.refused names text BadExpr (none_spelled text e) ∙ sym (q.refused names text BadExpr (none_spelled text e))
value_alike a b p q names text (Some (t, true)) e =
    p.spelled names text t (read_is_so text t true e) ∙ sym (q.spelled names text t (read_is_so text t true e))
value_alike a b p q names text (Some (t, false)) e =
    p.refused names text OutOfRange (t, read_is_so text t false e)
    ∙ sym (q.refused names text OutOfRange (t, read_is_so text t false e))

pub one_value : (a b : Times Ratio) → AreOfLanguage a → AreOfLanguage b → (names : List ℕ → Result Ratio Met)
    → (text : List ℕ) → a.value names text ≡ b.value names text
one_value a b p q names text = value_alike a b p q names text (read_of text) refl

pub one_whole : (a b : Times Ratio) → AreOfLanguage a → AreOfLanguage b → (value : Ratio)
    → a.whole value ≡ b.whole value
one_whole a b p q value = p.whole value ∙ sym (q.whole value)

-- so there is one evaluation of the language
pub one_evaluation : (a b : Times Ratio) → AreOfLanguage a → AreOfLanguage b → a ≡ b
one_evaluation a b p q = λ i. record {
  value = λ names text. one_value a b p q names text i;
  whole = λ value. one_whole a b p q value i;
}
