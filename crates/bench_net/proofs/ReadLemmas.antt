-- A text has one netlist or one refusal, and never both.
use Rattle.std.proofs.Common.{◌≡◌, ℕ, ◌<◌, true, List, [], length, get_or, Option, Some, None, Result, Ok, Err, refl, sym, ap, ◌∙◌, subst, arith, inl, inr}
use Rattle.std.specs.Prelude.{◌⊎◌, MatchResult}
use Rattle.std.proofs.lemmas.Bool.{cases_order, both_ways}
use Rattle.std.specs.List.{list_any}
use Rattle.std.specs.Str.{bytes_eq}
use Rattle.bench_net.specs.declared.fault.NetFault.{NetFault}
use Rattle.bench_net.specs.declared.fault.NetFault.TheVariants.{NoMemory, Line, OutOfRange, Arity, Twice, Missing, Loop}
use Rattle.bench_net.specs.Wiring.{IsReached}
use Rattle.bench_net.specs.Circuit.{Circuit, Net, number}
use Rattle.bench_net.specs.Line.{Form, nothing, input, output, gate}
use Rattle.bench_net.specs.Net.{Reads, named, names, net_of, IsDriven, IsNet}
use Rattle.bench_net.specs.Fault.{Answers, IsReachedLine, IsLoopLine, IsFirstLoop, IsRefusal, IsFault}
use Rattle.bench_net.proofs.NamesLemmas.{numbers_within, number-within}
use Rattle.bench_net.proofs.TextLemmas.{one_reading, no_bad_line, one_bad_line}

-- a text names one net list at most
pub one_net : (bytes : List ℕ) (m n : Net) → IsNet bytes m → IsNet bytes n → m ≡ n
one_net bytes m n h k = h.net_is ∙ ap net_of (one_reading bytes h.forms k.forms h.reads k.reads)
    ∙ sym k.net_is

-- what is absent isn't there
apart : {A : Type 0} (o : Option A) (x : A) → o ≡ None → o ≡ Some x → ⊥
apart o x e h = cc

-- what is there is one thing
same_some : {A : Type 0} (o : Option A) (x y : A) → o ≡ Some x → o ≡ Some y → x ≡ y
same_some o x y e h = cc

-- a line of a loop is not reached
loop_unreached : (forms : List Form) (f : Form) (name : List ℕ) → IsLoopLine forms f name
    → IsReachedLine forms f → ⊥
loop_unreached forms nothing name h r = h
loop_unreached forms (input n) name h r = h
loop_unreached forms (output n) name h r = h
loop_unreached forms (gate n f pins) name h r = both_ways
    (h.1.set (number (names forms) n)) h.1.outside (r h.1.set h.1.closed)

-- where all nets are reached, each line's is
line_reached : (forms : List Form)
    → ((n : ℕ) → n < length (names forms) → IsReached (net_of forms).drivers n) → (k : ℕ)
    → k < length forms → (f : Form) → get_or forms k nothing ≡ f → IsReachedLine forms f
line_reached forms all k l nothing e = tt
line_reached forms all k l (input n) e = tt
line_reached forms all k l (output n) e = tt
line_reached forms all k l (gate n f pins) e =
    let there = subst (λ (g : Form). (i : ℕ) (d : List ℕ) → i < length (named g)
    → list_any (bytes_eq (get_or (named g) i d)) (names forms)
    ≡ true) e (numbers_within forms k nothing l) in
    all (number (names forms) n) (number-within forms n (there 0 [] (omega arith)))

-- what a netlist is known by has no refusal
no_refusal : (forms : List Form) (f : NetFault) → IsRefusal forms f → IsDriven forms
    → ((n : ℕ) → n < length (names forms) → IsReached (net_of forms).drivers n) → ⊥
no_refusal forms NoMemory h d r = h
no_refusal forms (Line n) h d r = h
no_refusal forms OutOfRange h d r = absurd (omega (arith, h, d.in_range))
no_refusal forms (Arity n) h d r = apart _ n d.arity h.1
no_refusal forms (Twice n) h d r = apart _ n d.once h.2
no_refusal forms (Missing n) h d r = apart _ n d.all h.3
no_refusal forms (Loop n) h d r =
    loop_unreached forms (get_or forms h.1.place nothing) n h.1.loop
    (line_reached forms r h.1.place h.1.within (get_or forms h.1.place nothing) refl)

-- the refusal of lines that are read
of_lines : (bytes : List ℕ) (f : NetFault) (forms : List Form) → Reads bytes forms → IsFault bytes f
    → IsRefusal forms f
of_lines bytes NoMemory forms r h = h
of_lines bytes (Line n) forms r h = absurd (no_bad_line bytes forms n r h)
of_lines bytes OutOfRange forms r h = subst (λ (fs : List Form). IsRefusal fs OutOfRange)
    (one_reading bytes h.0 forms h.1 r) h.2
of_lines bytes (Arity n) forms r h = subst (λ (fs : List Form). IsRefusal fs (Arity n))
    (one_reading bytes h.0 forms h.1 r) h.2
of_lines bytes (Twice n) forms r h = subst (λ (fs : List Form). IsRefusal fs (Twice n))
    (one_reading bytes h.0 forms h.1 r) h.2
of_lines bytes (Missing n) forms r h = subst (λ (fs : List Form). IsRefusal fs (Missing n))
    (one_reading bytes h.0 forms h.1 r) h.2
of_lines bytes (Loop n) forms r h = subst (λ (fs : List Form). IsRefusal fs (Loop n))
    (one_reading bytes h.0 forms h.1 r) h.2

-- a text that names a net list is not refused
pub no_fault_where_net : (bytes : List ℕ) (net : Net) (f : NetFault) → IsNet bytes net → IsFault bytes f
    → ⊥
no_fault_where_net bytes net f n h =
    no_refusal n.forms f (of_lines bytes f n.forms n.reads h) n.driven_once
    (λ k l. subst (λ (m : Net). IsReached m.drivers k) n.net_is
    (n.reached k (subst (λ (m : Net). k < length m.names) (sym n.net_is) l)))

-- the net of a line of a loop is the line's
same_name : (forms : List Form) (f : Form) (m n : List ℕ) → IsLoopLine forms f m
    → IsLoopLine forms f n → m ≡ n
same_name forms nothing m n h k = absurd h
same_name forms (input x) m n h k = absurd h
same_name forms (output x) m n h k = absurd h
same_name forms (gate x f pins) m n h k = h.0 ∙ sym k.0

-- the first line of a loop has one net
one_loop : (forms : List Form) (m n : List ℕ) → IsFirstLoop forms m → IsFirstLoop forms n → m ≡ n
one_loop forms m n h k =
    elim (cases_order h.place k.place) [
      | inl e ↦ same_name forms (get_or forms k.place nothing) m n
          (subst (λ (i : ℕ). IsLoopLine forms (get_or forms i nothing) m) e h.loop) k.loop
      | inr o ↦ elim o [
        | inl l ↦ absurd (loop_unreached forms (get_or forms h.place nothing) m h.loop
            (k.before h.place l))
        | inr g ↦ absurd (loop_unreached forms (get_or forms k.place nothing) n k.loop
            (h.before k.place g))
      ]
    ]

-- lines have one first refusal at most
one_refusal : (forms : List Form) (f g : NetFault) → IsRefusal forms f → IsRefusal forms g → f ≡ g
one_refusal forms NoMemory g h k = absurd h
one_refusal forms (Line n) g h k = absurd h
one_refusal forms OutOfRange NoMemory h k = absurd k
one_refusal forms OutOfRange (Line n) h k = absurd k
one_refusal forms OutOfRange OutOfRange h k = refl
one_refusal forms OutOfRange (Arity n) h k = absurd (omega (arith, h, k.0))
one_refusal forms OutOfRange (Twice n) h k = absurd (omega (arith, h, k.0))
one_refusal forms OutOfRange (Missing n) h k = absurd (omega (arith, h, k.0))
one_refusal forms OutOfRange (Loop n) h k = absurd (omega (arith, h, k.0.in_range))
one_refusal forms (Arity m) NoMemory h k = absurd k
one_refusal forms (Arity m) (Line n) h k = absurd k
one_refusal forms (Arity m) OutOfRange h k = absurd (omega (arith, k, h.0))
one_refusal forms (Arity m) (Arity n) h k = ap Arity (same_some _ m n h.1 k.1)
one_refusal forms (Arity m) (Twice n) h k = absurd (apart _ m k.1 h.1)
one_refusal forms (Arity m) (Missing n) h k = absurd (apart _ m k.1 h.1)
one_refusal forms (Arity m) (Loop n) h k = absurd (apart _ m k.0.arity h.1)
one_refusal forms (Twice m) NoMemory h k = absurd k
one_refusal forms (Twice m) (Line n) h k = absurd k
one_refusal forms (Twice m) OutOfRange h k = absurd (omega (arith, k, h.0))
one_refusal forms (Twice m) (Arity n) h k = absurd (apart _ n h.1 k.1)
one_refusal forms (Twice m) (Twice n) h k = ap Twice (same_some _ m n h.2 k.2)
one_refusal forms (Twice m) (Missing n) h k = absurd (apart _ m k.2 h.2)
one_refusal forms (Twice m) (Loop n) h k = absurd (apart _ m k.0.once h.2)
one_refusal forms (Missing m) NoMemory h k = absurd k
one_refusal forms (Missing m) (Line n) h k = absurd k
one_refusal forms (Missing m) OutOfRange h k = absurd (omega (arith, k, h.0))
one_refusal forms (Missing m) (Arity n) h k = absurd (apart _ n h.1 k.1)
one_refusal forms (Missing m) (Twice n) h k = absurd (apart _ n h.2 k.2)
one_refusal forms (Missing m) (Missing n) h k = ap Missing (same_some _ m n h.3 k.3)
one_refusal forms (Missing m) (Loop n) h k = absurd (apart _ m k.0.all h.3)
one_refusal forms (Loop m) NoMemory h k = absurd k
one_refusal forms (Loop m) (Line n) h k = absurd k
one_refusal forms (Loop m) OutOfRange h k = absurd (omega (arith, k, h.0.in_range))
one_refusal forms (Loop m) (Arity n) h k = absurd (apart _ n h.0.arity k.1)
one_refusal forms (Loop m) (Twice n) h k = absurd (apart _ n h.0.once k.2)
one_refusal forms (Loop m) (Missing n) h k = absurd (apart _ n h.0.all k.3)
one_refusal forms (Loop m) (Loop n) h k = ap Loop (one_loop forms m n h.1 k.1)

-- a text is refused in one way at most
pub one_fault : (bytes : List ℕ) (f g : NetFault) → IsFault bytes f → IsFault bytes g → f ≡ g
one_fault bytes NoMemory g h k = absurd h
one_fault bytes (Line m) NoMemory h k = absurd k
one_fault bytes (Line m) (Line n) h k = ap Line (one_bad_line bytes m n h k)
one_fault bytes (Line m) OutOfRange h k = absurd (no_bad_line bytes k.0 m k.1 h)
one_fault bytes (Line m) (Arity n) h k = absurd (no_bad_line bytes k.0 m k.1 h)
one_fault bytes (Line m) (Twice n) h k = absurd (no_bad_line bytes k.0 m k.1 h)
one_fault bytes (Line m) (Missing n) h k = absurd (no_bad_line bytes k.0 m k.1 h)
one_fault bytes (Line m) (Loop n) h k = absurd (no_bad_line bytes k.0 m k.1 h)
one_fault bytes OutOfRange g h k = one_refusal h.0 OutOfRange g h.2 (of_lines bytes g h.0 h.1 k)
one_fault bytes (Arity m) g h k = one_refusal h.0 (Arity m) g h.2 (of_lines bytes g h.0 h.1 k)
one_fault bytes (Twice m) g h k = one_refusal h.0 (Twice m) g h.2 (of_lines bytes g h.0 h.1 k)
one_fault bytes (Missing m) g h k = one_refusal h.0 (Missing m) g h.2 (of_lines bytes g h.0 h.1 k)
one_fault bytes (Loop m) g h k = one_refusal h.0 (Loop m) g h.2 (of_lines bytes g h.0 h.1 k)

-- an answer for a text that names a net list
pub only_net : (bytes : List ℕ) (r : Result Circuit NetFault) → Answers (λ n. IsNet bytes n.net) (IsFault bytes) r
    → (net : Net) → IsNet bytes net → MatchResult r (λ n. n.net ≡ net) (λ e. e ≡ NoMemory)
only_net bytes (Ok n) found net h = one_net bytes n.net net found h
only_net bytes (Err e) fault net h = elim fault [
  | inl m ↦ m
  | inr f ↦ absurd (no_fault_where_net bytes net e h f)
]

-- an answer for a text that has a fault
pub only_refused : (bytes : List ℕ) (r : Result Circuit NetFault) → Answers (λ n. IsNet bytes n.net) (IsFault bytes) r
    → (f : NetFault) → IsFault bytes f → MatchResult r (λ _. ⊥) (λ e. (e ≡ NoMemory) ⊎ (e ≡ f))
only_refused bytes (Ok n) found f h = no_fault_where_net bytes n.net f found h
only_refused bytes (Err e) fault f h = elim fault [
  | inl m ↦ inl m
  | inr g ↦ inr (one_fault bytes e f g h)
]
