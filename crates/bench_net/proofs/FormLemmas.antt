-- The parts of a line say one thing at most, and what the code takes them to say is it.
use Rattle.std.proofs.Common.{◌≡◌, ℕ, ◌<◌, true, false, List, [], ◌∷◌, length, Option, Some, None, refl, sym, ap, ◌∙◌, subst, arith}
use Rattle.std.specs.Prelude.{codes, Result, Ok, Err, IfOk, MatchOption}
use Rattle.std.specs.List.{AllPass}
use Rattle.std.specs.Option.{option_map, option_and_then}
use Rattle.std.specs.Str.{bytes_eq, str_to_ascii_lowercase, str_eq_ignore_ascii_case}
use Rattle.std.specs.Cmp.Lexicographic.{bytes_decides}
use Rattle.std.proofs.lemmas.List.Elements.{All-nil, All-cons, All-head, All-tail}
use Rattle.std.proofs.lemmas.Bool.{cond_both}
use Rattle.bench_net.specs.Gates.{function_of}
use Rattle.bench_net.specs.declared.gate.Function.{Function}
use Rattle.bench_net.specs.declared.line.Line.{Line}
use Rattle.bench_net.specs.declared.line.Delimiter.TheVariants.{Open, Close, Comma, Equals}
use Rattle.bench_net.specs.Line.{Lexeme, word, delimiter, Form, nothing, input, output, gate, is_net, listed, Writes, Says, Spells}
use Rattle.bench_net.specs.Step.{enclosed_of, last_pin, pins_read, call_of, declared_of, after_word, line_of}
use Rattle.bench_net.specs.Views.{form_of}
use Rattle.bench_net.proofs.LineLemmas.{one_spelling}

lower_is : (w k : List ℕ) → str_eq_ignore_ascii_case w k ≡ true → str_to_ascii_lowercase w
    ≡ str_to_ascii_lowercase k
lower_is w k e = (bytes_decides (str_to_ascii_lowercase w) (str_to_ascii_lowercase k)).0 e

pins_read-listed : (pins : List (List ℕ)) → 0 < length pins → AllPass is_net pins
    → pins_read (listed pins) ≡ Some pins
pins_read-listed [] some all = absurd (omega arith)
pins_read-listed (p ∷ []) some all = let e = All-head (λ x. is_net x ≡ true) p [] all in rw (e) refl
pins_read-listed (p ∷ q ∷ ps) some all =
    let e = All-head (λ x. is_net x ≡ true) p (q ∷ ps) all in
    rw (e) (ap (option_map (λ ns. p ∷ ns))
    (pins_read-listed (q ∷ ps) (omega arith) (All-tail (λ x. is_net x ≡ true) p (q ∷ ps) all)))

output_no_input : (w : List ℕ) → str_eq_ignore_ascii_case w (codes "OUTPUT") ≡ true
    → str_eq_ignore_ascii_case w (codes "INPUT") ≡ false
output_no_input w e = ap (λ t. bytes_eq t (str_to_ascii_lowercase (codes "INPUT")))
    (lower_is w (codes "OUTPUT") e)

-- what the parts say is what the code takes them to say
pub line_of-Writes : (f : Form) (ps : List Lexeme) → Writes f ps → line_of ps ≡ Some f
line_of-Writes nothing ps h = ap line_of h
line_of-Writes (input n) ps h = ap line_of h.3 ∙ rw (h.1, h.2) refl
line_of-Writes (output n) ps h = ap line_of h.3 ∙ rw (output_no_input h.0 h.1, h.1, h.2) refl
line_of-Writes (gate n f pins) ps h =
    ap line_of h.5
    ∙ rw (h.2) (ap (option_and_then (λ g. option_map (gate n g) (pins_read (listed pins)))) h.1
    ∙ ap (option_map (gate n f)) (pins_read-listed pins h.3 h.4))

-- what a net read in parentheses says of the parts
abbrev EnclosedIs : List Lexeme → Option (List ℕ) → Type 0
EnclosedIs ps None = Unit {0}
EnclosedIs ps (Some n) = (is_net n ≡ true) × (ps ≡ word n ∷ delimiter Close ∷ [])

enclosed_is : (ps : List Lexeme) → EnclosedIs ps (enclosed_of ps)
enclosed_is [] = tt
enclosed_is (delimiter m ∷ ps) = tt
enclosed_is (word n ∷ []) = tt
enclosed_is (word n ∷ word v ∷ ps) = tt
enclosed_is (word n ∷ delimiter Open ∷ ps) = tt
enclosed_is (word n ∷ delimiter Comma ∷ ps) = tt
enclosed_is (word n ∷ delimiter Equals ∷ ps) = tt
enclosed_is (word n ∷ delimiter Close ∷ []) = cond_both (is_net n) _ _
    (EnclosedIs (word n ∷ delimiter Close ∷ [])) (λ e. (e, refl)) (λ _. tt)
enclosed_is (word n ∷ delimiter Close ∷ p ∷ ps) = tt

-- what a list of pins read says of the parts
abbrev PinsAre : List Lexeme → Option (List (List ℕ)) → Type 0
PinsAre ps None = Unit {0}
PinsAre ps (Some ns) = (0 < length ns) × AllPass is_net ns × (ps ≡ listed ns)

first_pin : (n : List ℕ) (ps : List Lexeme) → is_net n ≡ true → (o : Option (List (List ℕ)))
    → PinsAre ps o → PinsAre (word n ∷ delimiter Comma ∷ ps) (option_map (λ ns. n ∷ ns) o)
first_pin n ps e None h = tt
first_pin n ps e (Some []) h = absurd (omega (arith, h.0))
first_pin n ps e (Some (m ∷ ns)) h = (
  omega arith,
  All-cons (λ x. is_net x
      ≡ true) n (m ∷ ns) e h.1,
  ap (λ t. word n ∷ delimiter Comma ∷ t) h.2,
)

last_pin_is : (n : List ℕ) → is_net n ≡ true → (ps : List Lexeme)
    → PinsAre (word n ∷ delimiter Close ∷ ps) (option_map (λ ns. n ∷ ns) (last_pin ps))
last_pin_is n e [] = (
  omega arith,
  All-cons (λ x. is_net x ≡ true) n [] e
      (All-nil (λ x. is_net x ≡ true)),
  refl,
)
last_pin_is n e (p ∷ ps) = tt

pins_are : (ps : List Lexeme) → PinsAre ps (pins_read ps)
pins_are [] = tt
pins_are (delimiter m ∷ ps) = tt
pins_are (word n ∷ []) = tt
pins_are (word n ∷ word v ∷ ps) = tt
pins_are (word n ∷ delimiter Open ∷ ps) = tt
pins_are (word n ∷ delimiter Equals ∷ ps) = tt
pins_are (word n ∷ delimiter Comma ∷ ps) =
    cond_both (is_net n) _ _ (PinsAre (word n ∷ delimiter Comma ∷ ps))
    (λ e. first_pin n ps e (pins_read ps) (pins_are ps)) (λ _. tt)
pins_are (word n ∷ delimiter Close ∷ ps) =
    cond_both (is_net n) _ _ (PinsAre (word n ∷ delimiter Close ∷ ps)) (λ e. last_pin_is n e ps)
    (λ _. tt)

-- what a form read says of the parts
abbrev FormIs : List Lexeme → Option Form → Type 0
FormIs ps None = Unit {0}
FormIs ps (Some f) = Writes f ps

input_is : (w : List ℕ) (ps : List Lexeme) → str_eq_ignore_ascii_case w (codes "INPUT") ≡ true
    → (o : Option (List ℕ)) → EnclosedIs ps o
    → FormIs (word w ∷ delimiter Open ∷ ps) (option_map input o)
input_is w ps e None h = tt
input_is w ps e (Some n) h = (w, e, h.0, ap (λ t. word w ∷ delimiter Open ∷ t) h.1)

output_is : (w : List ℕ) (ps : List Lexeme) → str_eq_ignore_ascii_case w (codes "OUTPUT") ≡ true
    → (o : Option (List ℕ)) → EnclosedIs ps o
    → FormIs (word w ∷ delimiter Open ∷ ps) (option_map output o)
output_is w ps e None h = tt
output_is w ps e (Some n) h = (w, e, h.0, ap (λ t. word w ∷ delimiter Open ∷ t) h.1)

gate_is : (n w : List ℕ) (ps : List Lexeme) → is_net n ≡ true → (f : Function) → function_of w
    ≡ Some f → (o : Option (List (List ℕ))) → PinsAre ps o
    → FormIs (word n ∷ delimiter Equals ∷ word w ∷ delimiter Open ∷ ps) (option_map (gate n f) o)
gate_is n w ps e f k None h = tt
gate_is n w ps e f k (Some pins) h =
    (w, k, e, h.0, h.1, ap (λ t. word n ∷ delimiter Equals ∷ word w ∷ delimiter Open ∷ t) h.2)

function_then : (n w : List ℕ) (ps : List Lexeme) → is_net n ≡ true → (o : Option Function)
    → function_of w ≡ o → FormIs (word n ∷ delimiter Equals ∷ word w ∷ delimiter Open ∷ ps)
    (option_and_then (λ f. option_map (gate n f) (pins_read ps)) o)
function_then n w ps e None h = tt
function_then n w ps e (Some f) h = gate_is n w ps e f h (pins_read ps) (pins_are ps)

call_is : (n : List ℕ) → is_net n ≡ true → (ps : List Lexeme)
    → FormIs (word n ∷ delimiter Equals ∷ ps) (call_of n ps)
call_is n e [] = tt
call_is n e (delimiter m ∷ ps) = tt
call_is n e (word w ∷ []) = tt
call_is n e (word w ∷ word v ∷ ps) = tt
call_is n e (word w ∷ delimiter Close ∷ ps) = tt
call_is n e (word w ∷ delimiter Comma ∷ ps) = tt
call_is n e (word w ∷ delimiter Equals ∷ ps) = tt
call_is n e (word w ∷ delimiter Open ∷ ps) = function_then n w ps e (function_of w) refl

declared_is : (w : List ℕ) (ps : List Lexeme) → FormIs (word w ∷ delimiter Open ∷ ps) (declared_of w ps)
declared_is w ps =
    cond_both (str_eq_ignore_ascii_case w (codes "INPUT")) _ _ (FormIs (word w ∷ delimiter Open ∷ ps))
    (λ e. input_is w ps e (enclosed_of ps) (enclosed_is ps)) (λ _.
    cond_both (str_eq_ignore_ascii_case w (codes "OUTPUT")) _ _ (FormIs (word w ∷ delimiter Open ∷ ps))
    (λ e. output_is w ps e (enclosed_of ps) (enclosed_is ps)) (λ _. tt))

after_is : (w : List ℕ) (ps : List Lexeme) → FormIs (word w ∷ ps) (after_word w ps)
after_is w [] = tt
after_is w (word v ∷ ps) = tt
after_is w (delimiter Open ∷ ps) = declared_is w ps
after_is w (delimiter Close ∷ ps) = tt
after_is w (delimiter Comma ∷ ps) = tt
after_is w (delimiter Equals ∷ ps) = cond_both (is_net w) _ _ (FormIs (word w ∷ delimiter Equals ∷ ps))
    (λ e. call_is w e ps) (λ _. tt)

form_is : (ps : List Lexeme) → FormIs ps (line_of ps)
form_is [] = refl
form_is (delimiter m ∷ ps) = tt
form_is (word w ∷ ps) = after_is w ps

-- what the code takes the parts to say is what they say
pub Writes-line_of : (ps : List Lexeme) (f : Form) → line_of ps ≡ Some f → Writes f ps
Writes-line_of ps f e = subst (FormIs ps) e (form_is ps)

not_both : (o : Option Form) (f : Form) → None ≡ o → o ≡ Some f → ⊥
not_both o f e h = cc

same_form : (o : Option Form) (f g : Form) → o ≡ Some f → o ≡ Some g → f ≡ g
same_form o f g e h = cc

-- a line says one thing at most
pub one_form : (line : List ℕ) (f g : Form) → Says line f → Says line g → f ≡ g
one_form line f g s t =
    same_form (line_of s.parts) f g (line_of-Writes f s.parts s.writes)
    (ap line_of (one_spelling s.parts t.parts line s.spells t.spells)
    ∙ line_of-Writes g t.parts t.writes)

pub Says-read : (line : List ℕ) (ps : List Lexeme) → Spells ps line → (o : Option Line)
    → option_map form_of o ≡ line_of ps
    → MatchOption o ((f : Form) → Says line f → ⊥) (λ l. Says line (form_of l))
Says-read line ps s None e =
    λ f t. not_both (line_of ps) f e (ap line_of (one_spelling ps t.parts line s t.spells)
    ∙ line_of-Writes f t.parts t.writes)
Says-read line ps s (Some l) e = record {
  parts = ps;
  spells = s;
  writes = Writes-line_of ps
      (form_of l) (sym e);
}

-- what `read_line` answers, from what `said` does
pub IfOk-said : {E : Type 0} (line : List ℕ) (ps : List Lexeme) → Spells ps line
    → (r : Result (Option Line) E) → IfOk r (λ o. option_map form_of o ≡ line_of ps)
    → IfOk r (λ o. MatchOption o ((f : Form) → Says line f → ⊥) (λ l. Says line (form_of l)))
IfOk-said line ps s (Ok o) h = Says-read line ps s o h
IfOk-said line ps s (Err e) h = tt
