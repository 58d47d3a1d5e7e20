-- The faults of events are those of their times as they were read: each stands in the line of its own text.
use Rattle.std.proofs.Common.{◌≡◌, ℕ, ℤ, pos, Bool, true, false, List, [], ◌∷◌, Option, Some, None, Result, Ok, Err, map, refl, sym, ap, ◌∙◌, subst}
use Rattle.std.specs.Prelude.{int_le, int_lt, ◌&&◌}
use Rattle.stil_ast.specs.Data.Places.{Place}
use Rattle.stil_ast.specs.Meaning.Times.{Met, in_text, elsewhere, whole_at, or_not_whole, time_at}
use Rattle.stil_ast.specs.Faults.Found.{fault_at, on_line, unless, or_else, first_in}
use Rattle.stil_ast.specs.Faults.TableFaults.{Timed, with_time, events_fault}
use Rattle.stil_ast.specs.declared.fault.StilFault.{StilFault}
use Rattle.stil_ast.specs.declared.fault.StilKind.TheVariants.{EventOutside, EventOrder}
use Rattle.stil_ast.specs.declared.name.Quoted.{Quoted}
use Rattle.stil_ast.specs.declared.timing.EventDecl.{EventDecl}
use Rattle.stil_ast.specs.declared.timing.WaveDecl.{WaveDecl}
use Rattle.expr_text.specs.Ratio.{Ratio}
use Rattle.expr_text.specs.Tree.{Tree, number, name, chain, linked, extreme, also}
use Rattle.expr_text.specs.Machine.{read_of}
use Rattle.expr_text.specs.Value.{Outcome, applied_of, named_of}
use Rattle.expr_text.specs.Vars.{value_of_name}
use Rattle.time_expr.specs.NamedValue.{met_of, unless_met, Known, plain, several, settled, begun, with_operand, known_by}
use Rattle.expr_text.specs.declared.expr.Bound.{Bound}
use Rattle.time_expr.specs.TimesOf.{value_read, times_of}
use Rattle.time_expr.specs.TimeIn.{AreNames, in_line}
use Rattle.wave_tables.specs.ReadWaves.{kind_met, read_event, read_wave}
use Rattle.wave_tables.specs.Check.{with_kind, events_read, read_fault, wave_fault}

-- what is met, if anything, is met in the text itself
abbrev IsOwn : Result Ratio Met → Type 0
IsOwn (Ok value) = Unit {0}
IsOwn (Err (in_text kind)) = Unit {0}
IsOwn (Err (elsewhere fault)) = ⊥

abbrev IsOwnKnown : Known → Type 0
IsOwnKnown (plain found) = IsOwn found
IsOwnKnown (several bound first others) = Unit {0}

met_own : (o : Outcome) → IsOwn (met_of o)
met_own (Ok value) = tt
met_own (Err fault) = tt

settled_own : (k : Known) → IsOwnKnown k → IsOwn (settled k)
settled_own (plain found) h = h
settled_own (several bound first others) h = met_own _

unless_own : (found : Result Ratio Met) (next : Ratio → Result Ratio Met) → IsOwn found
    → ((r : Ratio) → IsOwn (next r)) → IsOwn (unless_met found next)
unless_own (Ok r) next h all = all r
unless_own (Err (in_text kind)) next h all = tt
unless_own (Err (elsewhere fault)) next h all = h

begun_own : (bound : Bound) (found : Result Ratio Met) → IsOwn found → IsOwnKnown (begun bound found)
begun_own bound (Ok r) h = tt
begun_own bound (Err met) h = h

operand_own : (k : Known) (found : Result Ratio Met) → IsOwnKnown k → IsOwn found → IsOwnKnown (with_operand k found)
operand_own (plain before) found k h = k
operand_own (several bound first others) (Ok r) k h = tt
operand_own (several bound first others) (Err met) k h = h

-- where names are variables or unknown, so it is of trees
known_own : (names : List ℕ → Result Ratio Met) → ((bytes : List ℕ) → IsOwn (names bytes)) → (t : Tree)
    → IsOwnKnown (known_by names t)
known_own names each (number value unit) = met_own _
known_own names each (name bytes) = each bytes
known_own names each (chain t) = settled_own (known_by names t) (known_own names each t)
known_own names each (linked t op u) =
    unless_own (settled (known_by names t)) (λ r. unless_met (settled (known_by names u)) (λ s. met_of (applied_of op r s)))
    (settled_own (known_by names t) (known_own names each t))
    (λ r. unless_own (settled (known_by names u)) (λ s. met_of (applied_of op r s))
    (settled_own (known_by names u) (known_own names each u)) (λ s. met_own (applied_of op r s)))
known_own names each (extreme bound t) =
    begun_own bound (settled (known_by names t)) (settled_own (known_by names t) (known_own names each t))
known_own names each (also t u) =
    operand_own (known_by names t) (settled (known_by names u)) (known_own names each t)
    (settled_own (known_by names u) (known_own names each u))

-- and of texts
value_own : (names : List ℕ → Result Ratio Met) → ((bytes : List ℕ) → IsOwn (names bytes))
    → (read : Option (Tree × Bool)) → IsOwn (value_read names read)
value_own names each None = tt
value_own names each (Some (tree, true)) = settled_own (known_by names tree) (known_own names each tree)
value_own names each (Some (tree, false)) = tt

whole_in_line : (place : Place) (line : ℕ) (whole : Option ℤ)
    → or_not_whole (on_line place line) whole ≡ in_line place line (kind_met (or_not_whole (on_line place line) whole))
whole_in_line place line None = refl
whole_in_line place line (Some time) = refl

own_in_line : (place : Place) (line : ℕ) (found : Result Ratio Met) → IsOwn found
    → whole_at times_of (on_line place line) found
    ≡ in_line place line (kind_met (whole_at times_of (on_line place line) found))
own_in_line place line (Ok value) h = whole_in_line place line (times_of.whole value)
own_in_line place line (Err (in_text kind)) h = refl
own_in_line place line (Err (elsewhere fault)) h = absurd h

-- the fault of a text's time stands in its own line
pub time_in_line : (names : List ℕ → Result Ratio Met) (vars : List (List ℕ × Ratio)) → AreNames names vars
    → (place : Place) (q : Quoted)
    → time_at times_of names place q ≡ in_line place q.line (kind_met (time_at times_of names place q))
time_in_line names vars are place q =
    own_in_line place q.line (times_of.value names q.text) (value_own names each (read_of q.text))
  where
    each : (bytes : List ℕ) → IsOwn (names bytes)
    each bytes = subst IsOwn (sym (are bytes)) (met_own (named_of (value_of_name bytes vars)))

-- the fault of each time stands in the line of its own text
abbrev pub AreInLine : Timed Ratio → Type 0
AreInLine t =
    (q : Quoted) → time_at t.times t.vars t.place q ≡ in_line t.place q.line (kind_met (time_at t.times t.vars t.place q))

-- what is judged by a time is judged by what was read
judged_alike : (place : Place) (line : ℕ) (r : Result ℤ StilFault) (f g : ℤ → Option StilFault)
    → r ≡ in_line place line (kind_met r) → ((time : ℤ) → f time ≡ g time)
    → with_kind (on_line place line) (kind_met r) f ≡ with_time r g
judged_alike place line (Ok time) f g own alike = alike time
judged_alike place line (Err fault) f g own alike = ap (λ (r : Result ℤ StilFault). with_time r g) (sym own)

-- the fault of events is that of their times
events_alike : (t : Timed Ratio)
    → AreInLine t → (period before : ℤ) (es : List EventDecl)
    → events_read t.place period before (map (read_event t) es) ≡ events_fault t period before es
events_alike t each period before [] = refl
events_alike t each period before (e ∷ es) =
    judged_alike t.place e.time.line (time_at t.times t.vars t.place e.time) _ _ (each e.time) (λ time.
    ap (λ (o : Option StilFault). unless (int_le (pos 0) time && int_lt time period)
    (fault_at (on_line t.place e.time.line) EventOutside)
    (unless (int_le before time) (fault_at (on_line t.place e.time.line) EventOrder) o))
    (events_alike t each period time es))

-- the same of waveforms
pub waves_alike : (t : Timed Ratio)
    → AreInLine t → (period : ℤ) (ws : List WaveDecl)
    → first_in (read_fault t.place period) (map (read_wave t) ws) ≡ first_in (wave_fault t period) ws
waves_alike t each period [] = refl
waves_alike t each period (w ∷ ws) =
    ap (λ (o : Option StilFault). or_else o (first_in (read_fault t.place period) (map (read_wave t) ws)))
    (events_alike t each period (pos 0) w.events)
    ∙ ap (or_else (wave_fault t period w)) (waves_alike t each period ws)
