-- Signals and names of groups as they are taken one after another, up to the first fault.
use Rattle.std.specs.Prelude.{ℕ, List, [], ◌∷◌, ◌++◌, Vec, Option, Result, Ok, Err, nat_le, nat_lt, length, map, if◌then◌else◌}
use Rattle.std.specs.List.{list_any}
use Rattle.std.specs.declared.alloc.Global.{Global}
use Rattle.text_bytes.specs.Limits.{longest_name, most_signals, most_groups}
use Rattle.text_bytes.specs.Texts.{key_texts}
use Rattle.answers.specs.Reading.{stepping}
use Rattle.stil_ast.specs.Data.Texts.{same}
use Rattle.stil_ast.specs.Faults.Found.{fault_at}
use Rattle.stil_ast.specs.Meaning.Signals.{Signal, Group, signals_place, declared}
use Rattle.stil_ast.specs.declared.fault.StilFault.{StilFault}
use Rattle.stil_ast.specs.declared.fault.StilKind.TheVariants.{Twice, OutOfRange}
use Rattle.stil_ast.specs.declared.signal.SignalDecl.{SignalDecl}
use Rattle.tester_types.specs.declared.signal.Direction.{Direction}
use Rattle.signal_groups.specs.declared.table.Declared.{Declared}

-- what is known of signals
pub record Begun : Type 0 where
  pub texts : List (List ℕ)
  pub bases : List (Option (List ℕ))
  pub directions : List Direction

-- what is held of signals
abbrev pub begun_in : List (Vec ℕ Global) → List Declared → Begun
begun_in keys declared = record {
  texts = key_texts keys;
  bases = map (λ (d : Declared). d.base) declared;
  directions = map (λ (d : Declared). d.direction) declared;
}

-- what is known of these signals
abbrev pub begun_of : List Signal → Begun
begun_of signals = record {
  texts = map (λ (s : Signal). s.text) signals;
  bases = map (λ (s : Signal). s.base) signals;
  directions = map (λ (s : Signal). s.direction) signals;
}

-- one signal more
abbrev pub with_signal : Begun → Signal → Begun
with_signal b s = record {
  texts = b.texts ++ s.text ∷ [];
  bases = b.bases ++ s.base ∷ [];
  directions = b.directions ++ s.direction ∷ [];
}

-- a signal is taken, or refused
abbrev pub signal_said : Begun → Signal → Result Begun StilFault
signal_said b s =
    if list_any (λ t. same t s.text) b.texts then Err (fault_at s.place Twice)
    else if nat_le (length s.text) longest_name then
    (if nat_lt (length b.texts) most_signals then Ok (with_signal b s) else Err (fault_at s.place OutOfRange))
    else Err (fault_at s.place OutOfRange)

-- a group's name is taken, or refused
abbrev pub group_said : List (List ℕ) → Group → Result (List (List ℕ)) StilFault
group_said names g =
    if list_any (λ n. same n g.name) names then Err (fault_at g.place Twice)
    else if nat_lt (length names) most_groups then Ok (names ++ g.name ∷ []) else Err (fault_at g.place OutOfRange)

-- a signal that a declaration declares under this text
abbrev pub signal_as : SignalDecl → List ℕ → Option (List ℕ) → Signal
signal_as d text base = record { text = text; base = base; direction = d.direction; place = signals_place d.line }

-- the signals of a declaration are taken, up to the first that is refused
abbrev pub decl_said : Begun → SignalDecl → Result Begun StilFault
decl_said b d = stepping signal_said b (declared d)
