-- What the sink and the shelf in memory do, call by call.
use Rattle.std.specs.Prelude.{◌≡◌, ℕ, ◌+◌, ◌-◌, ◌^◌, ◌<◌, ◌≤◌, Bool, true, false, List, [], ◌++◌, ◌&&◌, ◌||◌, ◌==◌, nat_le, nat_lt, length, take, map, min, Option, Some, None, Result, Ok, Err, Vec, string_bytes, ◌⊎◌, if◌then◌else◌, String}
use Rattle.std.specs.List.{list_any}
use Rattle.std.specs.declared.alloc.Global.{Global}
use Rattle.tester_types.specs.declared.outside.ShelfFault.{ShelfFault}
use Rattle.tester_types.specs.declared.outside.ShelfFault.TheVariants.{Failed, TooLong, NoMemory}
use Rattle.tester_types.specs.declared.outside as outside
use Rattle.tester_types.specs.Outside.{Files, file_of}

-- one more, in 64 bits
abbrev pub one_more : ℕ → ℕ
one_more count = min (count + 1) (2 ^ 64 - 1)

-- a sink in memory: what it holds and has room for, the most bytes of a put, the calls that fail and
-- those that take nothing, and how many calls and faults there were
pub record SinkState : Type 0 where
  pub bytes : List ℕ
  pub room : ℕ
  pub most : ℕ
  pub failing : List ℕ
  pub empty : List ℕ
  pub calls : ℕ
  pub faults : ℕ

-- whether a list names a call
abbrev pub is_named : List ℕ → ℕ → Bool
is_named calls call = list_any (λ named. named == call) calls

-- how many bytes of a piece of this length the next put takes, or none where it fails: at a call in the list of
-- those, and where the room is used up and the piece isn't empty
abbrev pub how_much : SinkState → ℕ → Option ℕ
how_much s len =
    if is_named s.failing (one_more s.calls) || (nat_le s.room (length s.bytes) && nat_lt 0 len) then None
    else Some (if is_named s.empty (one_more s.calls) then 0 else min (min len s.most) (s.room - length s.bytes))

-- a failure is a fault, and so is taking nothing of something
abbrev pub is_fault : Option ℕ → ℕ → Bool
is_fault None len = true
is_fault (Some taken) len = taken == 0 && nat_lt 0 len

-- what a put answers
abbrev pub put_answer : Option ℕ → Result ℕ outside.Failed.Failed
put_answer None = Err (record {})
put_answer (Some taken) = Ok taken

-- the bytes that a put takes
abbrev pub put_takes : Option ℕ → List ℕ → List ℕ
put_takes None piece = []
put_takes (Some taken) piece = take taken piece

-- a sink after a put of this piece
abbrev pub after_put : SinkState → List ℕ → SinkState
after_put s piece = record s {
  bytes = s.bytes ++ put_takes (how_much s (length piece)) piece;
  calls = one_more s.calls;
  faults = if is_fault (how_much s (length piece)) (length piece) then one_more s.faults else s.faults;
}

-- a shelf in memory: its files, the calls that fail, and how many calls and faults there were
pub record ShelfState : Type 0 where
  pub files : Files
  pub failing : List ℕ
  pub calls : ℕ
  pub faults : ℕ

-- a named file without where it lies in memory
abbrev pub file_seen : String Global × Vec ℕ Global → List ℕ × List ℕ
file_seen file = (string_bytes file.0, file.1.items)

-- files without where they lie in memory
abbrev pub files_seen : List (String Global × Vec ℕ Global) → Files
files_seen files = map file_seen files

-- whether the next load is one of those that fail
abbrev pub load_fails : ShelfState → Bool
load_fails s = is_named s.failing (one_more s.calls)

-- a shelf after a load
abbrev pub after_load : ShelfState → ShelfState
after_load s = record s {
  calls = one_more s.calls;
  faults = if load_fails s then one_more s.faults else s.faults;
}

-- what a load answers: a failure where the call is one that fails or the file isn't there; else its bytes,
-- or that they are too long
abbrev pub LoadAnswers : ShelfState → List ℕ → ℕ → Result (Vec ℕ Global) ShelfFault → Type 0
LoadAnswers s name room (Ok bytes) =
    (load_fails s ≡ false) × (file_of s.files name ≡ Some bytes.items) × (length bytes.items ≤ room)
LoadAnswers s name room (Err Failed) = (load_fails s ≡ true) ⊎ (file_of s.files name ≡ None)
LoadAnswers s name room (Err TooLong) =
    (load_fails s ≡ false) × ((bytes : List ℕ) × (file_of s.files name ≡ Some bytes) × (room < length bytes))
LoadAnswers s name room (Err NoMemory) = load_fails s ≡ false
