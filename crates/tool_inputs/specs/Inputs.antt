-- What `lot` answers, and why.
use Rattle.std.specs.Prelude.{◌≡◌, ℕ, ◌++◌, Bool, true, false, List, [], ◌∷◌, take, nat_eq, Option, Some, None, Err}
use Rattle.std.specs.Cmp.Lexicographic.{pointwise}
use Rattle.tester_types.specs.Outside.{Files, TellsFile}
use Rattle.bench_net.specs.Circuit.{Circuit, IsWhole}
use Rattle.bench_net.specs.Net.{IsNet}
use Rattle.bench_net.specs.Fault as nets
use Rattle.bench_net.specs.declared.fault.NetFault.{NetFault}
use Rattle.plan_rows.specs.declared.row.Row.{Row}
use Rattle.plan_rows.specs.Rows.{files_of, sites_of}
use Rattle.plan_rows.specs.Plan as plans
use Rattle.plan_rows.specs.declared.fault.PlanFault.{PlanFault}
use Rattle.lot_plan.specs.Bound.{Bound}
use Rattle.lot_plan.specs.Refusal.{refusal}
use Rattle.packed_code.specs.Program.{Program}
use Rattle.page_code.specs.Saved.{Saved}
use Rattle.page_code.specs.Reading.{load_of}
use Rattle.page_code.specs.declared.fault.SavedFault.{SavedFault}
use Rattle.stil_ast.specs.declared.fault.StilFault.{StilFault}
use Rattle.stil_program.specs.Program.{IsTextFault, IsProgramOf}
use Rattle.tool_inputs.specs.declared.status.Status.TheVariants.{OutOfMemory}
use Rattle.tool_inputs.specs.declared.refusal.Refusal.{Refusal}
use Rattle.tool_inputs.specs.declared.refusal.Refusal.TheVariants.{NoMemory, ReadFault, TooLong, Stil, Saved as SavedRefusal, Net, Plan, TooFewSockets, NoDie, TapeTooLong}
use Rattle.tool_inputs.specs.Endings.{IsFile, LoadFailed, IsTooLong}
use Rattle.tool_inputs.specs.Refusals.{status_of}

-- the bytes with which a saved program begins
abbrev pub saved_mark : List ℕ
saved_mark = 0xD7 ∷ 0x53 ∷ 0x54 ∷ 0x50 ∷ []

-- whether bytes are to be read as a saved program, and not as a STIL text
abbrev pub is_saved : List ℕ → Bool
is_saved bytes = pointwise nat_eq (take 4 bytes) saved_mark

-- the code of bytes that are read so
abbrev pub IsCodeBy : Bool → List ℕ → Program → Type 0
IsCodeBy true bytes code = Saved code bytes
IsCodeBy false bytes code = IsProgramOf bytes code

-- the file is a program with this code
pub record IsProgramFile (told : Option Files) (name : List ℕ) (code : Program) : Type 0 where
  pub bytes : List ℕ
  pub file : IsFile told name bytes
  pub reads : IsCodeBy (is_saved bytes) bytes code

-- the file is a plan
pub record IsPlanFile (told : Option Files) (name : List ℕ) (rows : List Row) : Type 0 where
  pub bytes : List ℕ
  pub file : IsFile told name bytes
  pub plan : plans.IsPlan bytes rows

-- the file is a netlist
pub record IsNetFile (told : Option Files) (name : List ℕ) (circuit : Circuit) : Type 0 where
  pub bytes : List ℕ
  pub file : IsFile told name bytes
  pub net : IsNet bytes circuit.net
  pub whole : IsWhole circuit

-- these files are the netlists, one by one
abbrev pub AreNetFiles : Option Files → List (List ℕ) → List Circuit → Type 0
AreNetFiles told [] [] = Unit {0}
AreNetFiles told [] (circuit ∷ circuits) = ⊥
AreNetFiles told (file ∷ files) [] = ⊥
AreNetFiles told (file ∷ files) (circuit ∷ circuits) = IsNetFile told file circuit × AreNetFiles told files circuits

-- what the files of a lot say
pub record Inputs : Type 0 where
  pub code : Program
  pub rows : List Row
  pub circuits : List Circuit

-- the program, the plan and the netlists that the plan names, in its order, say this
pub record AreInputs (told : Option Files) (program plan : List ℕ) (inputs : Inputs) : Type 0 where
  pub code : IsProgramFile told program inputs.code
  pub rows : IsPlanFile told plan inputs.rows
  pub nets : AreNetFiles told (files_of inputs.rows) inputs.circuits

-- the plan, bound to the program and to the netlists
abbrev pub bound_of : Inputs → Bound
bound_of inputs = record { rows = inputs.rows; program = inputs.code; circuits = inputs.circuits }

-- a file isn't loaded: its load failed, or it is too long, or there is no memory
abbrev pub IsUnread : Option Files → ℕ → ℕ → List ℕ → Refusal → Type 0
IsUnread told before now name NoMemory = Unit {0}
IsUnread told before now name (ReadFault file) = (file ≡ name) × LoadFailed told before now name
IsUnread told before now name (TooLong file) = (file ≡ name) × TellsFile told name IsTooLong
IsUnread told before now name (Stil fault) = ⊥
IsUnread told before now name (SavedRefusal fault) = ⊥
IsUnread told before now name (Net file fault) = ⊥
IsUnread told before now name (Plan fault) = ⊥
IsUnread told before now name (TooFewSockets sites have) = ⊥
IsUnread told before now name (NoDie site) = ⊥
IsUnread told before now name (TapeTooLong site) = ⊥

-- why the program is refused: the first fault of a text, or of a saved program
pub data IsProgramRefused (told : Option Files) (before now : ℕ) (name : List ℕ) (r : Refusal) : Type 0 where
  no_memory : status_of r ≡ OutOfMemory → IsProgramRefused told before now name r
  unread : IsUnread told before now name r → IsProgramRefused told before now name r
  of_text : (bytes : List ℕ) → IsFile told name bytes → is_saved bytes ≡ false → (fault : StilFault)
      → IsTextFault bytes (Some fault) → r ≡ Stil fault → IsProgramRefused told before now name r
  of_saved : (bytes : List ℕ) → IsFile told name bytes → is_saved bytes ≡ true → (fault : SavedFault)
      → load_of bytes ≡ Err fault → r ≡ SavedRefusal fault → IsProgramRefused told before now name r

-- why the plan is refused
pub data IsPlanRefused (told : Option Files) (before now : ℕ) (name : List ℕ) (r : Refusal) : Type 0 where
  no_memory : status_of r ≡ OutOfMemory → IsPlanRefused told before now name r
  unread : IsUnread told before now name r → IsPlanRefused told before now name r
  faulty : (bytes : List ℕ) → IsFile told name bytes → (fault : PlanFault) → plans.IsFault bytes fault → r ≡ Plan fault
      → IsPlanRefused told before now name r

-- why a netlist is refused
pub data IsNetRefused (told : Option Files) (before now : ℕ) (name : List ℕ) (r : Refusal) : Type 0 where
  no_memory : status_of r ≡ OutOfMemory → IsNetRefused told before now name r
  unread : IsUnread told before now name r → IsNetRefused told before now name r
  faulty : (bytes : List ℕ) → IsFile told name bytes → (fault : NetFault) → nets.IsFault bytes fault
      → r ≡ Net name fault → IsNetRefused told before now name r

-- why the netlists of these files are refused: one of them is, and those before it are accepted
pub data AreNetsRefused (told : Option Files) (before now : ℕ) (files : List (List ℕ)) (r : Refusal) : Type 0 where
  no_memory : status_of r ≡ OutOfMemory → AreNetsRefused told before now files r
  of_file : (front later : List (List ℕ)) (file : List ℕ) → files ≡ front ++ file ∷ later → (circuits : List Circuit)
      → AreNetFiles told front circuits → IsNetRefused told before now file r → AreNetsRefused told before now files r

-- Why what a command reads isn't taken, in the order in which it is met: the program, the plan, the netlists, the
-- binding. Want of memory may come at any time.
pub data AreRefused (told : Option Files) (before now : ℕ) (program plan : List ℕ) (r : Refusal) : Type 0 where
  no_memory : status_of r ≡ OutOfMemory → AreRefused told before now program plan r
  of_program : IsProgramRefused told before now program r → AreRefused told before now program plan r
  of_plan : (code : Program) → IsProgramFile told program code → IsPlanRefused told before now plan r
      → AreRefused told before now program plan r
  of_nets : (code : Program) → IsProgramFile told program code → (rows : List Row) → IsPlanFile told plan rows
      → AreNetsRefused told before now (files_of rows) r → AreRefused told before now program plan r
  unbound : (inputs : Inputs) → AreInputs told program plan inputs → (fault : PlanFault)
      → refusal (bound_of inputs) ≡ Some fault → r ≡ Plan fault → AreRefused told before now program plan r

-- a code and a bound plan are those of what the files say, and nothing refuses them
pub record IsReady (told : Option Files) (program plan : List ℕ) (code : Program) (bound : Bound) : Type 0 where
  pub inputs : Inputs
  pub are : AreInputs told program plan inputs
  pub code_is : code ≡ inputs.code
  pub is : bound ≡ bound_of inputs
  pub accepted : refusal (bound_of inputs) ≡ None

-- why there is no grade: what it reads is refused, or the plan has no die record
pub data IsGradeRefused (told : Option Files) (before now : ℕ) (program plan : List ℕ) (r : Refusal) : Type 0 where
  of_inputs : AreRefused told before now program plan r → IsGradeRefused told before now program plan r
  no_die : (inputs : Inputs) → AreInputs told program plan inputs → refusal (bound_of inputs) ≡ None
      → sites_of inputs.rows ≡ 0 → r ≡ NoDie None → IsGradeRefused told before now program plan r
