-- What `drill N` answers, and why. Its three texts are made of the number, and there are no files. Read `DrillWants` at
-- the end first.
use Rattle.std.specs.Prelude.{◌≡◌, ℕ, ◌<◌, ◌≤◌, List, [], ◌∷◌, ◌++◌, length, Some, None, codes, decimal}
use Rattle.tester_types.specs.Outside.{HasRisen}
use Rattle.tester_types.specs.Records.{SiteRecords, records_of}
use Rattle.tester_types.specs.declared.record.Record.{Record}
use Rattle.bench_net.specs.Circuit.{Circuit, IsWhole}
use Rattle.bench_net.specs.Net.{IsNet}
use Rattle.bench_net.specs.Fault as nets
use Rattle.bench_net.specs.declared.fault.NetFault.{NetFault}
use Rattle.plan_rows.specs.Rows.{sites_of}
use Rattle.plan_rows.specs.Plan as plans
use Rattle.plan_rows.specs.declared.fault.PlanFault.{PlanFault}
use Rattle.lot_plan.specs.Bound.{Bound}
use Rattle.lot_plan.specs.Refusal.{refusal}
use Rattle.die_sim.specs.Socket.{Told}
use Rattle.datalog.specs.DatalogText.{bins_of, totals_text}
use Rattle.datalog.specs.Summary.{fails_among}
use Rattle.drill_fine.specs.Texts.{vectors, stil_text, net_text, plan_text}
use Rattle.packed_code.specs.Program.{Program}
use Rattle.stil_ast.specs.declared.fault.StilFault.{StilFault}
use Rattle.stil_program.specs.Program.{IsTextFault, IsProgramOf}
use Rattle.tool_inputs.specs.declared.status.Status.{Status}
use Rattle.tool_inputs.specs.declared.status.Status.TheVariants.{Done, OutOfMemory, TooFewSockets as Few}
use Rattle.tool_inputs.specs.declared.refusal.Refusal.{Refusal}
use Rattle.tool_inputs.specs.declared.refusal.Refusal.TheVariants.{Stil, Net, Plan, TooFewSockets}
use Rattle.tool_inputs.specs.Endings.{memory_line}
use Rattle.tool_inputs.specs.Refusals.{status_of, line_of}
use Rattle.tool_inputs.specs.Inputs.{Inputs, bound_of}
use Rattle.stil_tool.specs.Lot.{usable, Floor, IsBook}

-- the words `drill N`, of a number from 1 to 200
pub record AreDrill (words : List (List ℕ)) (number : ℕ) : Type 0 where
  pub is : words ≡ codes "drill" ∷ decimal number ∷ []
  pub some : 1 ≤ number
  pub few : number ≤ 200

-- the name of the netlist in the plan
abbrev pub drill_file : List ℕ
drill_file = codes "drill.bench"

-- the three texts say this
pub record AreTexts (number : ℕ) (inputs : Inputs) : Type 0 where
  pub code : IsProgramOf (stil_text number) inputs.code
  pub rows : plans.IsPlan (plan_text number) inputs.rows
  pub circuit : Circuit
  pub one : inputs.circuits ≡ circuit ∷ []
  pub net : IsNet (net_text number) circuit.net
  pub whole : IsWhole circuit

-- why the texts aren't read
pub data IsTextRefused (number : ℕ) (r : Refusal) : Type 0 where
  no_memory : status_of r ≡ OutOfMemory → IsTextRefused number r
  of_program : (fault : StilFault) → IsTextFault (stil_text number) (Some fault) → r ≡ Stil fault
      → IsTextRefused number r
  of_plan : (fault : PlanFault) → plans.IsFault (plan_text number) fault → r ≡ Plan fault → IsTextRefused number r
  of_net : (fault : NetFault) → nets.IsFault (net_text number) fault → r ≡ Net drill_file fault → IsTextRefused number r
  unbound : (inputs : Inputs) → AreTexts number inputs → (fault : PlanFault) → refusal (bound_of inputs) ≡ Some fault
      → r ≡ Plan fault → IsTextRefused number r

-- why a drill isn't run: one of its texts or their binding is refused, or there are too few sockets. Want of memory may
-- come at any time
pub data IsDrillRefused (number sockets : ℕ) (r : Refusal) : Type 0 where
  of_text : IsTextRefused number r → IsDrillRefused number sockets r
  few_sockets : (inputs : Inputs) → AreTexts number inputs → refusal (bound_of inputs) ≡ None
      → usable sockets < sites_of inputs.rows → r ≡ TooFewSockets (sites_of inputs.rows) (usable sockets)
      → IsDrillRefused number sockets r

-- how many vectors a drill has, and how many looks failed in all tries
abbrev pub drill_line : ℕ → List (List Record) → List ℕ
drill_line number sites =
    codes "drill " ++ decimal number ++ codes " vectors " ++ decimal (vectors number) ++ codes " fails "
    ++ decimal (fails_among sites) ++ codes "\n"

-- what is written of a drill: that line, and the totals of the bins
abbrev pub drill_text : ℕ → Bound → List (List Record) → List ℕ
drill_text number bound sites = drill_line number sites ++ totals_text (bins_of bound sites)

-- the lot of the three texts was run between these floors, and the text tells its book
pub record IsDrilled {S : Type 0} (tells : S → Told) (number : ℕ) (bound : Bound) (old new : Floor S) (text : List ℕ) :
    Type 0 where
  pub book : List SiteRecords
  pub is : IsBook tells bound old new book
  pub written : text ≡ drill_text number bound (records_of book)

-- what must be so for a status of a bound drill, with what is written then
abbrev pub DrillRunWants : {S : Type 0} → (S → Told) → ℕ → Bound → Floor S → Floor S → Status → List ℕ → Type 0
DrillRunWants tells number bound old new Done text = IsDrilled tells number bound old new text
DrillRunWants tells number bound old new OutOfMemory text = text ≡ memory_line
DrillRunWants tells number bound old new _ text = ⊥

-- a code and a bound plan are those of what the texts say, and nothing refuses them
pub record IsDrillReady (number : ℕ) (code : Program) (bound : Bound) : Type 0 where
  pub inputs : Inputs
  pub are : AreTexts number inputs
  pub code_is : code ≡ inputs.code
  pub is : bound ≡ bound_of inputs
  pub accepted : refusal (bound_of inputs) ≡ None

-- a refusal of a drill, with its status and its line
pub record IsDrillRefusal (number sockets : ℕ) (status : Status) (text : List ℕ) : Type 0 where
  pub refused : Refusal
  pub cause : IsDrillRefused number sockets refused
  pub answer : status ≡ status_of refused
  pub line : text ≡ line_of refused

-- What comes of a drill, as its texts are read and bound one after another. One that is refused, but for want of
-- memory, leaves its floor as it was.
pub data DrillComes {S : Type 0} (tells : S → Told) (number : ℕ) (old new : Floor S) (status : Status) (text : List ℕ)
    : Type 0 where
  is_run : status ≡ Done → (inputs : Inputs) → AreTexts number inputs → refusal (bound_of inputs) ≡ None
      → sites_of inputs.rows ≤ usable (length old.sockets) → IsDrilled tells number (bound_of inputs) old new text
      → DrillComes tells number old new status text
  is_refused : IsDrillRefusal number (length old.sockets) status text → ((status ≡ OutOfMemory → ⊥) → new ≡ old)
      → DrillComes tells number old new status text

-- ---- what `drill` answers

-- how many sites a drill has
abbrev pub drill_sites : ℕ
drill_sites = 4

-- What must be so for a status of `drill`, with what is written then. Its texts are accepted and bound, so it is run
-- where there are sockets enough, and memory alone may be wanting. One with too few sockets leaves its floor as it was.
pub data DrillWants {S : Type 0} (tells : S → Told) (number : ℕ) (old new : Floor S) (status : Status) (text : List ℕ)
    : Type 0 where
  is_drilled : status ≡ Done → drill_sites ≤ usable (length old.sockets) → (inputs : Inputs) → AreTexts number inputs
      → refusal (bound_of inputs) ≡ None → IsDrilled tells number (bound_of inputs) old new text
      → DrillWants tells number old new status text
  too_few : status ≡ Few → usable (length old.sockets) < drill_sites
      → text ≡ line_of (TooFewSockets drill_sites (usable (length old.sockets))) → new ≡ old
      → DrillWants tells number old new status text
  no_memory : status ≡ OutOfMemory → text ≡ memory_line → DrillWants tells number old new status text

-- the words are those of a drill, there are sockets enough, and no count rose
pub record IsFineDrill (words : List (List ℕ)) (faults faults' sockets : ℕ) : Type 0 where
  pub number : ℕ
  pub are : AreDrill words number
  pub enough : drill_sites ≤ usable sockets
  pub puts : HasRisen faults faults' → ⊥
