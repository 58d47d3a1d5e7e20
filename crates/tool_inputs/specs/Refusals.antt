-- The status and the line of each reason for which a command on a program and a plan isn't run.
use Rattle.std.specs.Prelude.{ℕ, List, ◌++◌, Option, Some, None, codes, decimal}
use Rattle.tester_types.specs.Printing.{printed_name}
use Rattle.bench_net.specs.declared.fault.NetFault.{NetFault}
use Rattle.bench_net.specs.declared.fault.NetFault.TheVariants as net
use Rattle.stil_ast.specs.Data.Refusal.{StilRefusal}
use Rattle.answers.specs.declared.short.Short.TheVariants as stil
use Rattle.page_code.specs.declared.fault.SavedFault.{SavedFault}
use Rattle.page_code.specs.declared.fault.SavedFault.TheVariants as saved
use Rattle.plan_rows.specs.declared.fault.PlanFault.{PlanFault}
use Rattle.plan_rows.specs.declared.fault.PlanFault.TheVariants as plan
use Rattle.tool_inputs.specs.declared.status.Status.{Status}
use Rattle.tool_inputs.specs.declared.status.Status.TheVariants.{ReadFault, RefusedStil, RefusedNet, RefusedPlan, TooFewSockets, OutOfMemory, TooLong, RefusedSaved, NoDie, TapeTooLong}
use Rattle.tool_inputs.specs.declared.refusal.Refusal.{Refusal}
use Rattle.tool_inputs.specs.declared.refusal.Refusal.TheVariants as refusal
use Rattle.tool_inputs.specs.Endings.{read_fault_line, too_long_line, refused_line, memory_line}

-- a netlist that is refused: its file, the kind of its fault, and the line or the net, `-` where there is neither
abbrev pub net_fault_line : List ℕ → List ℕ → List ℕ → List ℕ
net_fault_line file kind part = codes "refused net " ++ printed_name file ++ kind ++ part ++ codes "\n"

-- the same by its fault
abbrev pub net_line : List ℕ → NetFault → List ℕ
net_line file net.NoMemory = memory_line
net_line file (net.Line n) = net_fault_line file (codes " Line ") (decimal n)
net_line file net.OutOfRange = net_fault_line file (codes " OutOfRange ") (codes "-")
net_line file (net.Arity name) = net_fault_line file (codes " Arity ") (printed_name name)
net_line file (net.Twice name) = net_fault_line file (codes " Twice ") (printed_name name)
net_line file (net.Missing name) = net_fault_line file (codes " Missing ") (printed_name name)
net_line file (net.Loop name) = net_fault_line file (codes " Loop ") (printed_name name)

-- a netlist is refused, but for want of memory
abbrev pub net_status : NetFault → Status
net_status net.NoMemory = OutOfMemory
net_status (net.Line n) = RefusedNet
net_status net.OutOfRange = RefusedNet
net_status (net.Arity name) = RefusedNet
net_status (net.Twice name) = RefusedNet
net_status (net.Missing name) = RefusedNet
net_status (net.Loop name) = RefusedNet

-- a plan that is refused: the kind of its fault, and the row or the signal
abbrev pub plan_fault_line : List ℕ → List ℕ → List ℕ
plan_fault_line kind part = codes "refused plan " ++ kind ++ part ++ codes "\n"

-- the same by its fault
abbrev pub plan_line : PlanFault → List ℕ
plan_line plan.NoMemory = memory_line
plan_line (plan.Shape row) = plan_fault_line (codes "Shape ") (decimal row)
plan_line (plan.UnknownName row) = plan_fault_line (codes "UnknownName ") (decimal row)
plan_line (plan.Twice row) = plan_fault_line (codes "Twice ") (decimal row)
plan_line (plan.OutOfRange row) = plan_fault_line (codes "OutOfRange ") (decimal row)
plan_line (plan.SkewOutside row) = plan_fault_line (codes "SkewOutside ") (decimal row)
plan_line (plan.Unbound signal) = plan_fault_line (codes "Unbound ") (printed_name signal)

-- a plan is refused, but for want of memory
abbrev pub plan_status : PlanFault → Status
plan_status plan.NoMemory = OutOfMemory
plan_status (plan.Shape row) = RefusedPlan
plan_status (plan.UnknownName row) = RefusedPlan
plan_status (plan.Twice row) = RefusedPlan
plan_status (plan.OutOfRange row) = RefusedPlan
plan_status (plan.SkewOutside row) = RefusedPlan
plan_status (plan.Unbound signal) = RefusedPlan

-- a text that is refused, or want of memory
abbrev pub stil_status : StilRefusal → Status
stil_status stil.NoMemory = OutOfMemory
stil_status (stil.Fault fault) = RefusedStil

-- the line of either
abbrev pub stil_line : StilRefusal → List ℕ
stil_line stil.NoMemory = memory_line
stil_line (stil.Fault fault) = refused_line fault

-- bytes that are no saved program: the kind of their fault, and its place
abbrev pub saved_fault_line : List ℕ → ℕ → List ℕ
saved_fault_line kind place = codes "refused saved " ++ kind ++ decimal place ++ codes "\n"

-- the same by its fault: the magic stands at 0, and the version at 4
abbrev pub saved_line : SavedFault → List ℕ
saved_line saved.NoMemory = memory_line
saved_line saved.BadMagic = saved_fault_line (codes "BadMagic ") 0
saved_line saved.BadVersion = saved_fault_line (codes "BadVersion ") 4
saved_line (saved.Torn place) = saved_fault_line (codes "Torn ") place
saved_line (saved.BadCode place) = saved_fault_line (codes "BadCode ") place

-- they are refused, but for want of memory
abbrev pub saved_status : SavedFault → Status
saved_status saved.NoMemory = OutOfMemory
saved_status saved.BadMagic = RefusedSaved
saved_status saved.BadVersion = RefusedSaved
saved_status (saved.Torn place) = RefusedSaved
saved_status (saved.BadCode place) = RefusedSaved

-- fewer sockets than sites
abbrev pub few_sockets_line : ℕ → ℕ → List ℕ
few_sockets_line sites have =
    codes "too few sockets " ++ decimal sites ++ codes " " ++ decimal have ++ codes "\n"

-- no die at a site, or none at all
abbrev pub no_die_line : Option ℕ → List ℕ
no_die_line None = codes "no die -\n"
no_die_line (Some site) = codes "no die " ++ decimal site ++ codes "\n"

-- a try with more drives than a dump tells
abbrev pub long_tape_line : ℕ → List ℕ
long_tape_line site = codes "tape too long " ++ decimal site ++ codes "\n"

-- the status of a refusal
abbrev pub status_of : Refusal → Status
status_of refusal.NoMemory = OutOfMemory
status_of (refusal.ReadFault file) = ReadFault
status_of (refusal.TooLong file) = TooLong
status_of (refusal.Stil fault) = RefusedStil
status_of (refusal.Saved fault) = saved_status fault
status_of (refusal.Net file fault) = net_status fault
status_of (refusal.Plan fault) = plan_status fault
status_of (refusal.TooFewSockets sites have) = TooFewSockets
status_of (refusal.NoDie site) = NoDie
status_of (refusal.TapeTooLong site) = TapeTooLong

-- the line of a refusal
abbrev pub line_of : Refusal → List ℕ
line_of refusal.NoMemory = memory_line
line_of (refusal.ReadFault file) = read_fault_line file
line_of (refusal.TooLong file) = too_long_line file
line_of (refusal.Stil fault) = refused_line fault
line_of (refusal.Saved fault) = saved_line fault
line_of (refusal.Net file fault) = net_line file fault
line_of (refusal.Plan fault) = plan_line fault
line_of (refusal.TooFewSockets sites have) = few_sockets_line sites have
line_of (refusal.NoDie site) = no_die_line site
line_of (refusal.TapeTooLong site) = long_tape_line site
