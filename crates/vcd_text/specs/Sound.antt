-- What a list of vars and a tape must be, so that their dump says what they are.
use Rattle.std.specs.Prelude.{◌≡◌, ℕ, ◌+◌, ◌^◌, ◌<◌, ◌≤◌, ◌==◌, Bool, true, List, [], ◌∷◌, length}
use Rattle.std.specs.List.{AllByRecursion, list_any}
use Rattle.tester_types.specs.declared.level.Drive.{Drive}
use Rattle.die_sim.specs.Socket.{Calls}
use Rattle.text_bytes.specs.Limits.{longest_name, most_signals}
use Rattle.vcd_text.specs.Dump.{Var, is_plain}

-- numbered items whose numbers rise strictly, the first of which is at least this
abbrev pub Rises : {X : Type 0} → ℕ → List (ℕ × X) → Type 0
Rises least [] = Unit {0}
Rises least (item ∷ items) = (least ≤ item.0) × Rises (item.0 + 1) items

-- a signal's number, and a plain name that isn't too long
pub record IsVar (var : Var) : Type 0 where
  pub number : var.0 < most_signals
  pub plain : is_plain var.1 ≡ true
  pub short : length var.1 ≤ longest_name

-- the numbers of vars rise strictly
pub record AreVars (vars : List Var) : Type 0 where
  pub rise : Rises 0 vars
  pub each : AllByRecursion IsVar vars

-- whether a signal is among the vars
abbrev pub is_var : List Var → ℕ → Bool
is_var vars signal = list_any (λ (var : Var). var.0 == signal) vars

-- drives whose signals rise strictly and are among the vars
pub record AreDrives (vars : List Var) (drives : List (ℕ × Drive)) : Type 0 where
  pub rise : Rises 0 drives
  pub each : AllByRecursion (λ (given : ℕ × Drive). is_var vars given.0 ≡ true) drives

-- a call at an instant of 128 bits, with a drive at least
pub record IsCall (vars : List Var) (call : ℕ × List (ℕ × Drive)) : Type 0 where
  pub instant : call.0 < 2 ^ 128
  pub some : 0 < length call.1
  pub drives : AreDrives vars call.1

-- the instants of calls rise strictly
pub record AreCalls (vars : List Var) (calls : Calls) : Type 0 where
  pub rise : Rises 0 calls
  pub each : AllByRecursion (IsCall vars) calls

-- vars and a tape that are sound together
pub record IsSound (vars : List Var) (calls : Calls) : Type 0 where
  pub names : AreVars vars
  pub drives : AreCalls vars calls
