-- What is found or refused is all that may be.
use Rattle.std.proofs.Common.{◌≡◌, ◌⊎◌, ℕ, List, Result, Ok, Err, sym, ap, ◌∙◌, refl, inl, inr}
use Rattle.std.specs.Prelude.{MatchResult}
use Rattle.die_sim.specs.Socket.{Calls}
use Rattle.vcd_text.specs.declared.dump.Dump.{Dump}
use Rattle.vcd_text.specs.declared.read.DumpFault.{DumpFault}
use Rattle.vcd_text.specs.declared.read.DumpFault.TheVariants as fault
use Rattle.vcd_text.specs.Dump.{Var, dump_of}
use Rattle.vcd_text.specs.Sound.{IsSound}
use Rattle.vcd_text.specs.Refusal.{IsFault}
use Rattle.vcd_text.specs.Read.{Reads}
use Rattle.vcd_text.proofs.FaultLemmas.{one_dump, one_fault}

-- what was read
abbrev pub IsFound : List ℕ → Dump → Type 0
IsFound bytes d = IsSound d.vars d.tape.calls × (bytes ≡ dump_of d.vars d.tape.calls)

-- the dump of sound vars and a tape is read as these
pub only_these : (bytes : List ℕ) (r : Result Dump DumpFault) → Reads bytes (IsFound bytes) r
    → (vars : List Var) (calls : Calls) → IsSound vars calls → bytes ≡ dump_of vars calls
    → MatchResult r (λ d. (d.vars ≡ vars) × (d.tape.calls ≡ calls)) (λ e. e ≡ fault.NoMemory)
only_these bytes (Ok d) found vars calls sound is = one_dump d.vars vars d.tape.calls calls found.0 sound (sym found.1 ∙ is)
only_these bytes (Err fault.NoMemory) wrong vars calls sound is = refl
only_these bytes (Err (fault.Line n)) wrong vars calls sound is = absurd (wrong.none vars calls sound is)

-- a text with a fault is refused at its line
pub refused_there : (bytes : List ℕ) (r : Result Dump DumpFault) → Reads bytes (IsFound bytes) r
    → (line : ℕ) → IsFault bytes line → MatchResult r (λ _. ⊥) (λ e. (e ≡ fault.NoMemory) ⊎ (e ≡ fault.Line line))
refused_there bytes (Ok d) found line bad = bad.none d.vars d.tape.calls found.0 found.1
refused_there bytes (Err fault.NoMemory) wrong line bad = inl refl
refused_there bytes (Err (fault.Line n)) wrong line bad = inr (ap (λ (k : ℕ). fault.Line k) (one_fault bytes n line wrong bad))
