-- The parts of a dump as they are put, one after another.
use Rattle.std.proofs.Common.{◌≡◌, ℕ, zero, suc, ◌+◌, ◌<◌, ◌≤◌, take, true, cond, List, [], ◌∷◌, ◌++◌, length, map, refl, sym, ap, ◌∙◌, inl, inr, arith, append_assoc, append-nil}
use Rattle.std.specs.Prelude.{All}
use Rattle.std.specs.List.{AllByRecursion, flat_map, range_with_len}
use Rattle.std.proofs.lemmas.Bool.{cases_Bool}
use Rattle.std.proofs.lemmas.List.{map-append}
use Rattle.std.proofs.lemmas.Grind.{flat_map-append}
use Rattle.std.proofs.lemmas.List.Elements.{All-from_recursion}
use Rattle.text_bytes.specs.Limits.{most_signals}
use Rattle.tester_types.specs.declared.level.Drive.{Drive}
use Rattle.packed_code.specs.Program.{Program}
use Rattle.die_sim.specs.Die.{Device, device_of}
use Rattle.die_sim.specs.Socket.{Calls}
use Rattle.lot_plan.specs.Bound.{Bound, image_of}
use Rattle.site_meaning.specs.Playing.{is_driven}
use Rattle.vcd_text.specs.Dump.{Var, timescale, scope, upscope, definitions, at, ended, text_of, line_of_var, line_of_drive, lines_of_call, head_of, dump_of, name_of}
use Rattle.vcd_text.specs.Put.{call_text}
use Rattle.vcd_text.specs.Sound.{IsVar, is_var, IsCall, IsSound}
use Rattle.vcd_text.proofs.ReadingLemmas.{var_is_signal}
use Rattle.vcd_dump.specs.Taken.{var_of, vars_of, signal_text}
use Rattle.vcd_dump.specs.Written.{var_text, front_text, back_text}

-- one signal
text-var : (device : Device) (code : Program) (signal : ℕ) → text_of (map line_of_var (var_of device code signal)) ≡ var_text device code signal
text-var device code signal = elim (cases_Bool (is_driven device signal)) [
  | inl driven ↦
      let var : Var = (signal, name_of signal (signal_text code signal)) in
      ap (λ b. text_of (map line_of_var (cond b (var ∷ []) []))) driven
      ∙ append-nil (ended (line_of_var var))
      ∙ sym (ap (λ b. cond b (ended (line_of_var var)) []) driven)
  | inr other ↦
      let var : Var = (signal, name_of signal (signal_text code signal)) in
      ap (λ b. text_of (map line_of_var (cond b (var ∷ []) []))) other
      ∙ sym (ap (λ b. cond b (ended (line_of_var var)) []) other)
]

text-vars : (device : Device) (code : Program) (signals : List ℕ)
    → text_of (map line_of_var (flat_map (var_of device code) signals)) ≡ flat_map (var_text device code) signals
text-vars device code [] = refl
text-vars device code (signal ∷ signals) =
    ap text_of (map-append line_of_var (var_of device code signal) (flat_map (var_of device code) signals))
    ∙ flat_map-append ended (map line_of_var (var_of device code signal)) (map line_of_var (flat_map (var_of device code) signals))
    ∙ ap (λ t. t ++ text_of (map line_of_var (flat_map (var_of device code) signals))) (text-var device code signal)
    ∙ ap (λ t. var_text device code signal ++ t) (text-vars device code signals)

text-drives : (drives : List (ℕ × Drive)) → text_of (map line_of_drive drives) ≡ flat_map (λ (given : ℕ × Drive). ended (line_of_drive given)) drives
text-drives [] = refl
text-drives (given ∷ drives) = ap (λ t. ended (line_of_drive given) ++ t) (text-drives drives)

text-calls : (calls : Calls) → text_of (flat_map lines_of_call calls) ≡ flat_map call_text calls
text-calls [] = refl
text-calls (call ∷ calls) =
    flat_map-append ended (lines_of_call call) (flat_map lines_of_call calls)
    ∙ ap (λ t. (ended (at call.0) ++ t) ++ text_of (flat_map lines_of_call calls)) (text-drives call.1)
    ∙ ap (λ t. call_text call ++ t) (text-calls calls)

-- the whole dump
pub dump_is : (plan : Bound) (site : ℕ) (code : Program) (calls : Calls) → plan.program ≡ code
    → dump_of (vars_of plan site) calls ≡ front_text (device_of (image_of plan site 0 1)) code ++ back_text calls
unfolding vars_of front_text back_text
dump_is plan site code calls program =
    let device = device_of (image_of plan site 0 1) in
    let vars = flat_map (var_of device plan.program) (range_with_len 0 (length plan.program.signals)) in
    let begin = timescale ∷ scope ∷ [] in
    let end = upscope ∷ definitions ∷ [] in
    flat_map-append ended (head_of vars) (flat_map lines_of_call calls)
    ∙ ap (λ t. text_of (head_of vars) ++ t) (text-calls calls)
    ∙ ap (λ t. t ++ flat_map call_text calls)
    (flat_map-append ended (begin ++ map line_of_var vars) end
    ∙ ap (λ t. t ++ text_of end)
    (flat_map-append ended begin (map line_of_var vars)
    ∙ ap (λ t. text_of begin ++ t)
    (text-vars device plan.program (range_with_len 0 (length plan.program.signals))
    ∙ ap (λ (p : Program). flat_map (var_text device p) (range_with_len 0 (length p.signals))) program)))
    ∙ append_assoc (text_of begin ++ flat_map (var_text device code) (range_with_len 0 (length code.signals))) (text_of end) (flat_map call_text calls)

-- the signals of sound drives are signals of a program
signals_few : (vars : List Var) (drives : List (ℕ × Drive)) → AllByRecursion IsVar vars
    → AllByRecursion (λ (given : ℕ × Drive). is_var vars given.0 ≡ true) drives → AllByRecursion (λ (given : ℕ × Drive). given.0 < most_signals) drives
signals_few vars [] are each = tt
signals_few vars (given ∷ drives) are each = (var_is_signal vars given.0 are each.0, signals_few vars drives are each.1)

calls_few : (vars : List Var) (calls : Calls) → AllByRecursion IsVar vars → AllByRecursion (IsCall vars) calls
    → AllByRecursion (λ (call : ℕ × List (ℕ × Drive)). All (λ (given : ℕ × Drive). given.0 < most_signals) call.1) calls
calls_few vars [] are each = tt
calls_few vars (call ∷ calls) are each = (
  All-from_recursion (λ (given : ℕ × Drive). given.0 < most_signals) call.1 (signals_few vars call.1 are each.0.drives.each),
  calls_few vars calls are each.1,
)

pub few_signals : (vars : List Var) (calls : Calls) → IsSound vars calls
    → All (λ (call : ℕ × List (ℕ × Drive)). All (λ (given : ℕ × Drive). given.0 < most_signals) call.1) calls
few_signals vars calls sound =
    All-from_recursion (λ (call : ℕ × List (ℕ × Drive)). All (λ (given : ℕ × Drive). given.0 < most_signals) call.1) calls
    (calls_few vars calls sound.names.each sound.drives.each)

-- the first of numbers
pub take_range : (a k n : ℕ) → k ≤ n → take k (range_with_len a n) ≡ range_with_len a k
take_range a zero n less = refl
take_range a (suc k) zero less = absurd (omega (arith, less))
take_range a (suc k) (suc n) less = ap (λ l. a ∷ l) (take_range (a + 1) k n (omega (arith, less)))
