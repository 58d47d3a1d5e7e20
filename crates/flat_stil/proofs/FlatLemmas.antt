-- What is answered of a code, and that it has one answer but for want of memory.
use Rattle.std.proofs.Common.{◌≡◌, ◌⊎◌, ℕ, ◌-◌, Bool, true, false, cond, List, [], ◌∷◌, ◌++◌, length, Option, Some, None, Result, Ok, Err, MatchResult, refl, sym, ap, subst, ◌∙◌, arith, inl, inr}
use Rattle.std.specs.Prelude.{IfOk, IfErr, option_map, nat_le}
use Rattle.std.proofs.lemmas.Bool.{leb-true, leb-false}
use Rattle.text_bytes.specs.Limits.{most_bytes}
use Rattle.packed_code.specs.Program.{Program}
use Rattle.packed_code.specs.Conditions.{IsProgram}
use Rattle.stil_program.specs.Program.{IsTextFault}
use Rattle.stil_program.proofs.FaultLemmas.{one_text_fault}
use Rattle.stil_ast.specs.declared.fault.StilFault.{StilFault}
use Rattle.flat_parts.specs.FlatText.{flat_lines, flat_text, has_plain_names}
use Rattle.flat_laws.proofs.LawLemmas.{program_is_same}
use Rattle.flat_stil.specs.FlatFault.{IsFlat, MeansSame, IsTooLong, IsTooFlat}
use Rattle.flat_stil.specs.Working.{Written, wrote, prints, IsWritten, Answers}
use Rattle.flat_stil.specs.declared.fault.FlatFault.{FlatFault}
use Rattle.flat_stil.specs.declared.fault.FlatFault.TheVariants as fault
use Rattle.flat_stil.proofs.SheetLemmas.{then_lines, line_then}

-- ---- the lines, part by part

pub all_lines : (s a b c d e f g : Option Written) (first : List ℕ) (signals timings rows patterns bursts execs : List (List ℕ))
    → a ≡ prints s (first ∷ []) → b ≡ prints a signals → c ≡ prints b timings → d ≡ prints c rows → e ≡ prints d patterns
    → f ≡ prints e bursts → g ≡ prints f execs
    → g ≡ prints s (first ∷ (signals ++ timings ++ rows ++ patterns ++ bursts ++ execs))
all_lines s a b c d e f g first signals timings rows patterns bursts execs ha hb hc hd he hf hg =
    let two = then_lines a b c signals timings hb hc in
    let three = then_lines a c d (signals ++ timings) rows two hd in
    let four = then_lines a d e (signals ++ timings ++ rows) patterns three he in
    let five = then_lines a e f (signals ++ timings ++ rows ++ patterns) bursts four hf in
    let six = then_lines a f g (signals ++ timings ++ rows ++ patterns ++ bursts) execs five hg in
    line_then s a g first (signals ++ timings ++ rows ++ patterns ++ bursts ++ execs) ha six

-- ---- a sheet that is written

written_by : (code : Program) (fits : Bool) → nat_le (length (flat_text code)) most_bytes ≡ fits
    → IsWritten code (option_map (λ (w : Written). w.text)
    (cond fits (Some (record { text = flat_text code; room = most_bytes - length (flat_text code) })) None))
written_by code true fits = (refl, leb-true (length (flat_text code)) most_bytes fits)
written_by code false fits = leb-false (length (flat_text code)) most_bytes fits

-- a sheet with room for the longest text has the flat text, or is over
pub is_written : (code : Program) (sheet : Option Written) (r : Option (List ℕ))
    → sheet ≡ prints (Some (record { text = []; room = most_bytes })) (flat_lines code)
    → r ≡ option_map (λ (w : Written). w.text) sheet → IsWritten code r
unfolding prints wrote
is_written code sheet r printed is =
    subst (IsWritten code) (sym (is ∙ ap (option_map (λ (w : Written). w.text)) printed))
    (written_by code (nat_le (length (flat_text code)) most_bytes) refl)

-- ---- one answer

no_two : (text : List ℕ) (f : StilFault) → IsTextFault text (Some f) → IsTextFault text None → ⊥
no_two text f some none = let same = one_text_fault text (Some f) None some none in cc

pub only_flat : (code : Program) (r : Result (List ℕ) FlatFault) → Answers code r → IsTooFlat code
    → MatchResult r (λ _. ⊥) (λ e. (e ≡ fault.NoMemory) ⊎ (e ≡ fault.TooFlat))
only_flat code (Ok text) is flat =
    no_two text flat.fault (subst (λ (t : List ℕ). IsTextFault t (Some flat.fault)) (sym is.is) flat.first) is.fine
only_flat code (Err fault.NoMemory) is flat = inl refl
only_flat code (Err fault.TooLong) is flat = let short = flat.short in absurd (omega (arith, is, short))
only_flat code (Err fault.TooFlat) is flat = inr refl

pub only_long : (code : Program) (r : Result (List ℕ) FlatFault) → Answers code r → IsTooLong code
    → MatchResult r (λ _. ⊥) (λ e. (e ≡ fault.NoMemory) ⊎ (e ≡ fault.TooLong))
only_long code (Ok text) is long = let short = is.short in let l = ap length is.is in omega (arith, long, short, l)
only_long code (Err fault.NoMemory) is long = inl refl
only_long code (Err fault.TooLong) is long = inr refl
only_long code (Err fault.TooFlat) is long = let short = is.short in absurd (omega (arith, long, short))

pub only_fine : (code : Program) (r : Result (List ℕ) FlatFault) → Answers code r → IsFlat code (flat_text code)
    → IfErr r (λ e. e ≡ fault.NoMemory)
only_fine code (Ok text) is flat = tt
only_fine code (Err fault.NoMemory) is flat = refl
only_fine code (Err fault.TooLong) is flat = let short = flat.short in absurd (omega (arith, is, short))
only_fine code (Err fault.TooFlat) is flat = absurd (no_two (flat_text code) is.fault is.first flat.fine)

-- ---- what the text means

pub means_same : (code : Program) (r : Result (List ℕ) FlatFault) → IsProgram code → has_plain_names code ≡ true
    → Answers code r → IfOk r (MeansSame code)
means_same code (Ok text) whole plain is =
    subst (MeansSame code) (sym is.is) (λ blocks of. program_is_same code blocks whole plain of)
means_same code (Err e) whole plain is = tt
