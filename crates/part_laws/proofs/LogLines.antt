-- What a datalog says of a record is a die's log, line by line.
use Rattle.std.proofs.Common.{◌≡◌, ℕ, ◌+◌, ◌≤◌, true, false, List, length, arith, [], ◌∷◌, ◌++◌, Option, Some, None, refl, sym, ap, subst, ◌∙◌}
use Rattle.std.specs.Prelude.{◌==◌, map, codes, decimal}
use Rattle.std.specs.List.{flat_map, AllByRecursion}
use Rattle.std.proofs.lemmas.Bool.{and_from, false≢true}
use Rattle.std.proofs.lemmas.List.{append_assoc, append-nil, length-map}
use Rattle.std.proofs.lemmas.List.Concat.{flat_map-append}
use Rattle.std.proofs.lemmas.List.Folds.{flat_map-map}
use Rattle.text_bytes.proofs.ListLemmas.{all_from}
use Rattle.tester_types.specs.Cells.{Cell}
use Rattle.tester_types.specs.Printing.{printed_name}
use Rattle.tester_types.specs.declared.level.Level.{Level}
use Rattle.tester_types.specs.declared.level.Level.TheVariants as level
use Rattle.tester_types.specs.declared.wave.Look.{Look}
use Rattle.tester_types.specs.declared.wave.Look.TheVariants as look
use Rattle.tester_types.specs.declared.record.By.{By}
use Rattle.tester_types.specs.declared.record.By.TheVariants as by
use Rattle.tester_types.specs.declared.record.Fail.{Fail}
use Rattle.tester_types.specs.declared.record.Record.{Record}
use Rattle.tester_types.specs.declared.record.Trial.{Trial}
use Rattle.tester_types.specs.declared.record.Verdict.{Verdict}
use Rattle.tester_types.specs.declared.record.Verdict.TheVariants as verdict
use Rattle.tester_types.specs.Acts.{look_letter}
use Rattle.packed_code.specs.Program.{Program}
use Rattle.plan_rows.specs.Rows.{AreKept}
use Rattle.lot_plan.specs.Bound.{Bound, die_at}
use Rattle.lot_plan.proofs.BinLemmas.{bin_of-within}
use Rattle.site_meaning.specs.Part.{Part, lot_in}
use Rattle.site_meaning.specs.Records.{AreNumbered, EndsSo, IsTrue, Sound}
use Rattle.site_meaning.specs.Trials.{cut_of}
use Rattle.strobe_check.specs.Look.{is_met}
use Rattle.datalog.proofs.KnownLemmas.{unmet_trial}
use Rattle.datalog.specs.DatalogText.{signal_name, seen_letter, cell_of, cell_words, found_words, fail_line, verdict_line, try_line, trial_text, final_verdict, die_bin, record_text}
use Rattle.part_lines.specs.Lines.{ended, is_one_line}
use Rattle.part_lines.proofs.LineLemmas.{one_append, one_decimal}
use Rattle.part_lines.proofs.WordLemmas.{decimal_is_number}
use Rattle.log_parts.specs.Tries.{IsTryLine, IsVerdictLine, passed, failed, by_plan, by_desk, lost, is_end, gap_then, word_then, is_cell, may_end, from_seen, from_want, from_signal, from_time, from_cycle, is_fail_line, TryLog, try_lines, AreFails, AreTries}
use Rattle.log_parts.specs.Log.{DieLog, IsDieLog, die_text}
use Rattle.log_parts.proofs.FitLemmas.{digits_fit, named_fit}
use Rattle.part_laws.proofs.OneLine.{printed_one, ShowsNames, signal_printable, IsPrinted, cell_of_printed}

-- ---- lines without their line feeds

-- of a try
abbrev try_words : Trial → List ℕ
try_words t =
    codes "try " ++ decimal t.number ++ codes " cycles " ++ decimal t.cycles
    ++ codes " fails " ++ decimal t.fails

-- of a fail
abbrev fail_words : Program → Fail → List ℕ
fail_words code f = found_words code f ++ cell_words (cell_of code f)

-- of a try that was stopped
abbrev stopped_words : ℕ → By → List ℕ
stopped_words batch by.Plan = codes "verdict stopped " ++ decimal batch ++ codes " plan"
stopped_words batch (by.Desk stops) = codes "verdict stopped " ++ decimal batch ++ codes " desk " ++ decimal stops

-- of a verdict
abbrev verdict_words : Verdict → List ℕ
verdict_words verdict.Pass = codes "verdict pass"
verdict_words (verdict.Fail exec) = codes "verdict fail " ++ decimal exec
verdict_words (verdict.Stopped batch who) = stopped_words batch who
verdict_words (verdict.Contact at) = codes "verdict contact " ++ decimal at

-- all lines of a try
abbrev pub trial_lines : Program → Trial → List (List ℕ)
trial_lines code t = try_words t ∷ (map (fail_words code) t.kept ++ verdict_words t.verdict ∷ [])

-- what the datalog says of a record
abbrev pub log_of : Program → Bound → Record → DieLog
log_of code plan entry = record { body = flat_map (trial_lines code) entry.trials; bin = die_bin plan entry }

-- ---- the text is these lines

-- the line of a verdict
verdict_ended : (v : Verdict) → verdict_line v ≡ ended (verdict_words v)
verdict_ended verdict.Pass = refl
verdict_ended (verdict.Fail exec) = refl
verdict_ended (verdict.Stopped batch by.Plan) = sym (append_assoc (codes "verdict stopped " ++ decimal batch) (codes " plan") (codes "\n"))
verdict_ended (verdict.Stopped batch (by.Desk stops)) = refl
verdict_ended (verdict.Contact at) = refl

-- the lines of fails
fails_ended : (code : Program) (fs : List Fail)
    → flat_map (fail_line code) fs ≡ flat_map ended (map (fail_words code) fs)
fails_ended code fs = sym (flat_map-map ended (fail_words code) fs)

-- the lines of a try
trial_ended : (code : Program) (t : Trial) → trial_text code t ≡ flat_map ended (trial_lines code t)
trial_ended code t =
    append_assoc (try_line t) (flat_map (fail_line code) t.kept) (verdict_line t.verdict)
    ∙ ap (λ (l : List ℕ). try_line t ++ (flat_map (fail_line code) t.kept ++ l)) (verdict_ended t.verdict ∙ sym (append-nil (ended (verdict_words t.verdict))))
    ∙ ap (λ (l : List ℕ). try_line t ++ (l ++ flat_map ended (verdict_words t.verdict ∷ []))) (fails_ended code t.kept)
    ∙ ap (λ (l : List ℕ). try_line t ++ l) (sym (flat_map-append ended (map (fail_words code) t.kept) (verdict_words t.verdict ∷ [])))

-- the lines of tries
trials_ended : (code : Program) (ts : List Trial)
    → flat_map (trial_text code) ts ≡ flat_map ended (flat_map (trial_lines code) ts)
trials_ended code [] = refl
trials_ended code (t ∷ ts) =
    ap (λ (l : List ℕ). l ++ flat_map (trial_text code) ts) (trial_ended code t)
    ∙ ap (λ (l : List ℕ). flat_map ended (trial_lines code t) ++ l) (trials_ended code ts)
    ∙ sym (flat_map-append ended (trial_lines code t) (flat_map (trial_lines code) ts))

-- the lines of a record
pub record_is : (code : Program) (plan : Bound) (entry : Record)
    → record_text code plan entry
    ≡ die_text (die_at plan.rows entry.site entry.die).name (log_of code plan entry)
record_is code plan entry =
    ap (λ (l : List ℕ). die_line_of ++ l ++ bin_line_of) (trials_ended code entry.trials)
  where
    die_line_of : List ℕ
    die_line_of = codes "die " ++ printed_name (die_at plan.rows entry.site entry.die).name ++ codes "\n"

    bin_line_of : List ℕ
    bin_line_of = codes "bin " ++ decimal (die_bin plan entry) ++ codes "\n"

-- ---- the lines are such lines

-- a text without a line feed
abbrev One : List ℕ → Type 0
One line = is_one_line line ≡ true

-- the line of a try tells its number
try_is : (number : ℕ) (t : Trial) → t.number ≡ number → IsTryLine number (try_words t)
try_is number t same = record {
  cycles = decimal t.cycles;
  fails = decimal t.fails;
  are_cycles = decimal_is_number t.cycles;
  are_fails = decimal_is_number t.fails;
  is = ap (λ (n : ℕ). codes "try " ++ decimal n ++ codes " cycles " ++ decimal t.cycles ++ codes " fails " ++ decimal t.fails) same;
}

-- that of a stop is one of a verdict
stopped_is : (batch : ℕ) (who : By) → IsVerdictLine (stopped_words batch who)
stopped_is batch by.Plan = by_plan (decimal batch) (decimal_is_number batch) refl
stopped_is batch (by.Desk stops) =
    by_desk (decimal batch) (decimal stops) (decimal_is_number batch) (decimal_is_number stops) refl

-- so is each
verdict_is : (v : Verdict) → IsVerdictLine (verdict_words v)
verdict_is verdict.Pass = passed refl
verdict_is (verdict.Fail exec) = failed (decimal exec) (decimal_is_number exec) refl
verdict_is (verdict.Stopped batch who) = stopped_is batch who
verdict_is (verdict.Contact at) = lost (decimal at) (decimal_is_number at) refl

-- the letter of a look
look_one : (look : Look) → One (look_letter look)
look_one look.Low = refl
look_one look.High = refl
look_one look.Off = refl
look_one look.LowWindow = refl
look_one look.HighWindow = refl
look_one look.OffWindow = refl
look_one look.Close = refl

-- that of a level
seen_one : (l : Level) → One (seen_letter l)
seen_one level.Zero = refl
seen_one level.One = refl
seen_one level.X = refl
seen_one level.Z = refl

-- the words of a cell
cell_one : (o : Option Cell) → IsPrinted o → One (cell_words o)
cell_one None is = refl
cell_one (Some cell) is =
    one_append (codes " " ++ printed_name cell.chain ++ codes " ") (printed_name cell.name)
    (one_append (codes " " ++ printed_name cell.chain) (codes " ")
    (one_append (codes " ") (printed_name cell.chain) refl (printed_one cell.chain is.0)) refl) (printed_one cell.name is.1)

-- the line of a fail is one line
fail_one : (code : Program) → ShowsNames code → (f : Fail) → One (fail_words code f)
fail_one code shows f =
    let signal : List ℕ = printed_name (signal_name code f.signal) in
    one_append (found_words code f) (cell_words (cell_of code f))
    (one_append (codes "fail " ++ decimal f.cycle ++ codes " " ++ decimal f.at ++ codes " " ++ signal ++ codes " "
    ++ look_letter f.want ++ codes " ") (seen_letter f.seen)
    (one_append (codes "fail " ++ decimal f.cycle ++ codes " " ++ decimal f.at ++ codes " " ++ signal ++ codes " "
    ++ look_letter f.want) (codes " ")
    (one_append (codes "fail " ++ decimal f.cycle ++ codes " " ++ decimal f.at ++ codes " " ++ signal ++ codes " ") (look_letter f.want)
    (one_append (codes "fail " ++ decimal f.cycle ++ codes " " ++ decimal f.at ++ codes " " ++ signal) (codes " ")
    (one_append (codes "fail " ++ decimal f.cycle ++ codes " " ++ decimal f.at ++ codes " ") signal
    (one_append (codes "fail " ++ decimal f.cycle ++ codes " " ++ decimal f.at) (codes " ")
    (one_append (codes "fail " ++ decimal f.cycle ++ codes " ") (decimal f.at)
    (one_append (codes "fail " ++ decimal f.cycle) (codes " ")
    (one_append (codes "fail ") (decimal f.cycle) refl (one_decimal f.cycle)) refl) (one_decimal f.at)) refl)
    (printed_one (signal_name code f.signal) (signal_printable code shows f.signal))) refl) (look_one f.want)) refl) (seen_one f.seen))
    (cell_one (cell_of code f) (cell_of_printed code shows (λ chain. chain.out == f.signal) f.exec f.mark))

-- nothing, or a cell
cell_fits : (o : Option Cell) → may_end (cell_words o) ≡ true
cell_fits None = refl
cell_fits (Some cell) =
    ap may_end (append_assoc (codes " " ++ printed_name cell.chain) (codes " ") (printed_name cell.name)
    ∙ append_assoc (codes " ") (printed_name cell.chain) (codes " " ++ printed_name cell.name))
    ∙ named_fit (gap_then is_cell) cell.chain (codes " " ++ printed_name cell.name)
    (ap is_cell (sym (append-nil (printed_name cell.name))) ∙ named_fit is_end cell.name [] refl)

-- a level that was seen, and what follows
seen_fits : (l : Level) (cell : List ℕ) → may_end cell ≡ true → from_seen (seen_letter l ++ cell) ≡ true
seen_fits level.Zero cell fits = fits
seen_fits level.One cell fits = fits
seen_fits level.X cell fits = fits
seen_fits level.Z cell fits = fits

-- a look that isn't met, and what follows
look_fits : (look : Look) (l : Level) → is_met look l ≡ false → (rest : List ℕ) → from_seen rest ≡ true
    → from_want (look_letter look ++ (codes " " ++ rest)) ≡ true
look_fits look.Low l unmet rest fits = fits
look_fits look.High l unmet rest fits = fits
look_fits look.Off l unmet rest fits = fits
look_fits look.LowWindow l unmet rest fits = fits
look_fits look.HighWindow l unmet rest fits = fits
look_fits look.OffWindow l unmet rest fits = fits
look_fits look.Close l unmet rest fits = absurd (false≢true (sym unmet))

-- what was seen doesn't meet what was wanted
abbrev IsUnmet : Fail → Type 0
IsUnmet f = is_met f.want f.seen ≡ false

-- the words of the line of a fail, from its end
words_behind : (cycle at signal want seen cell : List ℕ)
    → (codes "fail " ++ cycle ++ codes " " ++ at ++ codes " " ++ signal ++ codes " " ++ want ++ codes " " ++ seen) ++ cell
    ≡ codes "fail " ++ (cycle ++ (codes " " ++ (at ++ (codes " " ++ (signal ++ (codes " " ++ (want ++ (codes " " ++ (seen ++ cell)))))))))
words_behind cycle at signal want seen cell =
    let a : List ℕ = codes "fail " ++ cycle in
    let b : List ℕ = a ++ codes " " ++ at in
    let c : List ℕ = b ++ codes " " ++ signal in
    let d : List ℕ = c ++ codes " " ++ want in
    let e : List ℕ = seen ++ cell in
    let f : List ℕ = want ++ (codes " " ++ e) in
    let g : List ℕ = signal ++ (codes " " ++ f) in
    let h : List ℕ = at ++ (codes " " ++ g) in
    append_assoc (d ++ codes " ") seen cell ∙ append_assoc d (codes " ") e
    ∙ append_assoc (c ++ codes " ") want (codes " " ++ e) ∙ append_assoc c (codes " ") f
    ∙ append_assoc (b ++ codes " ") signal (codes " " ++ f) ∙ append_assoc b (codes " ") g
    ∙ append_assoc (a ++ codes " ") at (codes " " ++ g) ∙ append_assoc a (codes " ") h
    ∙ append_assoc (codes "fail ") cycle (codes " " ++ h)

-- the line of a fail is one
fail_is : (code : Program) → ShowsNames code → (f : Fail) → IsUnmet f → is_fail_line (fail_words code f) ≡ true
fail_is code shows f unmet =
    let signal : List ℕ = signal_name code f.signal in
    let cell : List ℕ = cell_words (cell_of code f) in
    let seen : List ℕ = seen_letter f.seen ++ cell in
    let want : List ℕ = look_letter f.want ++ (codes " " ++ seen) in
    let name : List ℕ = printed_name signal ++ (codes " " ++ want) in
    let time : List ℕ = decimal f.at ++ (codes " " ++ name) in
    let from_look = look_fits f.want f.seen unmet seen (seen_fits f.seen cell (cell_fits (cell_of code f))) in
    let from_name = named_fit (gap_then from_want) signal (codes " " ++ want) from_look in
    let from_at = digits_fit (gap_then from_signal) (decimal f.at) (codes " " ++ name) (decimal_is_number f.at) from_name in
    let whole = digits_fit (gap_then from_time) (decimal f.cycle) (codes " " ++ time) (decimal_is_number f.cycle) from_at in
    and_from (word_then (codes "fail ") from_cycle (fail_words code f)) (is_one_line (fail_words code f))
    (ap (word_then (codes "fail ") from_cycle)
    (words_behind (decimal f.cycle) (decimal f.at) (printed_name signal) (look_letter f.want) (seen_letter f.seen) cell) ∙ whole)
    (fail_one code shows f)

-- each line of fails
fails_fit : (code : Program) → ShowsNames code → (fs : List Fail) → AllByRecursion IsUnmet fs
    → AreFails (map (fail_words code) fs)
fails_fit code shows [] unmet = tt
fails_fit code shows (f ∷ fs) unmet = (fail_is code shows f unmet.0, fails_fit code shows fs unmet.1)

-- each kept fail of a try is one
abbrev pub IsUnmetTry : Trial → Type 0
IsUnmetTry t = AllByRecursion IsUnmet t.kept

-- the lines of a try
abbrev try_of : Program → Trial → TryLog
try_of code t = record { head = try_words t; fails = map (fail_words code) t.kept; verdict = verdict_words t.verdict }

-- those of numbered tries
tries_fit : (code : Program) → ShowsNames code → (number : ℕ) (ts : List Trial) → AreNumbered number ts
    → AllByRecursion IsUnmetTry ts → AreTries number (map (try_of code) ts)
tries_fit code shows number [] are unmet = tt
tries_fit code shows number (t ∷ ts) are unmet = (
  record { head = try_is number t are.0; fails = fails_fit code shows t.kept unmet.0; verdict = verdict_is t.verdict },
  tries_fit code shows (number + 1) ts are.1 unmet.1,
)

-- a record has tries, which are numbered from 1 on, and what their kept fails saw isn't what they wanted
pub record IsTried (entry : Record) : Type 0 where
  pub numbers : AreNumbered 1 entry.trials
  pub some : 1 ≤ length entry.trials
  pub unmet : AllByRecursion IsUnmetTry entry.trials

-- a sound one has
pub sound_tried : (part : Part) (entry : Record) → Sound part entry → IsTried entry
sound_tried part entry sound = record {
  numbers = sound.numbers;
  some = ends_some (lot_in part).tries entry.trials sound.ending;
  unmet = all_from (IsTrue part entry.die) IsUnmetTry (λ t is. try_unmet t is) entry.trials sound.each;
}
  where
    ends_some : (tries : ℕ) (ts : List Trial) → EndsSo tries ts → 1 ≤ length ts
    ends_some tries [] ends = absurd ends
    ends_some tries (t ∷ ts) ends = omega arith

    try_unmet : (t : Trial) → IsTrue part entry.die t → IsUnmetTry t
    try_unmet t is =
        subst (λ (other : Trial). IsUnmetTry other) (sym is) (unmet_trial part entry.die t.number (cut_of t))

-- what a datalog says of a record is a die's log
pub log_fits : (code : Program) (plan : Bound) → ShowsNames code → AreKept plan.rows
    → (entry : Record) → IsTried entry → IsDieLog (log_of code plan entry)
log_fits code plan shows kept entry tried =
    let within = bin_of-within plan.rows (final_verdict entry.trials) kept in
    record {
      tries = map (try_of code) entry.trials;
      are = tries_fit code shows 1 entry.trials tried.numbers tried.unmet;
      tried = omega (arith, tried.some, length-map entry.trials (try_of code));
      lines = sym (flat_map-map try_lines (try_of code) entry.trials);
      some = within.0;
      last = within.1;
    }
