-- The text of a lot by a code without chains says nothing of marks: `same_texts`.
use Rattle.std.proofs.Common.{◌≡◌, ℕ, ◌+◌, ◌-◌, List, [], ◌∷◌, ◌++◌, map, length, Option, Some, None, refl, sym, ap, ◌∙◌}
use Rattle.std.specs.Prelude.{◌==◌, slice_get, codes, decimal}
use Rattle.std.specs.List.{find, flat_map}
use Rattle.std.specs.Option.{option_map, option_map_or, option_and_then}
use Rattle.std.proofs.lemmas.List.{length-map}
use Rattle.std.proofs.lemmas.Option.{slice_get-map}
use Rattle.tester_types.specs.Printing.{printed_name}
use Rattle.tester_types.specs.Acts.{look_letter}
use Rattle.tester_types.specs.declared.record.Fail.{Fail}
use Rattle.tester_types.specs.declared.record.Verdict.TheVariants as verdict
use Rattle.tester_types.specs.declared.record.Record.{Record}
use Rattle.tester_types.specs.declared.record.Trial.{Trial}
use Rattle.packed_code.specs.declared.parts.CodeSignal.{CodeSignal}
use Rattle.packed_code.specs.declared.parts.CodeChain.{CodeChain}
use Rattle.packed_code.specs.Program.{Program}
use Rattle.plan_rows.specs.declared.row.Row.{Row}
use Rattle.lot_plan.specs.Bound.{Bound, die_at}
use Rattle.lot_plan.specs.Readings.{bin_of}
use Rattle.datalog.specs.DatalogText.{seen_letter, cell_in, cell_words, fail_line, verdict_line, try_line, trial_text, final_verdict, die_bin, die_line, bin_line, record_text, site_line, site_text, numbered, bins_of, totals_text, lot_text}
use Rattle.flat_lots.specs.Chains.{HasNoChains}
use Rattle.flat_lots.specs.Unmarked.{unmarked, unmarked_trial, unmarked_record}

-- ---- lines by what is told beside marks

plain_fail : List CodeSignal → Fail → List ℕ
plain_fail signals f =
    (codes "fail " ++ decimal f.cycle ++ codes " " ++ decimal f.at ++ codes " "
    ++ printed_name (option_map_or (λ s. s.name) (slice_get signals f.signal) []) ++ codes " "
    ++ look_letter f.want ++ codes " " ++ seen_letter f.seen) ++ [] ++ codes "\n"

plain_trial : List CodeSignal → Trial → List ℕ
plain_trial signals t = try_line t ++ flat_map (plain_fail signals) t.kept ++ verdict_line t.verdict

plain_bin : List Row → Record → ℕ
plain_bin rows entry = bin_of rows (final_verdict entry.trials)

plain_record : List CodeSignal → List Row → Record → List ℕ
plain_record signals rows entry =
    die_line (die_at rows entry.site entry.die).name ++ flat_map (plain_trial signals) entry.trials
    ++ bin_line (plain_bin rows entry)

plain_site : List CodeSignal → List Row → ℕ → List Record → List ℕ
plain_site signals rows number [] = []
plain_site signals rows number (entry ∷ entries) = site_line number ++ flat_map (plain_record signals rows) (entry ∷ entries)

-- ---- they are the lines of a code without chains

module _ (code : Program) (none : HasNoChains code) where
  fail_plain : (f : Fail) → fail_line code f ≡ plain_fail code.signals (unmarked f)
  unfolding plain_fail
  fail_plain f =
      ap (λ (chains : List CodeChain). (codes "fail " ++ decimal f.cycle ++ codes " " ++ decimal f.at ++ codes " "
      ++ printed_name (option_map_or (λ s. s.name) (slice_get code.signals f.signal) []) ++ codes " "
      ++ look_letter f.want ++ codes " " ++ seen_letter f.seen)
      ++ cell_words (option_and_then (cell_in f.mark) (find (λ chain. chain.out == f.signal) chains)) ++ codes "\n") (none f.exec)

  fails_plain : (fs : List Fail) → flat_map (fail_line code) fs ≡ flat_map (plain_fail code.signals) (map unmarked fs)
  fails_plain [] = refl
  fails_plain (f ∷ fs) =
      ap (λ (l : List ℕ). l ++ flat_map (fail_line code) fs) (fail_plain f)
      ∙ ap (λ (l : List ℕ). plain_fail code.signals (unmarked f) ++ l) (fails_plain fs)

  trial_plain : (t : Trial) → trial_text code t ≡ plain_trial code.signals (unmarked_trial t)
  unfolding plain_trial
  trial_plain t = ap (λ (l : List ℕ). try_line t ++ l ++ verdict_line t.verdict) (fails_plain t.kept)

  trials_plain : (ts : List Trial) → flat_map (trial_text code) ts ≡ flat_map (plain_trial code.signals) (map unmarked_trial ts)
  trials_plain [] = refl
  trials_plain (t ∷ ts) =
      ap (λ (l : List ℕ). l ++ flat_map (trial_text code) ts) (trial_plain t)
      ∙ ap (λ (l : List ℕ). plain_trial code.signals (unmarked_trial t) ++ l) (trials_plain ts)

last_plain : (o : Option Trial) → option_map_or (λ (t : Trial). t.verdict) (option_map unmarked_trial o) verdict.Pass
    ≡ option_map_or (λ (t : Trial). t.verdict) o verdict.Pass
last_plain None = refl
last_plain (Some t) = refl

final_plain : (ts : List Trial) → final_verdict (map unmarked_trial ts) ≡ final_verdict ts
final_plain ts =
    ap (λ (n : ℕ). option_map_or (λ (t : Trial). t.verdict) (slice_get (map unmarked_trial ts) (n - 1)) verdict.Pass) (length-map ts unmarked_trial)
    ∙ ap (λ (o : Option Trial). option_map_or (λ (t : Trial). t.verdict) o verdict.Pass) (slice_get-map unmarked_trial ts (length ts - 1))
    ∙ last_plain (slice_get ts (length ts - 1))

bin_plain : (plan : Bound) (entry : Record) → die_bin plan entry ≡ plain_bin plan.rows (unmarked_record entry)
unfolding plain_bin
bin_plain plan entry = ap (bin_of plan.rows) (sym (final_plain entry.trials))

bins_plain : (plan : Bound) (entries : List Record) → map (die_bin plan) entries ≡ map (plain_bin plan.rows) (map unmarked_record entries)
bins_plain plan [] = refl
bins_plain plan (entry ∷ entries) =
    ap (λ (b : ℕ). b ∷ map (die_bin plan) entries) (bin_plain plan entry)
    ∙ ap (λ (l : List ℕ). plain_bin plan.rows (unmarked_record entry) ∷ l) (bins_plain plan entries)

all_bins : (plan : Bound) (sites : List (List Record))
    → bins_of plan sites ≡ flat_map (map (plain_bin plan.rows)) (map (map unmarked_record) sites)
all_bins plan [] = refl
all_bins plan (entries ∷ sites) =
    ap (λ (l : List ℕ). l ++ flat_map (map (die_bin plan)) sites) (bins_plain plan entries)
    ∙ ap (λ (l : List ℕ). map (plain_bin plan.rows) (map unmarked_record entries) ++ l) (all_bins plan sites)

module _ (code : Program) (none : HasNoChains code) (plan : Bound) where
  record_plain : (entry : Record) → record_text code plan entry ≡ plain_record code.signals plan.rows (unmarked_record entry)
  unfolding plain_record
  record_plain entry =
      let name = die_line (die_at plan.rows entry.site entry.die).name in
      ap (λ (l : List ℕ). name ++ l ++ bin_line (die_bin plan entry)) (trials_plain code none entry.trials)
      ∙ ap (λ (b : ℕ). name ++ flat_map (plain_trial code.signals) (map unmarked_trial entry.trials) ++ bin_line b) (bin_plain plan entry)

  records_plain : (entries : List Record)
      → flat_map (record_text code plan) entries ≡ flat_map (plain_record code.signals plan.rows) (map unmarked_record entries)
  records_plain [] = refl
  records_plain (entry ∷ entries) =
      ap (λ (l : List ℕ). l ++ flat_map (record_text code plan) entries) (record_plain entry)
      ∙ ap (λ (l : List ℕ). plain_record code.signals plan.rows (unmarked_record entry) ++ l) (records_plain entries)

  site_plain : (number : ℕ) (entries : List Record) → site_text code plan number entries ≡ plain_site code.signals plan.rows number (map unmarked_record entries)
  unfolding plain_site
  site_plain number [] = refl
  site_plain number (entry ∷ entries) = ap (λ (l : List ℕ). site_line number ++ l) (records_plain (entry ∷ entries))

  sites_plain : (number : ℕ) (sites : List (List Record))
      → numbered (site_text code plan) number sites ≡ numbered (plain_site code.signals plan.rows) number (map (map unmarked_record) sites)
  sites_plain number [] = refl
  sites_plain number (entries ∷ sites) =
      ap (λ (l : List ℕ). l ++ numbered (site_text code plan) (number + 1) sites) (site_plain number entries)
      ∙ ap (λ (l : List ℕ). plain_site code.signals plan.rows number (map unmarked_record entries) ++ l) (sites_plain (number + 1) sites)

  -- the text by what is told beside marks
  lot_plain : (sites : List (List Record)) → lot_text code plan sites
      ≡ numbered (plain_site code.signals plan.rows) 0 (map (map unmarked_record) sites)
      ++ totals_text (flat_map (map (plain_bin plan.rows)) (map (map unmarked_record) sites))
  lot_plain sites =
      ap (λ (l : List ℕ). l ++ totals_text (bins_of plan sites)) (sites_plain 0 sites)
      ∙ ap (λ (bins : List ℕ). numbered (plain_site code.signals plan.rows) 0 (map (map unmarked_record) sites) ++ totals_text bins) (all_bins plan sites)

-- codes without chains over the same signals print records that differ in marks alone as one text, under plans with the same rows
pub same_texts : (code other : Program) → HasNoChains code → HasNoChains other → code.signals ≡ other.signals → (plan plan' : Bound)
    → plan.rows ≡ plan'.rows → (sites sites' : List (List Record)) → map (map unmarked_record) sites ≡ map (map unmarked_record) sites'
    → lot_text code plan sites ≡ lot_text other plan' sites'
same_texts code other none none' signals plan plan' rows sites sites' same =
    let text = λ (all : List CodeSignal) (rs : List Row) (ss : List (List Record)). numbered (plain_site all rs) 0 ss
    ++ totals_text (flat_map (map (plain_bin rs)) ss) in
    lot_plain code none plan sites
    ∙ ap (λ (all : List CodeSignal). text all plan.rows (map (map unmarked_record) sites)) signals
    ∙ ap (λ (rs : List Row). text other.signals rs (map (map unmarked_record) sites)) rows
    ∙ ap (λ (ss : List (List Record)). text other.signals plan'.rows ss) same
    ∙ sym (lot_plain other none' plan' sites')
