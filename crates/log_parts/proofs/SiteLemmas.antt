-- How the sites of a datalog go on, up to the totals.
use Rattle.std.proofs.Common.{◌≡◌, ℕ, ◌+◌, List, [], ◌∷◌, ◌++◌, length, refl, sym, ap, subst, ◌∙◌, arith, append_assoc}
use Rattle.std.proofs.lemmas.List.{append_cancel_left, append-nil}
use Rattle.text_bytes.specs.Texts.{AreLines}
use Rattle.text_bytes.proofs.TextLemmas.{lines_behind}
use Rattle.datalog.specs.DatalogText.{site_line, totals_text}
use Rattle.part_lines.specs.LineFault.{IsLineFault}
use Rattle.part_lines.specs.Reading.{IsNext, GoesOn}
use Rattle.part_lines.proofs.LineLemmas.{lines_more, no_lines}
use Rattle.part_lines.proofs.FaultLemmas.{goes_on_at_once, goes_on_more, first_line_fault}
use Rattle.log_parts.specs.Log.{DieLog, dies_text, sites_text, bins_of, AreDieLogs, AreLogs, log_text, IsLog, IsLogOf}
use Rattle.log_parts.specs.Step.{die_bins, IsRest, IsText, site_words}
use Rattle.log_parts.proofs.WordLemmas.{one_site}
use Rattle.log_parts.proofs.RestLemmas.{some_rest}
use Rattle.log_parts.proofs.DieLemmas.{goes_dies, lines_dies}

-- ---- the line of a site

-- a site more: its dies, and the sites behind it
site_first : (number : ℕ) (names : List (List ℕ)) (later : List (List (List ℕ))) (bins back : List ℕ) →
    IsRest names (number + 1) later bins back → IsRest [] number (names ∷ later) bins (site_line number ++ back)
site_first number names later bins back rest = record {
  dies = [];
  sites = rest.dies ∷ rest.sites;
  are_dies = (refl, tt);
  are_sites = (rest.are_dies, rest.are_sites);
  is =
      let totals = totals_text (bins ++ (die_bins rest.dies ++ bins_of rest.sites)) in
      let more = sites_text (number + 1) later rest.sites in
      ap (λ t. site_line number ++ t) rest.is
      ∙ sym (append_assoc (site_line number) (dies_text names rest.dies) (more ++ totals))
      ∙ sym (append_assoc (site_line number ++ dies_text names rest.dies) more totals);
}

-- the same, back
site_then : (number : ℕ) (names : List (List ℕ)) (later : List (List (List ℕ))) (bins whole : List ℕ) →
    IsRest [] number (names ∷ later) bins whole →
    (back : List ℕ) × (whole ≡ site_line number ++ back) × IsRest names (number + 1) later bins back
site_then number names later bins whole rest = by_logs rest.dies rest.sites rest.are_dies rest.are_sites rest.is
  where
    by_logs : (dies : List DieLog) (sites : List (List DieLog)) → AreDieLogs [] dies → AreLogs (names ∷ later) sites →
        whole ≡ dies_text [] dies ++ (sites_text number (names ∷ later) sites ++ totals_text (bins ++ (die_bins dies ++ bins_of sites))) →
        (back : List ℕ) × (whole ≡ site_line number ++ back) × IsRest names (number + 1) later bins back
    by_logs (log ∷ dies) sites none are is = absurd (omega (arith, none.0))
    by_logs [] [] none are is = absurd are
    by_logs [] (dies ∷ sites) none are is =
        let totals = totals_text (bins ++ (die_bins dies ++ bins_of sites)) in
        let more = sites_text (number + 1) later sites in (
          dies_text names dies ++ (more ++ totals),
          is ∙ append_assoc (site_line number ++ dies_text names dies) more totals
              ∙ append_assoc (site_line number) (dies_text names dies) (more ++ totals),
          record { dies = dies; sites = sites; are_dies = are.0; are_sites = are.1; is = refl },
        )

-- behind the line of a site, its dies go on
pub goes_into_site : (number : ℕ) (names : List (List ℕ)) (later : List (List (List ℕ))) (bins : List ℕ) →
    GoesOn (IsRest [] number (names ∷ later) bins) (IsRest names (number + 1) later bins) (site_line number)
goes_into_site number names later bins = record {
  whole = λ back rest. site_first number names later bins back rest;
  only = λ back whole.
      let then = site_then number names later bins (site_line number ++ back) whole in
      subst (IsRest names (number + 1) later bins) (sym (append_cancel_left (site_line number) back then.0 then.1)) then.2;
}

-- where the line of the site isn't next, that line is the fault
pub site_fault : (number : ℕ) (names : List (List ℕ)) (later : List (List (List ℕ))) (bins text : List ℕ) →
    (IsNext text (site_words number) → ⊥) → IsLineFault (IsRest [] number (names ∷ later) bins) text 1
site_fault number names later bins text none =
    first_line_fault (IsRest [] number (names ∷ later) bins) (λ line. line ≡ site_words number) text
    (some_rest [] number (names ∷ later) bins)
    (λ whole rest.
    let then = site_then number names later bins whole rest in
    (site_words number, record { one = one_site number; later = then.0; is = then.1 }, refl))
    (λ line next is. none (subst (λ (l : List ℕ). IsNext text l) is next))

-- ---- sites

-- the lines of a site
abbrev pub site_text : ℕ → List (List ℕ) → List DieLog → List ℕ
site_text number names log = site_line number ++ dies_text names log

-- a site, and the next one goes on
pub goes_site : (number : ℕ) (names : List (List ℕ)) (log : List DieLog) (later : List (List (List ℕ))) (bins : List ℕ) →
    AreDieLogs names log →
    GoesOn (IsRest [] number (names ∷ later) bins) (IsRest [] (number + 1) later (bins ++ die_bins log)) (site_text number names log)
goes_site number names log later bins are =
    goes_on_more (IsRest [] number (names ∷ later) bins) (IsRest names (number + 1) later bins)
    (IsRest [] (number + 1) later (bins ++ die_bins log)) (site_line number) (dies_text names log)
    (goes_into_site number names later bins)
    (subst (λ (ns : List (List ℕ)). GoesOn (IsRest ns (number + 1) later bins) (IsRest [] (number + 1) later (bins ++ die_bins log)) (dies_text names log))
    (append-nil names) (goes_dies names log [] (number + 1) later bins are))

-- some sites, and the others go on
pub goes_sites : (number to : ℕ) (front : List (List (List ℕ))) (logs : List (List DieLog)) (back : List (List (List ℕ)))
    (bins : List ℕ) → to ≡ number + length front → AreLogs front logs →
    GoesOn (IsRest [] number (front ++ back) bins) (IsRest [] to back (bins ++ bins_of logs)) (sites_text number front logs)
goes_sites number to [] [] back bins is are =
    subst (λ (b : List ℕ). GoesOn (IsRest [] number back bins) (IsRest [] to back b) []) (sym (append-nil bins))
    (let same : number ≡ to = omega arith in
    subst (λ (n : ℕ). GoesOn (IsRest [] number back bins) (IsRest [] n back bins) []) same (goes_on_at_once (IsRest [] number back bins)))
goes_sites number to [] (log ∷ logs) back bins is are = absurd are
goes_sites number to (names ∷ front) [] back bins is are = absurd are
goes_sites number to (names ∷ front) (log ∷ logs) back bins is are =
    goes_on_more (IsRest [] number (names ∷ (front ++ back)) bins) (IsRest [] (number + 1) (front ++ back) (bins ++ die_bins log))
    (IsRest [] to back (bins ++ (die_bins log ++ bins_of logs))) (site_text number names log) (sites_text (number + 1) front logs)
    (goes_site number names log (front ++ back) bins are.0)
    (subst (λ (b : List ℕ). GoesOn (IsRest [] (number + 1) (front ++ back) (bins ++ die_bins log)) (IsRest [] to back b) (sites_text (number + 1) front logs))
    (append_assoc bins (die_bins log) (bins_of logs))
    (goes_sites (number + 1) to front logs back (bins ++ die_bins log) (omega arith) are.1))

-- ---- the whole datalog

-- a datalog is its sites and the totals
pub goes_log : (names : List (List (List ℕ))) → GoesOn (IsLogOf names) (IsRest [] 0 names []) []
unfolding log_text
goes_log names = record {
  whole = λ back rest. (rest.sites, by_none back rest rest.dies rest.are_dies rest.is);
  only = λ back whole. record { dies = []; sites = whole.0; are_dies = (refl, tt); are_sites = whole.1.are; is = whole.1.is };
}
  where
    by_none : (back : List ℕ) (rest : IsRest [] 0 names [] back) (dies : List DieLog) → AreDieLogs [] dies →
        back ≡ dies_text [] dies ++ (sites_text 0 names rest.sites ++ totals_text ([] ++ (die_bins dies ++ bins_of rest.sites))) →
        IsLog names back rest.sites
    by_none back rest [] none is = record { are = rest.are_sites; is = is }
    by_none back rest (log ∷ dies) none is = absurd (omega (arith, none.0))

-- behind all sites stand the totals
pub goes_to_totals : (number : ℕ) (bins : List ℕ) → GoesOn (IsRest [] number [] bins) (IsText (totals_text bins)) []
goes_to_totals number bins = record {
  whole = λ back is. record { dies = []; sites = []; are_dies = (refl, tt); are_sites = tt; is = is ∙ ap totals_text (sym (append-nil bins)) };
  only = λ back rest. by_none back rest.dies rest.sites rest.are_dies rest.are_sites rest.is;
}
  where
    by_none : (back : List ℕ) (dies : List DieLog) (sites : List (List DieLog)) → AreDieLogs [] dies → AreLogs [] sites →
        back ≡ dies_text [] dies ++ (sites_text number [] sites ++ totals_text (bins ++ (die_bins dies ++ bins_of sites))) →
        back ≡ totals_text bins
    by_none back (log ∷ dies) sites none are is = absurd (omega (arith, none.0))
    by_none back [] (log ∷ sites) none are is = absurd are
    by_none back [] [] none are is = is ∙ ap totals_text (append-nil bins)

-- the lines of sites are whole lines
pub lines_site : (number : ℕ) (names : List (List ℕ)) (log : List DieLog) → AreLines (site_text number names log)
lines_site number names log =
    lines_behind (site_line number) (dies_text names log) (lines_more [] (site_words number)) (lines_dies names log)

-- so are those of all sites
pub lines_sites : (number : ℕ) (names : List (List (List ℕ))) (logs : List (List DieLog)) → AreLines (sites_text number names logs)
lines_sites number [] logs = no_lines
lines_sites number (names ∷ later) [] = no_lines
lines_sites number (names ∷ later) (log ∷ logs) =
    lines_behind (site_text number names log) (sites_text (number + 1) later logs) (lines_site number names log)
    (lines_sites (number + 1) later logs)
