-- How the lines of a die, and of all dies of a site, go on.
use Rattle.std.proofs.Common.{ℕ, ◌+◌, List, [], ◌∷◌, ◌++◌, length, refl, sym, subst, arith, append_assoc}
use Rattle.std.specs.List.{flat_map}
use Rattle.std.proofs.lemmas.List.{append-nil}
use Rattle.text_bytes.specs.Texts.{AreLines}
use Rattle.text_bytes.proofs.TextLemmas.{lines_behind}
use Rattle.datalog.specs.DatalogText.{die_line, bin_line}
use Rattle.part_lines.specs.Lines.{ended}
use Rattle.part_lines.specs.Reading.{GoesOn}
use Rattle.part_lines.proofs.LineLemmas.{lines_more, no_lines}
use Rattle.part_lines.proofs.FaultLemmas.{goes_on_at_once, goes_on_more}
use Rattle.log_parts.specs.Log.{DieLog, IsDieLog, die_text, dies_text, AreDieLogs}
use Rattle.log_parts.specs.Step.{die_bins, IsRest, IsDieRest, IsTriesRest, bin_words, tries_text}
use Rattle.log_parts.proofs.RestLemmas.{goes_into_die}
use Rattle.log_parts.proofs.TryLemmas.{goes_tries, goes_bin, goes_to_tries}

-- ---- dies

-- behind the line of a die stand its tries
pub goes_to_first : (name : List ℕ) (names : List (List ℕ)) (number : ℕ) (later : List (List (List ℕ))) (bins : List ℕ) →
    GoesOn (IsRest (name ∷ names) number later bins) (IsTriesRest 1 1 names number later bins) (die_line name)
goes_to_first name names number later bins =
    let W = IsRest (name ∷ names) number later bins in
    let D = IsDieRest names number later bins in
    let T = IsTriesRest 1 1 names number later bins in
    subst (GoesOn W T) (append-nil (die_line name))
    (goes_on_more W D T (die_line name) [] (goes_into_die name names number later bins) (goes_to_tries names number later bins))

-- a die, and the next one goes on
pub goes_die : (name : List ℕ) (log : DieLog) (names : List (List ℕ)) (number : ℕ) (later : List (List (List ℕ))) (bins : List ℕ) →
    IsDieLog log → GoesOn (IsRest (name ∷ names) number later bins) (IsRest names number later (bins ++ log.bin ∷ [])) (die_text name log)
goes_die name log names number later bins is =
    let W = IsRest (name ∷ names) number later bins in
    let T = IsTriesRest 1 1 names number later bins in
    let B = IsTriesRest 0 (1 + length is.tries) names number later bins in
    let R = IsRest names number later (bins ++ log.bin ∷ []) in
    subst (λ (body : List (List ℕ)). GoesOn W R (die_line name ++ flat_map ended body ++ bin_line log.bin)) (sym is.lines)
    (goes_on_more W B R (die_line name ++ tries_text is.tries) (bin_line log.bin)
    (goes_on_more W T B (die_line name) (tries_text is.tries) (goes_to_first name names number later bins)
    (goes_tries names number later bins (1 + length is.tries) is.tries refl is.tried is.are))
    (goes_bin names number later bins (1 + length is.tries) log.bin is.some is.last))

-- some dies, and the others of their site go on
pub goes_dies : (front : List (List ℕ)) (logs : List DieLog) (back : List (List ℕ)) (number : ℕ) (later : List (List (List ℕ)))
    (bins : List ℕ) → AreDieLogs front logs →
    GoesOn (IsRest (front ++ back) number later bins) (IsRest back number later (bins ++ die_bins logs)) (dies_text front logs)
goes_dies [] [] back number later bins are =
    subst (λ (b : List ℕ). GoesOn (IsRest back number later bins) (IsRest back number later b) []) (sym (append-nil bins))
    (goes_on_at_once (IsRest back number later bins))
goes_dies [] (log ∷ logs) back number later bins are = absurd (omega (arith, are.0))
goes_dies (name ∷ front) [] back number later bins are = absurd (omega (arith, are.0))
goes_dies (name ∷ front) (log ∷ logs) back number later bins are =
    goes_on_more (IsRest (name ∷ (front ++ back)) number later bins) (IsRest (front ++ back) number later (bins ++ log.bin ∷ []))
    (IsRest back number later (bins ++ (log.bin ∷ die_bins logs))) (die_text name log) (dies_text front logs)
    (goes_die name log (front ++ back) number later bins are.1.0)
    (subst (λ (b : List ℕ). GoesOn (IsRest (front ++ back) number later (bins ++ log.bin ∷ [])) (IsRest back number later b) (dies_text front logs))
    (append_assoc bins (log.bin ∷ []) (die_bins logs))
    (goes_dies front logs back number later (bins ++ log.bin ∷ []) (omega (arith, are.0), are.1.1)))

-- ---- whole lines

-- the lines of a die are whole
pub lines_die : (name : List ℕ) (log : DieLog) → AreLines (die_text name log)
lines_die name log =
    lines_more (die_line name ++ flat_map ended log.body) (bin_words log.bin)

-- so are those of dies
pub lines_dies : (names : List (List ℕ)) (logs : List DieLog) → AreLines (dies_text names logs)
lines_dies [] logs = no_lines
lines_dies (name ∷ names) [] = no_lines
lines_dies (name ∷ names) (log ∷ logs) =
    lines_behind (die_text name log) (dies_text names logs) (lines_die name log) (lines_dies names logs)
