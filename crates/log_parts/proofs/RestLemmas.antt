-- How a datalog goes on, line by line.
use Rattle.std.proofs.Common.{◌≡◌, ℕ, true, List, [], ◌∷◌, ◌++◌, codes, refl, sym, ap, subst, ◌∙◌, arith, append_assoc}
use Rattle.std.specs.Prelude.{decimal}
use Rattle.std.specs.List.{flat_map}
use Rattle.std.proofs.lemmas.List.{append_cancel_left}
use Rattle.text_bytes.specs.Bytes.{is_digit}
use Rattle.tester_types.specs.Printing.{printed_name}
use Rattle.datalog.specs.DatalogText.{die_line, bin_line, totals_text}
use Rattle.part_lines.specs.Lines.{is_one_line, ended}
use Rattle.part_lines.specs.LineFault.{Begins, IsLineFault}
use Rattle.part_lines.specs.Reading.{IsNext, GoesOn}
use Rattle.part_lines.proofs.FaultLemmas.{first_line_fault}
use Rattle.log_parts.specs.Tries.{TryLog, IsTry, passed, try_lines}
use Rattle.log_parts.specs.Log.{DieLog, IsDieLog, die_text, dies_text, sites_text, bins_of, AreDieLogs, AreLogs}
use Rattle.log_parts.specs.Step.{die_bins, IsRest, IsDieRest}
use Rattle.log_parts.proofs.WordLemmas.{one_die}

-- ---- what stands behind can always be completed

-- the shortest lines of a try
abbrev pub shortest_try : ℕ → TryLog
shortest_try number = record {
  head = codes "try " ++ decimal number ++ codes " cycles 0 fails 0";
  fails = [];
  verdict = codes "verdict pass";
}

-- they are some
pub shortest_try_is : (number : ℕ) → IsTry number (shortest_try number)
unfolding is_digit
shortest_try_is number = record {
  head = record {
    cycles = codes "0";
    fails = codes "0";
    are_cycles = refl;
    are_fails = refl;
    is = sym (append_assoc (codes "try " ++ decimal number ++ codes " cycles " ++ codes "0") (codes " fails ") (codes "0")
        ∙ append_assoc (codes "try " ++ decimal number ++ codes " cycles ") (codes "0") (codes " fails 0")
        ∙ append_assoc (codes "try " ++ decimal number) (codes " cycles ") (codes "0 fails 0"));
  };
  fails = tt;
  verdict = passed refl;
}

-- the shortest log of a die
abbrev shortest : DieLog
shortest = record { body = try_lines (shortest_try 1) ++ []; bin = 1 }

-- it is one
shortest_is : IsDieLog shortest
shortest_is = record {
  tries = shortest_try 1 ∷ [];
  are = (shortest_try_is 1, tt);
  tried = omega arith;
  lines = refl;
  some = omega arith;
  last = omega arith;
}

-- the shortest logs of so many dies
abbrev shortest_dies : List (List ℕ) → List DieLog
shortest_dies [] = []
shortest_dies (name ∷ names) = shortest ∷ shortest_dies names

-- they are some
shortest_dies_are : (names : List (List ℕ)) → AreDieLogs names (shortest_dies names)
shortest_dies_are [] = (refl, tt)
shortest_dies_are (name ∷ names) =
    let more = shortest_dies_are names in
    (omega (arith, more.0), (shortest_is, more.1))

-- the shortest logs of sites
abbrev shortest_sites : List (List (List ℕ)) → List (List DieLog)
shortest_sites [] = []
shortest_sites (names ∷ later) = shortest_dies names ∷ shortest_sites later

-- they are some
shortest_sites_are : (later : List (List (List ℕ))) → AreLogs later (shortest_sites later)
shortest_sites_are [] = tt
shortest_sites_are (names ∷ later) = (shortest_dies_are names, shortest_sites_are later)

-- something may stand behind
pub some_rest : (names : List (List ℕ)) (number : ℕ) (later : List (List (List ℕ))) (bins : List ℕ) →
    Begins (IsRest names number later bins) []
some_rest names number later bins =
    let dies = shortest_dies names in
    let sites = shortest_sites later in
    record {
      back = dies_text names dies ++ (sites_text number later sites ++ totals_text (bins ++ (die_bins dies ++ bins_of sites)));
      whole = record { dies = dies; sites = sites; are_dies = shortest_dies_are names; are_sites = shortest_sites_are later; is = refl };
    }

-- ---- the line of a die

-- a text is the line of a die and what stands behind it, in one way
line_behind : (a x y : List ℕ) → ended a ++ x ≡ ended a ++ y → x ≡ y
line_behind a x y e = append_cancel_left (ended a) x y e

-- a die more: its logs, one by one
die_first : (name : List ℕ) (names : List (List ℕ)) (number : ℕ) (later : List (List (List ℕ))) (bins back : List ℕ) →
    IsDieRest names number later bins back → IsRest (name ∷ names) number later bins (die_line name ++ back)
die_first name names number later bins back rest =
    let go = rest.goes_on in
    record {
      dies = rest.log ∷ go.dies;
      sites = go.sites;
      are_dies = (omega (arith, go.are_dies.0), (rest.is_die, go.are_dies.1));
      are_sites = go.are_sites;
      is =
          ap (λ t. die_line name ++ t) (rest.is
          ∙ ap (λ t. flat_map ended rest.log.body ++ (bin_line rest.log.bin ++ t)) (go.is
          ∙ ap (λ b. dies_text names go.dies ++ (sites_text number later go.sites ++ totals_text b))
          (append_assoc bins (rest.log.bin ∷ []) (die_bins go.dies ++ bins_of go.sites))))
          ∙ (let tail = sites_text number later go.sites ++ totals_text (bins ++ (rest.log.bin ∷ die_bins go.dies ++ bins_of go.sites)) in
          sym (append_assoc (die_line name) (flat_map ended rest.log.body) _) ∙ sym (append_assoc (die_line name ++ flat_map ended rest.log.body) (bin_line rest.log.bin) _)
          ∙ sym (append_assoc (die_text name rest.log) (dies_text names go.dies) tail));
    }

-- the same, back
die_then : (name : List ℕ) (names : List (List ℕ)) (number : ℕ) (later : List (List (List ℕ))) (bins whole : List ℕ) →
    IsRest (name ∷ names) number later bins whole → (back : List ℕ) × (whole ≡ die_line name ++ back) × IsDieRest names number later bins back
die_then name names number later bins whole rest = by_dies rest.dies rest.are_dies rest.is
  where
    by_dies : (dies : List DieLog) → AreDieLogs (name ∷ names) dies →
        whole ≡ dies_text (name ∷ names) dies ++ (sites_text number later rest.sites ++ totals_text (bins ++ (die_bins dies ++ bins_of rest.sites))) →
        (back : List ℕ) × (whole ≡ die_line name ++ back) × IsDieRest names number later bins back
    by_dies [] are is = absurd (omega (arith, are.0))
    by_dies (log ∷ dies) are is =
        let tail = sites_text number later rest.sites ++ totals_text (bins ++ (log.bin ∷ die_bins dies ++ bins_of rest.sites)) in
        let behind = dies_text names dies ++ tail in (
          flat_map ended log.body ++ (bin_line log.bin ++ behind),
          is ∙ append_assoc (die_text name log) (dies_text names dies) tail
              ∙ append_assoc (die_line name ++ flat_map ended log.body) (bin_line log.bin) behind
              ∙ append_assoc (die_line name) (flat_map ended log.body) (bin_line log.bin ++ behind),
          record {
            log = log;
            is_die = are.1.0;
            back = behind;
            is = refl;
            goes_on = record {
              dies = dies;
              sites = rest.sites;
              are_dies = (omega (arith, are.0), are.1.1);
              are_sites = rest.are_sites;
              is = ap (λ b. dies_text names dies ++ (sites_text number later rest.sites ++ totals_text b))
                  (sym (append_assoc bins (log.bin ∷ []) (die_bins dies ++ bins_of rest.sites)));
            };
          },
        )

-- behind the line of a die, the die goes on
pub goes_into_die : (name : List ℕ) (names : List (List ℕ)) (number : ℕ) (later : List (List (List ℕ))) (bins : List ℕ) →
    GoesOn (IsRest (name ∷ names) number later bins) (IsDieRest names number later bins) (die_line name)
goes_into_die name names number later bins = record {
  whole = λ back rest. die_first name names number later bins back rest;
  only = λ back whole.
      let then = die_then name names number later bins (die_line name ++ back) whole in
      subst (IsDieRest names number later bins) (sym (append_cancel_left (die_line name) back then.0 then.1)) then.2;
}

-- what stands there begins with the line of the die
pub die_allowed : (name : List ℕ) (names : List (List ℕ)) (number : ℕ) (later : List (List (List ℕ))) (bins whole : List ℕ) →
    is_one_line name ≡ true → IsRest (name ∷ names) number later bins whole →
    (line : List ℕ) × IsNext whole line × (line ≡ codes "die " ++ printed_name name)
die_allowed name names number later bins whole one rest =
    let then = die_then name names number later bins whole rest in
    (codes "die " ++ printed_name name, record { one = one_die name one; later = then.0; is = then.1 }, refl)

-- where it doesn't, that line is the fault
pub die_fault : (name : List ℕ) (names : List (List ℕ)) (number : ℕ) (later : List (List (List ℕ))) (bins text : List ℕ) →
    is_one_line name ≡ true → (IsNext text (codes "die " ++ printed_name name) → ⊥) → IsLineFault (IsRest (name ∷ names) number later bins) text 1
die_fault name names number later bins text one none =
    first_line_fault (IsRest (name ∷ names) number later bins) (λ line. line ≡ codes "die " ++ printed_name name) text
    (some_rest (name ∷ names) number later bins)
    (λ whole rest. die_allowed name names number later bins whole one rest)
    (λ line next is. none (subst (λ (l : List ℕ). IsNext text l) is next))
