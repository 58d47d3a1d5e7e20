-- What was read of a die, and of the dies of a site, and where reading stopped.
use Rattle.std.proofs.Common.{◌≡◌, ℕ, zero, suc, ◌+◌, ◌<◌, ◌≤◌, true, List, [], ◌∷◌, ◌++◌, length, take, drop, get_or, codes, Bor, refl, sym, ap, subst, ◌∙◌, arith, append_assoc, length-append}
use Rattle.std.specs.List.{flat_map}
use Rattle.std.proofs.lemmas.List.{append-nil, map_more}
use Rattle.text_bytes.proofs.ListLemmas.{all_append}
use Rattle.tester_types.specs.Printing.{printed_name}
use Rattle.datalog.specs.DatalogText.{die_line, bin_line}
use Rattle.part_lines.specs.Lines.{is_one_line, lines_in}
use Rattle.part_lines.specs.Reading.{Reading, IsNext, HasRead, FaultFrom}
use Rattle.part_lines.specs.declared.fault.LineFault.{LineFault}
use Rattle.part_lines.specs.declared.fault.LineFault.TheVariants.{Line}
use Rattle.part_lines.proofs.LineLemmas.{lines_more, lines_ended}
use Rattle.part_lines.proofs.HasReadLemmas.{read_none, read_more, read_as, fault_from_behind, fault_here}
use Rattle.log_parts.specs.Tries.{IsTryLine, try_lines}
use Rattle.log_parts.specs.Log.{DieLog, IsDieLog, die_text, dies_text}
use Rattle.log_parts.specs.Slices.{lent}
use Rattle.log_parts.specs.Step.{die_bins, IsRest, IsTriesRest, bin_words, tries_text, TriesAreRead, AreOneLine, AreRead}
use Rattle.log_parts.proofs.RestLemmas.{die_fault}
use Rattle.log_parts.proofs.TryLemmas.{goes_tries, bin_fault}
use Rattle.log_parts.proofs.DieLemmas.{goes_to_first, goes_dies, lines_dies}

-- ---- a die

-- the line of the die isn't there
pub die_stops : (name : List ℕ) (at : Reading) (e : LineFault) → is_one_line name ≡ true → e ≡ Line (lines_in at.front + 1) →
    (IsNext at.rest (codes "die " ++ printed_name name) → ⊥) →
    (names : List (List ℕ)) (number : ℕ) (later : List (List (List ℕ))) (before : List ℕ) →
    FaultFrom (IsRest (name ∷ names) number later before) at e
die_stops name at e one is none names number later before =
    fault_here (IsRest (name ∷ names) number later before) at e is (die_fault name names number later before at.rest one none)

-- reading stopped in its tries
pub tries_stop : (name : List ℕ) (a b : Reading) (e : LineFault) → HasRead a b (die_line name) →
    ((names : List (List ℕ)) (number : ℕ) (later : List (List (List ℕ))) (before : List ℕ)
    → FaultFrom (IsTriesRest 1 1 names number later before) b e) →
    (names : List (List ℕ)) (number : ℕ) (later : List (List (List ℕ))) (before : List ℕ) →
    FaultFrom (IsRest (name ∷ names) number later before) a e
tries_stop name a b e read stops names number later before =
    fault_from_behind (IsRest (name ∷ names) number later before) (IsTriesRest 1 1 names number later before) a b
    (die_line name) e (lines_more [] (codes "die " ++ printed_name name)) read (goes_to_first name names number later before)
    (stops names number later before)

-- the line of its bin isn't there, nor one more try
pub bin_stops : (name : List ℕ) (a b c : Reading) (next : ℕ) (e : LineFault) → HasRead a b (die_line name) →
    TriesAreRead next b c → ((line : List ℕ) → IsNext c.rest line → IsTryLine next line → ⊥) →
    e ≡ Line (lines_in c.front + 1) →
    ((bin : ℕ) → 1 ≤ bin → bin ≤ 99 → IsNext c.rest (bin_words bin) → ⊥) →
    (names : List (List ℕ)) (number : ℕ) (later : List (List (List ℕ))) (before : List ℕ) →
    FaultFrom (IsRest (name ∷ names) number later before) a e
bin_stops name a b c next e first tries no_try is no_bin names number later before =
    tries_stop name a b e first
    (λ ns n l bs.
    fault_from_behind (IsTriesRest 1 1 ns n l bs) (IsTriesRest 0 next ns n l bs) b c (tries_text tries.tries) e
    (lines_ended (flat_map try_lines tries.tries)) tries.read
    (goes_tries ns n l bs next tries.tries tries.number tries.tried tries.are)
    (fault_here (IsTriesRest 0 next ns n l bs) c e is (bin_fault ns n l bs next c.rest no_try no_bin)))
    names number later before

-- a die was read
pub die_read : (name : List ℕ) (a b c d : Reading) (next bin : ℕ) (olds news : List ℕ) → 1 ≤ bin → bin ≤ 99 →
    HasRead a b (die_line name) → TriesAreRead next b c → HasRead c d (bin_line bin) → news ≡ olds ++ bin ∷ [] →
    (log : DieLog) × IsDieLog log × HasRead a d (die_text name log) × (news ≡ olds ++ log.bin ∷ [])
die_read name a b c d next bin olds news some last first tries third is = (
  record { body = flat_map try_lines tries.tries; bin = bin },
  record { tries = tries.tries; are = tries.are; tried = tries.tried; lines = refl; some = some; last = last },
  read_more a c d (die_line name ++ tries_text tries.tries) (bin_line bin)
      (read_more a b c (die_line name) (tries_text tries.tries) first tries.read) third,
  is,
)

-- ---- the dies of a site

-- the lines of one die more
dies_text-more : (names : List (List ℕ)) (logs : List DieLog) (name : List ℕ) (log : DieLog) → length logs ≡ length names →
    dies_text (names ++ name ∷ []) (logs ++ log ∷ []) ≡ dies_text names logs ++ die_text name log
dies_text-more [] [] name log e = append-nil (die_text name log)
dies_text-more [] (l ∷ logs) name log e = absurd (omega arith)
dies_text-more (n ∷ names) [] name log e = absurd (omega arith)
dies_text-more (n ∷ names) (l ∷ logs) name log e =
    ap (λ t. die_text n l ++ t) (dies_text-more names logs name log (omega arith))
    ∙ sym (append_assoc (die_text n l) (dies_text names logs) (die_text name log))

-- the bins of one die more
die_bins-more : (logs : List DieLog) (log : DieLog) → die_bins (logs ++ log ∷ []) ≡ die_bins logs ++ log.bin ∷ []
die_bins-more [] log = refl
die_bins-more (l ∷ logs) log = ap (λ t. l.bin ∷ t) (die_bins-more logs log)

-- none were read
pub none_are_read : (at : Reading) (bins : List ℕ) → AreRead [] at at bins bins
none_are_read at bins = record { logs = []; are = (refl, tt); read = read_none at; bins = sym (append-nil bins) }

-- one more
one_more_read : (names : List (List ℕ)) (name : List ℕ) (a b c : Reading) (olds mids news : List ℕ) → AreRead names a b olds mids →
    (log : DieLog) × IsDieLog log × HasRead b c (die_text name log) × (news ≡ mids ++ log.bin ∷ []) →
    AreRead (names ++ name ∷ []) a c olds news
one_more_read names name a b c olds mids news so_far (log, is_die, read, is) = record {
  logs = so_far.logs ++ log ∷ [];
  are = (
    let x = length-append so_far.logs (log ∷ []) in let y = length-append names (name ∷ []) in omega (arith, so_far.are.0),
    all_append IsDieLog so_far.logs (log ∷ []) so_far.are.1 (is_die, tt),
  );
  read = read_as a c (dies_text names so_far.logs ++ die_text name log) (dies_text (names ++ name ∷ []) (so_far.logs ++ log ∷ []))
      (sym (dies_text-more names so_far.logs name log so_far.are.0))
      (read_more a b c (dies_text names so_far.logs) (die_text name log) so_far.read read);
  bins = is ∙ ap (λ t. t ++ log.bin ∷ []) so_far.bins ∙ append_assoc olds (die_bins so_far.logs) (log.bin ∷ [])
      ∙ ap (λ t. olds ++ t) (sym (die_bins-more so_far.logs log));
}

-- the die at hand was read
pub dies_more : (names : List (Bor (List ℕ))) (i : ℕ) (d : Bor (List ℕ)) (a b c : Reading) (olds mids news : List ℕ) → i < length names →
    AreRead (lent (take i names)) a b olds mids →
    (log : DieLog) × IsDieLog log × HasRead b c (die_text (get_or names i d).now log) × (news ≡ mids ++ log.bin ∷ []) →
    AreRead (lent (take (i + 1) names)) a c olds news
dies_more names i d a b c olds mids news within so_far one =
    subst (λ (ns : List (List ℕ)). AreRead ns a c olds news) (sym (map_more (λ (n : Bor (List ℕ)). n.now) names i d within))
    (one_more_read (lent (take i names)) (get_or names i d).now a b c olds mids news so_far one)

-- the names up to one, its own, and those behind it
pub names_cut : (names : List (Bor (List ℕ))) (i : ℕ) (d : Bor (List ℕ)) → i < length names →
    lent names ≡ lent (take i names) ++ ((get_or names i d).now ∷ lent (drop (i + 1) names))
names_cut names i d within =
    cut_at names i within ∙ ap (λ n. lent (take i names) ++ ((get_or names i d).now ∷ lent (drop n names))) (let e : suc i ≡ i + 1 = omega arith in e)
  where
    cut_at : (names : List (Bor (List ℕ))) (i : ℕ) → i < length names →
        lent names ≡ lent (take i names) ++ ((get_or names i d).now ∷ lent (drop (suc i) names))
    cut_at [] i within = absurd (omega arith)
    cut_at (name ∷ names) zero within = refl
    cut_at (name ∷ names) (suc i) within = ap (λ t. name.now ∷ t) (cut_at names i (omega arith))

-- reading stopped in a die
pub dies_stop : (names : List (Bor (List ℕ))) (i : ℕ) (d : Bor (List ℕ)) (a b : Reading) (olds mids : List ℕ) (e : LineFault) → i < length names →
    AreRead (lent (take i names)) a b olds mids →
    ((ns : List (List ℕ)) (number : ℕ) (later : List (List (List ℕ))) (before : List ℕ)
    → FaultFrom (IsRest ((get_or names i d).now ∷ ns) number later before) b e) →
    (number : ℕ) (later : List (List (List ℕ))) (before : List ℕ) → FaultFrom (IsRest (lent names) number later before) a e
dies_stop names i d a b olds mids e within so_far stops number later before =
    let front = lent (take i names) in
    let back = (get_or names i d).now ∷ lent (drop (i + 1) names) in
    let bins = before ++ die_bins so_far.logs in
    subst (λ (ns : List (List ℕ)). FaultFrom (IsRest ns number later before) a e) (sym (names_cut names i d within))
    (fault_from_behind (IsRest (front ++ back) number later before) (IsRest back number later bins) a b (dies_text front so_far.logs) e
    (lines_dies front so_far.logs) so_far.read (goes_dies front so_far.logs back number later before so_far.are)
    (stops (lent (drop (i + 1) names)) number later bins))

-- ---- words

-- what is said of words that end in nothing more
pub words_only : (P : List ℕ → Type 0) (front last : List ℕ) → P (front ++ (last ++ [])) → P (front ++ last)
words_only P front last h = subst (λ (t : List ℕ). P (front ++ t)) (append-nil last) h

-- each of the names is one line
pub one_line_at : (names : List (Bor (List ℕ))) (i : ℕ) (d : Bor (List ℕ)) → i < length names → AreOneLine (lent names) →
    is_one_line (get_or names i d).now ≡ true
one_line_at [] i d within are = absurd (omega arith)
one_line_at (name ∷ names) zero d within are = are.0
one_line_at (name ∷ names) (suc i) d within are = one_line_at names i d (omega arith) are.1
