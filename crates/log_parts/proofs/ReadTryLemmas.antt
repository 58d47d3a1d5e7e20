-- What was read of the tries of a die, and where reading stopped.
use Rattle.std.proofs.Common.{◌≡◌, ℕ, suc, ◌+◌, ◌-◌, ◌^◌, ◌≤◌, true, false, List, [], ◌∷◌, ◌++◌, length, refl, sym, ap, subst, ◌∙◌, arith, length-append}
use Rattle.std.specs.List.{flat_map}
use Rattle.std.proofs.lemmas.List.{append-nil}
use Rattle.std.proofs.lemmas.List.Concat.{flat_map-append}
use Rattle.text_bytes.proofs.ListLemmas.{all_append}
use Rattle.part_lines.specs.Lines.{ended, lines_in}
use Rattle.part_lines.specs.Reading.{Reading, IsNext, HasRead, FaultFrom}
use Rattle.part_lines.specs.declared.fault.LineFault.{LineFault}
use Rattle.part_lines.specs.declared.fault.LineFault.TheVariants.{Line}
use Rattle.part_lines.proofs.LineLemmas.{lines_in-append, lines_in-more, lines_ended, lines_more}
use Rattle.part_lines.proofs.HasReadLemmas.{read_more, read_as, fault_from_behind, fault_here}
use Rattle.log_parts.specs.Tries.{TryLog, IsTryLine, IsVerdictLine, is_fail_line, try_lines, AreFails, IsTry, AreTries}
use Rattle.log_parts.specs.Step.{IsTriesRest, IsTryRest, TryIsRead, TriesAreRead, tries_text}
use Rattle.log_parts.proofs.SaidLemmas.{one_verdict}
use Rattle.log_parts.proofs.TryLemmas.{head_fault, verdict_fault, goes_head, goes_fails, goes_tries}

-- ---- a try

-- a fail more
pub fails_more : (before between now : Reading) (fails : List (List ℕ)) (line : List ℕ) → AreFails fails → is_fail_line line ≡ true →
    HasRead before between (flat_map ended fails) → HasRead between now (ended line) →
    (more : List (List ℕ)) × AreFails more × HasRead before now (flat_map ended more)
fails_more before between now fails line are is first second = (
  fails ++ line ∷ [],
  all_append (λ l. is_fail_line l ≡ true) fails (line ∷ []) are (is, tt),
  read_as before now (flat_map ended fails ++ ended line) (flat_map ended (fails ++ line ∷ []))
      (ap (λ (l : List ℕ). flat_map ended fails ++ l) (sym (append-nil (ended line))) ∙ sym (flat_map-append ended fails (line ∷ [])))
      (read_more before between now (flat_map ended fails) (ended line) first second),
)

-- the verdict isn't there
pub try_stops : (a b : Reading) (fails : List (List ℕ)) (e : LineFault) → AreFails fails → HasRead a b (flat_map ended fails) →
    ((line : List ℕ) → IsNext b.rest line → is_fail_line line ≡ false) → e ≡ Line (lines_in b.front + 1) →
    ((line : List ℕ) → IsNext b.rest line → IsVerdictLine line → ⊥) →
    (try : ℕ) (names : List (List ℕ)) (number : ℕ) (later : List (List (List ℕ))) (before : List ℕ) →
    FaultFrom (IsTryRest try names number later before) a e
try_stops a b fails e are read no_fail is no_verdict try names number later before =
    let T = IsTryRest try names number later before in
    fault_from_behind T T a b (flat_map ended fails) e (lines_ended fails) read (goes_fails names number later before try fails are)
    (fault_here T b e is (verdict_fault names number later before try b.rest no_fail no_verdict))

-- lines more
lines_now : (before now : Reading) (text : List ℕ) → HasRead before now text → lines_in now.front ≡ lines_in before.front + lines_in text
lines_now before now text read = ap lines_in read.front ∙ lines_in-append before.front text

-- at least one
line_more : (before now : Reading) (text line : List ℕ) → HasRead before now (text ++ ended line) →
    lines_in before.front + 1 ≤ lines_in now.front
line_more before now text line read =
    let all = lines_now before now (text ++ ended line) read in
    let both = lines_in-append text (ended line) in
    let last = lines_in-append line (10 ∷ []) in
    let one : lines_in (10 ∷ []) ≡ 1 = refl in
    omega (arith, all, both, last, one)

-- the rest of a try was read
pub try_read : (a b c : Reading) (fails : List (List ℕ)) (line : List ℕ) → AreFails fails → HasRead a b (flat_map ended fails) →
    IsVerdictLine line → HasRead b c (ended line) → lines_in b.front + 1 ≤ 2 ^ 64 - 1 → TryIsRead a c
try_read a b c fails line are first verdict second fits = record {
  fails = fails;
  verdict = line;
  are_fails = are;
  is_verdict = verdict;
  read = read_more a b c (flat_map ended fails) (ended line) first second;
  fits =
      let one : lines_in c.front ≡ lines_in b.front + 1 = ap lines_in second.front ∙ lines_in-more b.front line (one_verdict line verdict) in
      omega (arith, one, fits);
}

-- ---- tries

-- the first line isn't there
pub head_stops : (before at : Reading) (line : ℕ) → at ≡ before → line ≡ lines_in at.front + 1 →
    ((line : List ℕ) → IsNext at.rest line → IsTryLine 1 line → ⊥) →
    (names : List (List ℕ)) (number : ℕ) (later : List (List (List ℕ))) (bins : List ℕ) →
    FaultFrom (IsTriesRest 1 1 names number later bins) before (Line line)
head_stops before at line same is none names number later bins =
    let T = IsTriesRest 1 1 names number later bins in
    subst (λ (r : Reading). FaultFrom T r (Line line)) same
    (fault_here T at (Line line) (ap Line is) (head_fault names number later bins 1 at.rest none))

-- the first try stopped
pub first_stops : (a b : Reading) (line : List ℕ) (e : LineFault) → IsTryLine 1 line → HasRead a b (ended line) →
    ((try : ℕ) (names : List (List ℕ)) (number : ℕ) (later : List (List (List ℕ))) (before : List ℕ)
    → FaultFrom (IsTryRest try names number later before) b e) →
    (names : List (List ℕ)) (number : ℕ) (later : List (List (List ℕ))) (before : List ℕ) →
    FaultFrom (IsTriesRest 1 1 names number later before) a e
first_stops a b line e head read stops names number later before =
    fault_from_behind (IsTriesRest 1 1 names number later before) (IsTryRest 1 names number later before) a b (ended line) e
    (lines_more [] line) read (goes_head names number later before 1 1 line (omega arith) head)
    (stops 1 names number later before)

-- the lines of a try
try_text : (head : List ℕ) (fails : List (List ℕ)) (verdict : List ℕ) →
    ended head ++ (flat_map ended fails ++ ended verdict)
    ≡ flat_map ended (try_lines (record { head = head; fails = fails; verdict = verdict }))
try_text head fails verdict =
    ap (λ (l : List ℕ). ended head ++ l)
    (ap (λ (l : List ℕ). flat_map ended fails ++ l) (sym (append-nil (ended verdict)))
    ∙ sym (flat_map-append ended fails (verdict ∷ [])))

-- the first try was read
pub first_read : (a b c : Reading) (line : List ℕ) → IsTryLine 1 line → HasRead a b (ended line) → TryIsRead b c → TriesAreRead 2 a c
first_read a b c line head read rest =
    let t : TryLog = record { head = line; fails = rest.fails; verdict = rest.verdict } in
    let more = line_more a b [] line read in
    let again = line_more b c (flat_map ended rest.fails) rest.verdict rest.read in
    record {
      tries = t ∷ [];
      are = (record { head = head; fails = rest.are_fails; verdict = rest.is_verdict }, tt);
      tried = omega arith;
      number = refl;
      read = read_as a c (ended line ++ (flat_map ended rest.fails ++ ended rest.verdict)) (tries_text (t ∷ []))
          (try_text line rest.fails rest.verdict ∙ ap (flat_map ended) (sym (append-nil (try_lines t))))
          (read_more a b c (ended line) (flat_map ended rest.fails ++ ended rest.verdict) read rest.read);
      lines = omega (arith, more, again);
    }

-- tries in front of one more
tries_more : (number : ℕ) (tries : List TryLog) (t : TryLog) → AreTries number tries → IsTry (number + length tries) t →
    AreTries number (tries ++ t ∷ [])
tries_more number [] t are is =
    let same : number + 0 ≡ number = omega arith in
    (subst (λ (n : ℕ). IsTry n t) same is, tt)
tries_more number (first ∷ tries) t are is =
    let same : number + suc (length tries) ≡ number + 1 + length tries = omega arith in
    (are.0, tries_more (number + 1) tries t are.1 (subst (λ (n : ℕ). IsTry n t) same is))

-- their lines
flat_more : (tries : List TryLog) (t : TryLog) → tries_text (tries ++ t ∷ []) ≡ tries_text tries ++ flat_map ended (try_lines t)
flat_more tries t =
    ap (flat_map ended) (flat_map-append try_lines tries (t ∷ []) ∙ ap (λ l. flat_map try_lines tries ++ l) (append-nil (try_lines t)))
    ∙ flat_map-append ended (flat_map try_lines tries) (try_lines t)

-- one more was read
pub more_read : (number next : ℕ) (a b c d : Reading) (line : List ℕ) → next ≡ number + 1 → TriesAreRead number a b → IsTryLine number line →
    HasRead b c (ended line) → TryIsRead c d → TriesAreRead next a d
more_read number next a b c d line is so_far head read rest =
    let t : TryLog = record { head = line; fails = rest.fails; verdict = rest.verdict } in
    let is_try : IsTry number t = record { head = head; fails = rest.are_fails; verdict = rest.is_verdict } in
    let more = line_more b c [] line read in
    let again = line_more c d (flat_map ended rest.fails) rest.verdict rest.read in
    let sum = length-append so_far.tries (t ∷ []) in
    record {
      tries = so_far.tries ++ t ∷ [];
      are = tries_more 1 so_far.tries t so_far.are (subst (λ (n : ℕ). IsTry n t) so_far.number is_try);
      tried = omega (arith, sum);
      number = omega (arith, sum, so_far.number);
      read = read_as a d (tries_text so_far.tries ++ (ended line ++ (flat_map ended rest.fails ++ ended rest.verdict)))
          (tries_text (so_far.tries ++ t ∷ []))
          (ap (λ (l : List ℕ). tries_text so_far.tries ++ l) (try_text line rest.fails rest.verdict) ∙ sym (flat_more so_far.tries t))
          (read_more a b d (tries_text so_far.tries) (ended line ++ (flat_map ended rest.fails ++ ended rest.verdict)) so_far.read
          (read_more b c d (ended line) (flat_map ended rest.fails ++ ended rest.verdict) read rest.read));
      lines = omega (arith, more, again, so_far.lines);
    }

-- one more stopped
pub more_stops : (number : ℕ) (a b c : Reading) (line : List ℕ) (e : LineFault) → TriesAreRead number a b → IsTryLine number line →
    HasRead b c (ended line) →
    ((try : ℕ) (names : List (List ℕ)) (number : ℕ) (later : List (List (List ℕ))) (before : List ℕ)
    → FaultFrom (IsTryRest try names number later before) c e) →
    (names : List (List ℕ)) (number : ℕ) (later : List (List (List ℕ))) (before : List ℕ) →
    FaultFrom (IsTriesRest 1 1 names number later before) a e
more_stops try a b c line e so_far head read stops names number later before =
    fault_from_behind (IsTriesRest 1 1 names number later before) (IsTriesRest 0 try names number later before) a b
    (tries_text so_far.tries) e (lines_ended (flat_map try_lines so_far.tries)) so_far.read
    (goes_tries names number later before try so_far.tries so_far.number so_far.tried so_far.are)
    (fault_from_behind (IsTriesRest 0 try names number later before) (IsTryRest try names number later before) b c (ended line) e
    (lines_more [] line) read (goes_head names number later before 0 try line (omega arith) head)
    (stops try names number later before))
