-- How the lines of a die's tries go on.
use Rattle.std.proofs.Common.{◌≡◌, ℕ, ◌+◌, ◌≤◌, true, false, List, [], ◌∷◌, ◌++◌, length, refl, sym, ap, subst, ◌∙◌, ◌⊎◌, inl, inr, arith, append_assoc}
use Rattle.std.specs.List.{flat_map}
use Rattle.std.proofs.lemmas.Bool.{false≢true}
use Rattle.std.proofs.lemmas.List.{append-nil}
use Rattle.std.proofs.lemmas.List.Concat.{flat_map-append}
use Rattle.plan_rows.specs.Limits.{last_bin}
use Rattle.datalog.specs.DatalogText.{bin_line}
use Rattle.part_lines.specs.Lines.{ended}
use Rattle.part_lines.specs.LineFault.{Begins, IsLineFault}
use Rattle.part_lines.specs.Reading.{IsNext, GoesOn}
use Rattle.part_lines.proofs.LineLemmas.{one_reading}
use Rattle.part_lines.proofs.FaultLemmas.{goes_on_at_once, goes_on_more, first_line_fault}
use Rattle.log_parts.specs.Tries.{TryLog, IsTryLine, IsVerdictLine, is_fail_line, try_lines, AreFails, IsTry, AreTries}
use Rattle.log_parts.specs.Step.{IsRest, IsDieRest, IsTriesRest, IsTryRest, IsBinLine, bin_words, tries_text}
use Rattle.log_parts.proofs.SaidLemmas.{one_try, one_verdict}
use Rattle.log_parts.proofs.WordLemmas.{one_bin, one_fail, one_bin_said, try_is_no_bin, fail_is_no_verdict}
use Rattle.log_parts.proofs.RestLemmas.{some_rest, shortest_try, shortest_try_is}

-- the lines of a try, and what stands behind them
pub try_split : (t : TryLog) (back : List ℕ)
    → flat_map ended (try_lines t) ++ back ≡ ended t.head ++ (flat_map ended t.fails ++ (ended t.verdict ++ back))
try_split t back =
    append_assoc (ended t.head) (flat_map ended (t.fails ++ t.verdict ∷ [])) back
    ∙ ap (λ (l : List ℕ). ended t.head ++ l)
    (ap (λ (l : List ℕ). l ++ back) (flat_map-append ended t.fails (t.verdict ∷ [])
    ∙ ap (λ (l : List ℕ). flat_map ended t.fails ++ l) (append-nil (ended t.verdict)))
    ∙ append_assoc (flat_map ended t.fails) (ended t.verdict) back)

-- the lines of a try and of others, and what stands behind them
pub tries_split : (t : TryLog) (later : List TryLog) (back : List ℕ)
    → tries_text (t ∷ later) ++ back ≡ flat_map ended (try_lines t) ++ (tries_text later ++ back)
tries_split t later back =
    ap (λ (l : List ℕ). l ++ back) (flat_map-append ended (try_lines t) (flat_map try_lines later))
    ∙ append_assoc (flat_map ended (try_lines t)) (tries_text later) back

module _ (names : List (List ℕ)) (number : ℕ) (later : List (List (List ℕ))) (bins : List ℕ) where
  -- what stands behind tries, and within one
  abbrev Tries : ℕ → ℕ → List ℕ → Type 0
  Tries least try = IsTriesRest least try names number later bins

  abbrev Try : ℕ → List ℕ → Type 0
  Try try = IsTryRest try names number later bins

  -- ---- what may stand there

  -- no try more
  none_more : (try : ℕ) (bin : ℕ) (back : List ℕ) → 1 ≤ bin → bin ≤ last_bin → IsRest names number later (bins ++ bin ∷ []) back
      → Tries 0 try (bin_line bin ++ back)
  none_more try bin back some last rest = record {
    tries = [];
    are = tt;
    enough = omega arith;
    bin = bin;
    some = some;
    last = last;
    back = back;
    is = refl;
    goes_on = rest;
  }

  -- a try more
  one_more : (least try : ℕ) → least ≤ 1 → (t : TryLog) → IsTry try t → (back : List ℕ) → Tries 0 (try + 1) back
      → Tries least try (flat_map ended (try_lines t) ++ back)
  one_more least try small t is back rest = record {
    tries = t ∷ rest.tries;
    are = (is, rest.are);
    enough = omega (arith, small);
    bin = rest.bin;
    some = rest.some;
    last = rest.last;
    back = rest.back;
    is = ap (λ (l : List ℕ). flat_map ended (try_lines t) ++ l) rest.is
        ∙ sym (tries_split t rest.tries (bin_line rest.bin ++ rest.back));
    goes_on = rest.goes_on;
  }

  -- something may stand behind tries
  pub some_tries : (least try : ℕ) → least ≤ 1 → Begins (Tries least try) []
  some_tries least try small =
      let more = some_rest names number later (bins ++ 1 ∷ []) in
      let none = none_more (try + 1) 1 more.back (omega arith) (omega arith) more.whole in
      record {
        back = flat_map ended (try_lines (shortest_try try)) ++ (bin_line 1 ++ more.back);
        whole = one_more least try small (shortest_try try) (shortest_try_is try) (bin_line 1 ++ more.back) none;
      }

  -- and within one
  some_try : (try : ℕ) → Begins (Try try) []
  some_try try =
      let more = some_tries 0 (try + 1) (omega arith) in
      record {
        back = ended (shortest_try try).verdict ++ more.back;
        whole = record {
          fails = [];
          verdict = (shortest_try try).verdict;
          are_fails = tt;
          is_verdict = (shortest_try_is try).verdict;
          back = more.back;
          is = refl;
          goes_on = more.whole;
        };
      }

  -- ---- the first line of a try

  -- what stands there is a try and more, or the line of the bin where there may be none
  tries_cases : (least try : ℕ) (whole : List ℕ) → Tries least try whole
      → ((line : List ℕ) × (back : List ℕ) × IsTryLine try line × (whole ≡ ended line ++ back) × Try try back)
      ⊎ ((bin : ℕ) × (back : List ℕ) × (least ≡ 0) × (1 ≤ bin) × (bin ≤ last_bin) × (whole ≡ bin_line bin ++ back)
      × IsRest names number later (bins ++ bin ∷ []) back)
  tries_cases least try whole rest = by_tries rest.tries rest.are rest.enough rest.is
    where
      by_tries : (tries : List TryLog) → AreTries try tries → least ≤ length tries
          → whole ≡ tries_text tries ++ (bin_line rest.bin ++ rest.back)
          → ((line : List ℕ) × (back : List ℕ) × IsTryLine try line × (whole ≡ ended line ++ back) × Try try back)
          ⊎ ((bin : ℕ) × (back : List ℕ) × (least ≡ 0) × (1 ≤ bin) × (bin ≤ last_bin) × (whole ≡ bin_line bin ++ back)
          × IsRest names number later (bins ++ bin ∷ []) back)
      by_tries [] are enough is = inr (rest.bin, rest.back, omega (arith, enough), rest.some, rest.last, is, rest.goes_on)
      by_tries (t ∷ tries) are enough is =
          let behind : List ℕ = tries_text tries ++ (bin_line rest.bin ++ rest.back) in
          inl (
            t.head,
            flat_map ended t.fails ++ (ended t.verdict ++ behind),
            are.0.head,
            is ∙ tries_split t tries (bin_line rest.bin ++ rest.back) ∙ try_split t behind,
            record {
              fails = t.fails;
              verdict = t.verdict;
              are_fails = are.0.fails;
              is_verdict = are.0.verdict;
              back = behind;
              is = refl;
              goes_on = record {
                tries = tries;
                are = are.1;
                enough = omega arith;
                bin = rest.bin;
                some = rest.some;
                last = rest.last;
                back = rest.back;
                is = refl;
                goes_on = rest.goes_on;
              };
            },
          )

  -- it, and the try goes on
  pub goes_head : (least try : ℕ) (line : List ℕ) → least ≤ 1 → IsTryLine try line
      → GoesOn (Tries least try) (Try try) (ended line)
  goes_head least try line small head = record {
    whole = λ back rest.
        let t : TryLog = record { head = line; fails = rest.fails; verdict = rest.verdict } in
        subst (Tries least try) (try_split t rest.back ∙ ap (λ (l : List ℕ). ended line ++ l) (sym rest.is))
        (one_more least try small t (record { head = head; fails = rest.are_fails; verdict = rest.is_verdict }) rest.back rest.goes_on);
    only = λ back whole. elim (tries_cases least try (ended line ++ back) whole) [
      | inl (other, behind, is_try, is, rest) ↦
          let same = one_reading line other back behind (one_try try line head) (one_try try other is_try) is in
          subst (Try try) (sym same.1) rest
      | inr (bin, behind, _, some, last, is, rest) ↦
          let same = one_reading line (bin_words bin) back behind (one_try try line head) (one_bin bin) is in
          absurd (try_is_no_bin try bin (subst (IsTryLine try) same.0 head))
    ];
  }

  -- where there is no such line, it is the fault
  pub head_fault : (try : ℕ) (text : List ℕ) → ((line : List ℕ) → IsNext text line → IsTryLine try line → ⊥)
      → IsLineFault (Tries 1 try) text 1
  head_fault try text none =
      first_line_fault (Tries 1 try) (IsTryLine try) text (some_tries 1 try (omega arith))
      (λ whole rest. elim (tries_cases 1 try whole rest) [
        | inl (line, behind, is_try, is, _) ↦ (line, record { one = one_try try line is_try; later = behind; is = is }, is_try)
        | inr (bin, behind, zero_is, some, last, is, rest) ↦ absurd (omega (arith, zero_is))
      ])
      none

  -- the line of the bin, and the next die goes on
  pub goes_bin : (try bin : ℕ) → 1 ≤ bin → bin ≤ last_bin
      → GoesOn (Tries 0 try) (IsRest names number later (bins ++ bin ∷ [])) (bin_line bin)
  goes_bin try bin some last = record {
    whole = λ back rest. none_more try bin back some last rest;
    only = λ back whole. elim (tries_cases 0 try (bin_line bin ++ back) whole) [
      | inl (line, behind, is_try, is, rest) ↦
          let same = one_reading (bin_words bin) line back behind (one_bin bin) (one_try try line is_try) is in
          absurd (try_is_no_bin try bin (subst (IsTryLine try) (sym same.0) is_try))
      | inr (other, behind, _, _, below, is, rest) ↦
          let same = one_reading (bin_words bin) (bin_words other) back behind (one_bin bin) (one_bin other) is in
          let one = one_bin_said bin other last below same.0 in
          subst (λ (b : ℕ). IsRest names number later (bins ++ b ∷ []) back) (sym one)
          (subst (IsRest names number later (bins ++ other ∷ [])) (sym same.1) rest)
    ];
  }

  -- where neither stands there, that line is the fault
  pub bin_fault : (try : ℕ) (text : List ℕ) → ((line : List ℕ) → IsNext text line → IsTryLine try line → ⊥)
      → ((bin : ℕ) → 1 ≤ bin → bin ≤ last_bin → IsNext text (bin_words bin) → ⊥)
      → IsLineFault (Tries 0 try) text 1
  bin_fault try text no_try no_bin =
      first_line_fault (Tries 0 try) (λ line. IsTryLine try line ⊎ IsBinLine line) text (some_tries 0 try (omega arith))
      (λ whole rest. elim (tries_cases 0 try whole rest) [
        | inl (line, behind, is_try, is, _) ↦
            (line, record { one = one_try try line is_try; later = behind; is = is }, inl is_try)
        | inr (bin, behind, _, some, last, is, _) ↦ (
          bin_words bin,
          record { one = one_bin bin; later = behind; is = is },
          inr (record { bin = bin; some = some; last = last; is = refl }),
        )
      ])
      refused
    where
      refused : (line : List ℕ) → IsNext text line → IsTryLine try line ⊎ IsBinLine line → ⊥
      refused line next (inl is_try) = no_try line next is_try
      refused line next (inr says) = no_bin says.bin says.some says.last (subst (λ (l : List ℕ). IsNext text l) says.is next)

  -- ---- the fails and the verdict

  -- what stands there is a fail and more, or the verdict
  try_cases : (try : ℕ) (whole : List ℕ) → Try try whole
      → ((line : List ℕ) × (back : List ℕ) × (is_fail_line line ≡ true) × (whole ≡ ended line ++ back) × Try try back)
      ⊎ ((line : List ℕ) × (back : List ℕ) × IsVerdictLine line × (whole ≡ ended line ++ back) × Tries 0 (try + 1) back)
  try_cases try whole rest = by_fails rest.fails rest.are_fails rest.is
    where
      by_fails : (fails : List (List ℕ)) → AreFails fails
          → whole ≡ flat_map ended fails ++ (ended rest.verdict ++ rest.back)
          → ((line : List ℕ) × (back : List ℕ) × (is_fail_line line ≡ true) × (whole ≡ ended line ++ back) × Try try back)
          ⊎ ((line : List ℕ) × (back : List ℕ) × IsVerdictLine line × (whole ≡ ended line ++ back) × Tries 0 (try + 1) back)
      by_fails [] are is = inr (rest.verdict, rest.back, rest.is_verdict, is, rest.goes_on)
      by_fails (line ∷ fails) are is =
          inl (
            line,
            flat_map ended fails ++ (ended rest.verdict ++ rest.back),
            are.0,
            is ∙ append_assoc (ended line) (flat_map ended fails) (ended rest.verdict ++ rest.back),
            record {
              fails = fails;
              verdict = rest.verdict;
              are_fails = are.1;
              is_verdict = rest.is_verdict;
              back = rest.back;
              is = refl;
              goes_on = rest.goes_on;
            },
          )

  -- a fail, and the try goes on
  goes_fail : (try : ℕ) (line : List ℕ) → is_fail_line line ≡ true → GoesOn (Try try) (Try try) (ended line)
  goes_fail try line fail = record {
    whole = λ back rest. record {
      fails = line ∷ rest.fails;
      verdict = rest.verdict;
      are_fails = (fail, rest.are_fails);
      is_verdict = rest.is_verdict;
      back = rest.back;
      is = ap (λ (l : List ℕ). ended line ++ l) rest.is
          ∙ sym (append_assoc (ended line) (flat_map ended rest.fails) (ended rest.verdict ++ rest.back));
      goes_on = rest.goes_on;
    };
    only = λ back whole. elim (try_cases try (ended line ++ back) whole) [
      | inl (other, behind, is_fail, is, rest) ↦
          let same = one_reading line other back behind (one_fail line fail) (one_fail other is_fail) is in
          subst (Try try) (sym same.1) rest
      | inr (other, behind, verdict, is, rest) ↦
          let same = one_reading line other back behind (one_fail line fail) (one_verdict other verdict) is in
          absurd (fail_is_no_verdict line fail (subst IsVerdictLine (sym same.0) verdict))
    ];
  }

  -- all its fails
  pub goes_fails : (try : ℕ) (fails : List (List ℕ)) → AreFails fails → GoesOn (Try try) (Try try) (flat_map ended fails)
  goes_fails try [] are = goes_on_at_once (Try try)
  goes_fails try (line ∷ fails) are =
      goes_on_more (Try try) (Try try) (Try try) (ended line) (flat_map ended fails) (goes_fail try line are.0)
      (goes_fails try fails are.1)

  -- the verdict, and the next try goes on
  pub goes_verdict : (try : ℕ) (line : List ℕ) → IsVerdictLine line → GoesOn (Try try) (Tries 0 (try + 1)) (ended line)
  goes_verdict try line verdict = record {
    whole = λ back rest. record {
      fails = [];
      verdict = line;
      are_fails = tt;
      is_verdict = verdict;
      back = back;
      is = refl;
      goes_on = rest;
    };
    only = λ back whole. elim (try_cases try (ended line ++ back) whole) [
      | inl (other, behind, is_fail, is, rest) ↦
          let same = one_reading line other back behind (one_verdict line verdict) (one_fail other is_fail) is in
          absurd (fail_is_no_verdict other is_fail (subst IsVerdictLine same.0 verdict))
      | inr (other, behind, other_verdict, is, rest) ↦
          let same = one_reading line other back behind (one_verdict line verdict) (one_verdict other other_verdict) is in
          subst (Tries 0 (try + 1)) (sym same.1) rest
    ];
  }

  -- where neither stands there, that line is the fault
  pub verdict_fault : (try : ℕ) (text : List ℕ) → ((line : List ℕ) → IsNext text line → is_fail_line line ≡ false)
      → ((line : List ℕ) → IsNext text line → IsVerdictLine line → ⊥) → IsLineFault (Try try) text 1
  verdict_fault try text no_fail no_verdict =
      first_line_fault (Try try) (λ line. (is_fail_line line ≡ true) ⊎ IsVerdictLine line) text (some_try try)
      (λ whole rest. elim (try_cases try whole rest) [
        | inl (line, behind, fail, is, _) ↦ (line, record { one = one_fail line fail; later = behind; is = is }, inl fail)
        | inr (line, behind, verdict, is, _) ↦
            (line, record { one = one_verdict line verdict; later = behind; is = is }, inr verdict)
      ])
      refused
    where
      refused : (line : List ℕ) → IsNext text line → (is_fail_line line ≡ true) ⊎ IsVerdictLine line → ⊥
      refused line next (inl fail) = false≢true (sym (no_fail line next) ∙ fail)
      refused line next (inr verdict) = no_verdict line next verdict

  -- ---- tries

  -- a try, and the next one goes on
  pub goes_try : (least try : ℕ) (t : TryLog) → least ≤ 1 → IsTry try t
      → GoesOn (Tries least try) (Tries 0 (try + 1)) (flat_map ended (try_lines t))
  goes_try least try t small is =
      let whole = try_split t [] in
      subst (GoesOn (Tries least try) (Tries 0 (try + 1)))
      (ap (λ (l : List ℕ). ended t.head ++ (flat_map ended t.fails ++ l)) (sym (append-nil (ended t.verdict)))
      ∙ sym whole ∙ append-nil (flat_map ended (try_lines t)))
      (goes_on_more (Tries least try) (Try try) (Tries 0 (try + 1)) (ended t.head) (flat_map ended t.fails ++ ended t.verdict)
      (goes_head least try t.head small is.head)
      (goes_on_more (Try try) (Try try) (Tries 0 (try + 1)) (flat_map ended t.fails) (ended t.verdict)
      (goes_fails try t.fails is.fails) (goes_verdict try t.verdict is.verdict)))

  -- tries, and the next one goes on
  goes_later : (try to : ℕ) (tries : List TryLog) → to ≡ try + length tries → AreTries try tries
      → GoesOn (Tries 0 try) (Tries 0 to) (tries_text tries)
  goes_later try to [] is are =
      let same : try ≡ to = omega (arith, is) in
      subst (λ (n : ℕ). GoesOn (Tries 0 try) (Tries 0 n) []) same (goes_on_at_once (Tries 0 try))
  goes_later try to (t ∷ tries) is are =
      subst (GoesOn (Tries 0 try) (Tries 0 to)) (sym (flat_map-append ended (try_lines t) (flat_map try_lines tries)))
      (goes_on_more (Tries 0 try) (Tries 0 (try + 1)) (Tries 0 to) (flat_map ended (try_lines t)) (tries_text tries)
      (goes_try 0 try t (omega arith) are.0) (goes_later (try + 1) to tries (omega (arith, is)) are.1))

  -- the same of all tries of a die
  pub goes_tries : (to : ℕ) (tries : List TryLog) → to ≡ 1 + length tries → 1 ≤ length tries → AreTries 1 tries
      → GoesOn (Tries 1 1) (Tries 0 to) (tries_text tries)
  goes_tries to [] is some are = absurd (omega (arith, some))
  goes_tries to (t ∷ tries) is some are =
      subst (GoesOn (Tries 1 1) (Tries 0 to)) (sym (flat_map-append ended (try_lines t) (flat_map try_lines tries)))
      (goes_on_more (Tries 1 1) (Tries 0 2) (Tries 0 to) (flat_map ended (try_lines t)) (tries_text tries)
      (goes_try 1 1 t (omega arith) are.0) (goes_later 2 to tries (omega (arith, is)) are.1))

  -- behind the line of a die stand its tries
  pub goes_to_tries : GoesOn (IsDieRest names number later bins) (Tries 1 1) []
  goes_to_tries = record {
    whole = λ back rest. record {
      log = record { body = flat_map try_lines rest.tries; bin = rest.bin };
      is_die = record {
        tries = rest.tries;
        are = rest.are;
        tried = rest.enough;
        lines = refl;
        some = rest.some;
        last = rest.last;
      };
      back = rest.back;
      is = rest.is;
      goes_on = rest.goes_on;
    };
    only = λ back rest. record {
      tries = rest.is_die.tries;
      are = rest.is_die.are;
      enough = rest.is_die.tried;
      bin = rest.log.bin;
      some = rest.is_die.some;
      last = rest.is_die.last;
      back = rest.back;
      is = rest.is ∙ ap (λ (l : List (List ℕ)). flat_map ended l ++ (bin_line rest.log.bin ++ rest.back)) rest.is_die.lines;
      goes_on = rest.goes_on;
    };
  }
