-- What stands behind the tokens that are read, and what each step makes of it.
use Rattle.std.proofs.Common.{◌≡◌, ℕ, suc, ◌+◌, ◌-◌, ◌≤◌, ◌<◌, true, false, List, [], ◌∷◌, ◌++◌, length, map, Result, Ok, Err, refl, sym, ap, ◌∙◌, subst, inl, inr, arith, length-append, append_assoc, cond, ◌≢◌}
use Rattle.std.specs.Prelude.{◌==◌}
use Rattle.std.proofs.lemmas.Bool.{cond_both, or_from, eqb-true, eqb-false}
use Rattle.std.proofs.lemmas.List.{length-map, append-nil, nil_from_length}
use Rattle.stil_lex.specs.declared.token.Token.{Token}
use Rattle.stil_tree.specs.Signs.{semicolon, open_brace, close_brace, is_sign, is_delimiter}
use Rattle.stil_tree.specs.Trees.{Trees, end, block}
use Rattle.stil_tree.specs.Grammar.{most_levels, Parses, ParsesAt}
use Rattle.stil_tree.specs.Faults.{IsLevel, EndsInside, IsFault}
use Rattle.stil_tree.specs.Step.{join, Frame, State, going, failed, ended_by, closed, step, run, outcome, brace_of, forest_of}
use Rattle.stil_tree.specs.declared.fault.TreeFault.{TreeFault}
use Rattle.stil_tree.specs.declared.fault.TreeFault.TheVariants.{OpenStatement, TooDeep}
use Rattle.stil_tree.proofs.Reached.{ends_within}
use Rattle.stil_tree.proofs.Runs.{run-failed}
use Rattle.stil_tree.proofs.Sound.{ParsesAt-at}
use Rattle.stil_tree.proofs.Levels.{level-start, level-head, level-semicolon, level-block}

-- inside the block of a frame
pub record IsInside (Below : Trees → ℕ → List Token → Type 0) (f : Frame) (depth : ℕ) (done : Trees) (first : ℕ) (tokens : List Token) : Type 0 where
  pub outer : List Token
  pub brace : Token
  pub inner : List Token
  pub spelled : tokens ≡ outer ++ brace ∷ inner
  pub opens : is_sign open_brace brace ≡ true
  pub below : Below f.before f.first outer
  pub place : brace_of f ≡ length outer
  pub level : IsLevel depth (length outer + 1) done first inner

-- the open blocks, the statements done in the innermost, and its head, behind these tokens
abbrev pub Standing : List Frame → Trees → ℕ → List Token → Type 0
Standing [] done first tokens = IsLevel 0 0 done first tokens
Standing (f ∷ fs) done first tokens = (length fs < most_levels) × IsInside (Standing fs) f (suc (length fs)) done first tokens

-- no more blocks are open than may be
pub few_frames : (frames : List Frame) (done : Trees) (first : ℕ) (tokens : List Token) → Standing frames done first tokens → length frames ≤ most_levels
few_frames [] done first tokens s = omega arith
few_frames (f ∷ fs) done first tokens s = omega (arith, s.0)

-- the innermost level, and the same with other tokens in it
pub record Innermost (frames : List Frame) (done : Trees) (first : ℕ) (tokens : List Token) : Type 0 where
  pub before : List Token
  pub inner : List Token
  pub spelled : tokens ≡ before ++ inner
  pub level : IsLevel (length frames) (length before) done first inner
  pub again : (others : Trees) (begin : ℕ) (more : List Token)
      → IsLevel (length frames) (length before) others begin more → Standing frames others begin (before ++ more)

pub innermost : (frames : List Frame) (done : Trees) (first : ℕ) (tokens : List Token) → Standing frames done first tokens → Innermost frames done first tokens
innermost [] done first tokens s = record { before = []; inner = tokens; spelled = refl; level = s; again = λ others begin more l. l }
innermost (f ∷ fs) done first tokens s =
    let i = s.1 in
    let place : length (i.outer ++ i.brace ∷ []) ≡ length i.outer + 1 = length-append i.outer (i.brace ∷ []) in
    record {
      before = i.outer ++ i.brace ∷ [];
      inner = i.inner;
      spelled = i.spelled ∙ sym (append_assoc i.outer (i.brace ∷ []) i.inner);
      level = subst (λ (n : ℕ). IsLevel (suc (length fs)) n done first i.inner) (sym place) i.level;
      again = λ others begin more l. (
        s.0,
        record {
          outer = i.outer;
          brace = i.brace;
          inner = more;
          spelled = append_assoc i.outer (i.brace ∷ []) more;
          opens = i.opens;
          below = i.below;
          place = i.place;
          level = subst (λ (n : ℕ). IsLevel (suc (length fs)) n others begin more) place l;
        },
      );
    }

-- the definition of where tokens end says less
pub ends_inside : (frames : List Frame) (done : Trees) (first : ℕ) (tokens : List Token)
    → Standing frames done first tokens → EndsInside (map brace_of frames) first tokens
ends_inside [] done first tokens s = (done, s)
ends_inside (f ∷ fs) done first tokens s =
    let i = s.1 in
    let count : length (map brace_of fs) ≡ length fs = length-map fs brace_of in (
      rw count s.0,
      record {
        outer = i.outer;
        brace_token = i.brace;
        inner = i.inner;
        spelled = i.spelled;
        opens = i.opens;
        place = i.place;
        outer_first = f.first;
        outside = ends_inside fs f.before f.first i.outer i.below;
        done = done;
        level = subst (λ (n : ℕ). IsLevel (suc n) (brace_of f + 1) done first i.inner) (sym count) (subst (λ (n : ℕ). IsLevel (suc (length fs)) (n + 1) done first i.inner) (sym i.place) i.level);
      },
    )

-- the head begins within the tokens
pub standing_within : (frames : List Frame) (done : Trees) (first : ℕ) (tokens : List Token) → Standing frames done first tokens → first ≤ length tokens
standing_within frames done first tokens s = ends_within (map brace_of frames) first tokens (ends_inside frames done first tokens s)

-- behind a head token
pub standing-head : (frames : List Frame) (done : Trees) (first : ℕ) (tokens : List Token) (t : Token)
    → Standing frames done first tokens → is_delimiter t ≡ false
    → Standing frames done first (tokens ++ t ∷ [])
standing-head frames done first tokens t s other =
    let i = innermost frames done first tokens s in
    subst (Standing frames done first) (sym (ap (λ ts. ts ++ t ∷ []) i.spelled ∙ append_assoc i.before i.inner (t ∷ [])))
    (i.again done first (i.inner ++ t ∷ []) (level-head (length frames) (length i.before) done first i.inner t i.level other))

-- behind a `;`
pub standing-semicolon : (frames : List Frame) (done : Trees) (first : ℕ) (tokens : List Token) (t : Token)
    → Standing frames done first tokens → is_sign semicolon t ≡ true
    → Standing frames (ended_by done first (length tokens - first)) (length tokens + 1) (tokens ++ t ∷ [])
standing-semicolon frames done first tokens t s is =
    let i = innermost frames done first tokens s in
    subst (Standing frames (ended_by done first (length tokens - first)) (length tokens + 1)) (sym (ap (λ ts. ts ++ t ∷ []) i.spelled ∙ append_assoc i.before i.inner (t ∷ [])))
    (i.again (ended_by done first (length tokens - first)) (length tokens + 1) (i.inner ++ t ∷ [])
    (level-semicolon (length frames) (length i.before) done first i.inner t (length tokens) i.level is (ap length i.spelled ∙ length-append i.before i.inner)))

-- behind a `{`
pub standing-open : (frames : List Frame) (done : Trees) (first : ℕ) (tokens : List Token) (t : Token)
    → Standing frames done first tokens → is_sign open_brace t ≡ true
    → length frames < most_levels
    → Standing (record { before = done; first = first; count = length tokens - first } ∷ frames) end (length tokens + 1) (tokens ++ t ∷ [])
standing-open frames done first tokens t s is few = (
  few,
  record {
    outer = tokens;
    brace = t;
    inner = [];
    spelled = refl;
    opens = is;
    below = s;
    place = omega (arith, standing_within frames done first tokens s);
    level = level-start (suc (length frames)) (length tokens + 1);
  },
)

-- behind a `}` that closes a block
pub standing-close : (f : Frame) (fs : List Frame) (done : Trees) (first : ℕ) (tokens : List Token) (t : Token)
    → Standing (f ∷ fs) done first tokens → is_sign close_brace t ≡ true
    → first ≡ length tokens → Standing fs (join f.before (block f.first f.count done end)) (length tokens + 1) (tokens ++ t ∷ [])
standing-close f fs done first tokens t s is finished =
    let i = s.1 in
    let l = i.level in
    let o = innermost fs f.before f.first i.outer i.below in
    let long = ap length i.spelled ∙ length-append i.outer (i.brace ∷ i.inner) in
    let outer_long = ap length o.spelled ∙ length-append o.before o.inner in
    let no_head : l.head ≡ [] = nil_from_length l.head (omega (arith, finished, l.begins, long, ap length l.spelled ∙ length-append l.front l.head)) in
    let all_done : l.front ≡ i.inner = sym (l.spelled ∙ (ap (λ ts. l.front ++ ts) no_head ∙ append-nil l.front)) in
    let place : length i.outer + 1 ≡ length o.before + length o.inner + 1 = omega (arith, outer_long) in
    let body = ParsesAt-at (length o.before + length o.inner + 1) place (subst (ParsesAt (suc (length fs)) (length i.outer + 1) done) all_done l.parses) in
    let closed_level = level-block (length fs) (length o.before) f.before f.first o.inner f.count (length tokens) done i.brace i.inner t o.level s.0 i.opens is
    (i.place ∙ outer_long) body (omega (arith, long, outer_long)) in
    let whole : tokens ++ t ∷ [] ≡ o.before ++ (o.inner ++ i.brace ∷ (i.inner ++ t ∷ [])) =
    ap (λ ts. ts ++ t ∷ []) (i.spelled ∙ ap (λ ts. ts ++ i.brace ∷ i.inner) o.spelled) ∙ simp append_assoc in
    subst (Standing fs (join f.before (block f.first f.count done end)) (length tokens + 1)) (sym whole)
    (o.again (join f.before (block f.first f.count done end)) (length tokens + 1) (o.inner ++ i.brace ∷ (i.inner ++ t ∷ [])) closed_level)

-- what a state says of the tokens that are read, and of all tokens
abbrev pub Says : State → List Token → List Token → Type 0
Says (going frames done first) read all = Standing frames done first read
Says (failed fault) read all = IsFault all fault

-- a `}` says so
pub closed_says : (frames : List Frame) (done : Trees) (first : ℕ) (read : List Token) (t : Token) (back : List Token)
    → Standing frames done first read → is_sign close_brace t ≡ true
    → Says (closed (length read) frames done first) (read ++ t ∷ []) (read ++ t ∷ back)
closed_says [] done first read t back s is =
    record { front = read; sign = t; back = back; spelled = refl; is_it = is; is_place = refl; before = (first, (done, s)) }
closed_says (f ∷ fs) done first read t back s is =
    cond_both (first == length read) (going fs (join f.before (block f.first f.count done end)) (length read + 1)) (failed (OpenStatement first)) (λ r. Says r (read ++ t ∷ []) (read ++ t ∷ back))
    (λ same. standing-close f fs done first read t s is (eqb-true first (length read) same))
    (λ differs.
    let e = ends_inside (f ∷ fs) done first read s in
    let within = standing_within (f ∷ fs) done first read s in
    let unequal : first ≢ length read = eqb-false first (length read) differs in
    inl (
      length read,
      record {
        front = read;
        sign = t;
        back = back;
        spelled = refl;
        is_it = is;
        is_place = refl;
        before = (omega arith, (brace_of f, map brace_of fs, e));
      },
    ))

-- a step says so
pub step_says : (frames : List Frame) (done : Trees) (first : ℕ) (read : List Token) (t : Token) (back : List Token) → Standing frames done first read
    → Says (step (length read) frames done first t) (read ++ t ∷ []) (read ++ t ∷ back)
unfolding step
step_says frames done first read t back s =
    let at = length read in
    let P : State → Type 0 = λ r. Says r (read ++ t ∷ []) (read ++ t ∷ back) in
    let deeper = going (record { before = done; first = first; count = at - first } ∷ frames) end (at + 1) in
    let opened = cond (length frames == most_levels) (failed (TooDeep at)) deeper in
    let rest = cond (is_sign close_brace t) (closed at frames done first) (going frames done first) in
    cond_both (is_sign semicolon t) (going frames (ended_by done first (at - first)) (at + 1)) (cond (is_sign open_brace t) opened rest) P
    (λ is. standing-semicolon frames done first read t s is)
    (λ n_end. cond_both (is_sign open_brace t) opened rest P
    (λ is. cond_both (length frames == most_levels) (failed (TooDeep at)) deeper P
    (λ full.
    let many : length (map brace_of frames) ≡ most_levels = length-map frames brace_of ∙ eqb-true (length frames) most_levels full in
    record {
      front = read;
      sign = t;
      back = back;
      spelled = refl;
      is_it = is;
      is_place = refl;
      before = (map brace_of frames, first, many, ends_inside frames done first read s);
    })
    (λ fewer.
    let unequal : length frames ≢ most_levels = eqb-false (length frames) most_levels fewer in
    let most = few_frames frames done first read s in
    standing-open frames done first read t s is (omega arith)))
    (λ n_open. cond_both (is_sign close_brace t) (closed at frames done first) (going frames done first) P
    (λ is. closed_says frames done first read t back s is)
    (λ n_close. standing-head frames done first read t s (or_from _ _ (or_from _ _ n_end n_open) n_close))))

-- a state goes on to say so, where the run from what stands does
pub state_says : (s : State) (read : List Token) (t : Token) (ts : List Token)
    → ((frames : List Frame) (done : Trees) (first : ℕ) → Standing frames done first (read ++ t ∷ [])
    → Says (run (length (read ++ t ∷ [])) (going frames done first) ts) (read ++ t ∷ [] ++ ts) (read ++ t ∷ [] ++ ts))
    → Says s (read ++ t ∷ []) (read ++ t ∷ ts) → Says (run (length read + 1) s ts) (read ++ t ∷ ts) (read ++ t ∷ ts)
state_says (failed fault) read t ts on says = subst (λ (r : State). Says r (read ++ t ∷ ts) (read ++ t ∷ ts)) (sym (run-failed (length read + 1) fault ts)) says
state_says (going frames done first) read t ts on says =
    let all : read ++ t ∷ [] ++ ts ≡ read ++ t ∷ ts = append_assoc read (t ∷ []) ts in
    subst (λ (n : ℕ). Says (run n (going frames done first) ts) (read ++ t ∷ ts) (read ++ t ∷ ts)) (length-append read (t ∷ []))
    (subst (λ (xs : List Token). Says (run (length (read ++ t ∷ [])) (going frames done first) ts) xs xs) all (on frames done first says))

-- a run says so
pub run_says : (ts read : List Token) (frames : List Frame) (done : Trees) (first : ℕ) → Standing frames done first read
    → Says (run (length read) (going frames done first) ts) (read ++ ts) (read ++ ts)
run_says [] read frames done first s = subst (Standing frames done first) (sym (append-nil read)) s
run_says (t ∷ ts) read frames done first s =
    state_says (step (length read) frames done first t) read t ts (run_says ts (read ++ t ∷ [])) (step_says frames done first read t ts s)

-- what is answered is so
abbrev pub IsAnswer : List Token → Result Trees TreeFault → Type 0
IsAnswer tokens (Ok forest) = Parses tokens forest
IsAnswer tokens (Err fault) = IsFault tokens fault

pub outcome_says : (tokens : List Token) (s : State) → Says s tokens tokens → IsAnswer tokens (outcome (length tokens) s)
outcome_says tokens (failed fault) says = says
outcome_says tokens (going [] done first) l =
    cond_both (first == length tokens) (Ok done) (Err (OpenStatement first)) (IsAnswer tokens)
    (λ same.
    let no_head : l.head ≡ [] = nil_from_length l.head (omega (arith, eqb-true first (length tokens) same, l.begins, ap length l.spelled ∙ length-append l.front l.head)) in
    subst (ParsesAt 0 0 done) (sym (l.spelled ∙ (ap (λ ts. l.front ++ ts) no_head ∙ append-nil l.front))) l.parses)
    (λ differs.
    let within = standing_within [] done first tokens l in
    let unequal : first ≢ length tokens = eqb-false first (length tokens) differs in
    inr (omega arith, (done, l)))
outcome_says tokens (going (f ∷ fs) done first) s = (map brace_of fs, first, ends_inside (f ∷ fs) done first tokens s)

-- what the code answers of the tokens is so
pub forest_says : (tokens : List Token) → IsAnswer tokens (forest_of tokens)
forest_says tokens = outcome_says tokens (run 0 (going [] end 0) tokens) (run_says tokens [] [] end 0 (level-start 0 0))
