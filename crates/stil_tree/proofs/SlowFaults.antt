-- The plain slow search finds the fault of tokens: a token from the left either is refused, or leaves the tokens in some blocks.
use Rattle.std.proofs.Common.{◌≡◌, ◌⊎◌, ℕ, suc, ◌+◌, ◌-◌, ◌≤◌, ◌<◌, true, false, ◌&&◌, ◌||◌, List, [], ◌∷◌, ◌++◌, length, take, drop, get_or, Option, Some, None, IfSome, IfNone, Result, Ok, Err, refl, sym, ap, ◌∙◌, subst, inl, inr, arith, eq-eqb, ne_eqb, cond, slice_get, add-one}
use Rattle.std.specs.Prelude.{◌==◌, nat_lt}
use Rattle.std.specs.List.{list_any}
use Rattle.std.proofs.lemmas.Bool.{cond-true, cond-false, and_from, and_left, and_right, or_left, or_right, or_from, or_parts, lt-ltb, le-ltb, cases_Bool, cases_lt, eqb-true, eqb-false, false≢true}
use Rattle.std.proofs.lemmas.List.{take_more, take_all, drop_more, take-append-drop, length-take-le, drop-drop}
use Rattle.std.proofs.lemmas.Option.{slice_get-get_or}
use Rattle.stil_lex.specs.declared.token.Token.{Token}
use Rattle.stil_tree.specs.Signs.{semicolon, open_brace, close_brace, is_sign, is_delimiter}
use Rattle.stil_tree.specs.Trees.{Trees, end, block}
use Rattle.stil_tree.specs.Blocks.{braces_behind, open_braces}
use Rattle.stil_tree.specs.Grammar.{most_levels, Parses}
use Rattle.stil_tree.specs.Faults.{IsFault}
use Rattle.stil_tree.specs.Step.{join, Frame, State, going, failed, ended_by, step, brace_of}
use Rattle.stil_tree.specs.SlowFaults.{head_start, opens_if, opens_at, last_opening, unfinished, refusal_at_close, refusal_at, refusal_at_end}
use Rattle.stil_tree.specs.declared.fault.TreeFault.{TreeFault}
use Rattle.stil_tree.specs.declared.fault.TreeFault.TheVariants.{OpenBlock, OpenStatement, StrayClose, TooDeep}
use Rattle.stil_tree.proofs.Steps.{is_kind-other, step-head, step-semicolon, step-open, step-deep, step-close, closed-done, closed-open}
use Rattle.stil_tree.proofs.Reached.{forest_is_found, fault_is_found}
use Rattle.stil_tree.proofs.Standing.{Standing, Says, IsAnswer, few_frames, standing_within, step_says, outcome_says}
use Rattle.stil_tree.proofs.Levels.{level-start}
use Rattle.stil_tree.proofs.Spots.{braces-push}
use Rattle.stil_tree.proofs.SlowlyBack.{semicolon_delimiters, brace_delimiters}

-- tokens with a delimiter behind them have one
pub list_any-delimiter : (xs : List Token) (t : Token) → is_delimiter t ≡ true
    → list_any is_delimiter (xs ++ t ∷ []) ≡ true
list_any-delimiter [] t is = or_left (is_delimiter t) false is
list_any-delimiter (x ∷ xs) t is = or_right (is_delimiter x) (list_any is_delimiter (xs ++ t ∷ [])) (list_any-delimiter xs t is)

-- a head token behind tokens is no delimiter of them
pub list_any-other : (xs : List Token) (t : Token) → is_delimiter t ≡ false
    → list_any is_delimiter (xs ++ t ∷ []) ≡ list_any is_delimiter xs
list_any-other [] t other = or_from (is_delimiter t) false other refl
list_any-other (x ∷ xs) t other = ap (λ b. is_delimiter x || b) (list_any-other xs t other)

-- behind a delimiter a head begins
pub head_start-delimiter : (xs : List Token) (t : Token) → is_delimiter t ≡ true
    → head_start (xs ++ t ∷ []) ≡ length xs + 1
head_start-delimiter [] t is = cond-true (is_delimiter t || false) 1 0 (or_left (is_delimiter t) false is)
head_start-delimiter (x ∷ xs) t is =
    let more = head_start-delimiter xs t is in
    cond-true (list_any is_delimiter (x ∷ xs ++ t ∷ [])) (1 + head_start (xs ++ t ∷ [])) 0 (list_any-delimiter (x ∷ xs) t is) ∙ omega arith

-- behind a head token it goes on
pub head_start-head : (xs : List Token) (t : Token) → is_delimiter t ≡ false
    → head_start (xs ++ t ∷ []) ≡ head_start xs
head_start-head [] t other = cond-false (is_delimiter t || false) 1 0 (or_from (is_delimiter t) false other refl)
head_start-head (x ∷ xs) t other =
    ap (λ b. cond b (1 + head_start (xs ++ t ∷ [])) 0) (list_any-other (x ∷ xs) t other)
    ∙ ap (λ n. cond (list_any is_delimiter (x ∷ xs)) (1 + n) 0) (head_start-head xs t other)

-- in tokens with a delimiter the head begins behind the first of them
pub head_start-tail : (tokens : List Token) → list_any is_delimiter tokens ≡ true
    → head_start tokens ≡ 1 + head_start (drop 1 tokens)
head_start-tail [] delimitered = absurd (false≢true delimitered)
head_start-tail (t ∷ ts) delimitered = cond-true (list_any is_delimiter (t ∷ ts)) (1 + head_start ts) 0 delimitered

-- the same of tokens behind others
pub head_start-more : (tokens : List Token) (start : ℕ)
    → list_any is_delimiter (drop start tokens) ≡ true
    → head_start (drop start tokens) ≡ 1 + head_start (drop (start + 1) tokens)
head_start-more tokens start delimitered = head_start-tail (drop start tokens) delimitered ∙ ap (λ ts. 1 + head_start ts) (drop-drop 1 start tokens)

-- where as many braces are open before a token, it isn't the one with which so many are
pub opens_if-fewer : (before braces : ℕ) (t : Option Token) → braces ≤ before
    → opens_if before braces t ≡ false
opens_if-fewer before braces None few = refl
opens_if-fewer before braces (Some t) few = and_right (is_sign open_brace t) (before + 1 == braces) (ne_eqb (before + 1) braces (λ e. omega (arith, e, few)))

-- the last such token stays the last
pub last_opening-on : (braces : ℕ) (tokens : List Token) (at : ℕ)
    → braces ≤ open_braces (take at tokens)
    → last_opening braces tokens (at + 1) ≡ last_opening braces tokens at
last_opening-on braces tokens at few =
    ap (last_opening braces tokens) (add-one at)
    ∙ cond-false (opens_at braces tokens at) at (last_opening braces tokens at) (opens_if-fewer (open_braces (take at tokens)) braces (slice_get tokens at) few)

-- a `{` is the last with which so many are open
pub last_opening-at : (braces : ℕ) (tokens : List Token) (at : ℕ) (d : Token) → at < length tokens
    → is_sign open_brace (get_or tokens at d) ≡ true
    → open_braces (take at tokens) + 1 ≡ braces → last_opening braces tokens (at + 1) ≡ at
last_opening-at braces tokens at d below is so_many =
    let before = open_braces (take at tokens) in
    ap (last_opening braces tokens) (add-one at)
    ∙ cond-true (opens_at braces tokens at) at (last_opening braces tokens at) (
    ap (opens_if before braces) (slice_get-get_or tokens at d below)
    ∙ and_from (is_sign open_brace (get_or tokens at d)) (before + 1 == braces) is (eq-eqb (before + 1) braces so_many))

-- each open block has the last `{` with which it and those around it are open
abbrev pub AreLast : List Frame → List Token → ℕ → Type 0
AreLast [] tokens at = Unit {0}
AreLast (f ∷ fs) tokens at = (brace_of f ≡ last_opening (suc (length fs)) tokens at) × AreLast fs tokens at

-- they stay so, while no more of them are open than braces
pub AreLast-on : (frames : List Frame) (tokens : List Token) (at : ℕ)
    → length frames ≤ open_braces (take at tokens) → AreLast frames tokens at
    → AreLast frames tokens (at + 1)
AreLast-on [] tokens at few are = tt
AreLast-on (f ∷ fs) tokens at few are =
    (are.0 ∙ sym (last_opening-on (suc (length fs)) tokens at (omega arith)), AreLast-on fs tokens at (omega arith) are.1)

-- no token of the first so many is refused: they end inside some blocks, in a head
pub record Stands (tokens : List Token) (at : ℕ) : Type 0 where
  pub frames : List Frame
  pub done : Trees
  pub first : ℕ
  pub standing : Standing frames done first (take at tokens)
  pub count : length frames ≡ open_braces (take at tokens)
  pub head : first ≡ head_start (take at tokens)
  pub places : AreLast frames tokens at

-- at the start
pub stands-start : (tokens : List Token) → Stands tokens 0
stands-start tokens = record { frames = []; done = end; first = 0; standing = level-start 0 0; count = refl; head = refl; places = tt }

-- what a token behind others does: it goes on, or it is refused
abbrev pub Meets : List Token → ℕ → Token → Type 0
Meets tokens at t =
    (Stands tokens (at + 1) × (refusal_at (take at tokens) t ≡ None))
    ⊎ ((fault : TreeFault) × (refusal_at (take at tokens) t ≡ Some fault) × IsFault tokens fault)

-- a token that is no brace leaves as many open
pub braces_behind-other : (before : ℕ) (t : Token) → is_sign open_brace t ≡ false
    → is_sign close_brace t ≡ false → braces_behind before t ≡ before
braces_behind-other before t n_open n_close =
    cond-false (is_sign open_brace t) (before + 1) (cond (is_sign close_brace t) (before - 1) before) n_open
    ∙ cond-false (is_sign close_brace t) (before - 1) before n_close

-- a token that opens no block one level too deep is refused at most as a `}`
pub refusal_at-fewer : (front : List Token) (t : Token)
    → (is_sign open_brace t && open_braces front == most_levels) ≡ false
    → refusal_at front t ≡ cond (is_sign close_brace t) (refusal_at_close front) None
refusal_at-fewer front t fewer =
    cond-false (is_sign open_brace t && open_braces front == most_levels) (Some (TooDeep (length front))) (cond (is_sign close_brace t) (refusal_at_close front) None) fewer

-- a token that is no brace is not refused
pub refusal_at-other : (front : List Token) (t : Token) → is_sign open_brace t ≡ false
    → is_sign close_brace t ≡ false → refusal_at front t ≡ None
refusal_at-other front t n_open n_close =
    refusal_at-fewer front t (and_left (is_sign open_brace t) (open_braces front == most_levels) n_open)
    ∙ cond-false (is_sign close_brace t) (refusal_at_close front) None n_close

-- a `}` is refused as one
pub refusal_at-close : (front : List Token) (t : Token) → is_sign close_brace t ≡ true
    → refusal_at front t ≡ refusal_at_close front
refusal_at-close front t is =
    let n_open : is_sign open_brace t ≡ false = is_kind-other close_brace open_brace t.kind is refl in
    refusal_at-fewer front t (and_left (is_sign open_brace t) (open_braces front == most_levels) n_open)
    ∙ cond-true (is_sign close_brace t) (refusal_at_close front) None is

-- a head that is not finished is refused
pub unfinished-some : (tokens : List Token) (first : ℕ) → first ≡ head_start tokens
    → first < length tokens → unfinished tokens ≡ Some (OpenStatement first)
unfinished-some tokens first is less =
    cond-true (nat_lt (head_start tokens) (length tokens)) (Some (OpenStatement (head_start tokens))) None (lt-ltb (head_start tokens) (length tokens) (omega arith))
    ∙ ap (λ n. Some (OpenStatement n)) (sym is)

-- one that is finished is not
pub unfinished-none : (tokens : List Token) (first : ℕ) → first ≡ head_start tokens
    → length tokens ≤ first → unfinished tokens ≡ None
unfinished-none tokens first is all =
    cond-false (nat_lt (head_start tokens) (length tokens)) (Some (OpenStatement (head_start tokens))) None (le-ltb (head_start tokens) (length tokens) (omega arith))

-- the tokens up to one, and those behind it
pub split_at : (tokens : List Token) (at : ℕ) (d : Token) → at < length tokens
    → take at tokens ++ get_or tokens at d ∷ drop (at + 1) tokens ≡ tokens
split_at tokens at d below = ap (λ ts. take at tokens ++ ts) (sym (drop_more tokens at d below)) ∙ take-append-drop at tokens

-- what the step at a token says
pub step_at : (tokens : List Token) (at : ℕ) (d : Token) (frames : List Frame) (done : Trees) (first : ℕ) (next : State)
    → at < length tokens
    → Standing frames done first (take at tokens)
    → step at frames done first (get_or tokens at d) ≡ next
    → Says next (take at tokens ++ get_or tokens at d ∷ []) tokens
step_at tokens at d frames done first next below s is =
    let read = take at tokens in
    let t = get_or tokens at d in
    let place : length read ≡ at = length-take-le at tokens (omega arith) in
    subst (λ (r : State). Says r (read ++ t ∷ []) tokens) is
    (subst (λ (n : ℕ). Says (step n frames done first t) (read ++ t ∷ []) tokens) place
    (subst (λ (ts : List Token). Says (step (length read) frames done first t) (read ++ t ∷ []) ts) (split_at tokens at d below)
    (step_says frames done first read t (drop (at + 1) tokens) s)))

-- what stands behind one token more
pub stands-more : (tokens : List Token) (at : ℕ) (d : Token) (frames : List Frame) (done : Trees) (first : ℕ)
    → at < length tokens
    → Standing frames done first (take at tokens ++ get_or tokens at d ∷ [])
    → length frames ≡ braces_behind (open_braces (take at tokens)) (get_or tokens at d)
    → first ≡ head_start (take at tokens ++ get_or tokens at d ∷ [])
    → AreLast frames tokens (at + 1) → Stands tokens (at + 1)
stands-more tokens at d frames done first below s count head places =
    let more = take_more tokens at d below in
    record {
      frames = frames;
      done = done;
      first = first;
      standing = subst (Standing frames done first) (sym more) s;
      count = count ∙ (sym (braces-push (take at tokens) (get_or tokens at d)) ∙ ap open_braces (sym more));
      head = head ∙ ap head_start (sym more);
      places = places;
    }

-- at a head token
pub meets-head : (tokens : List Token) (at : ℕ) (d : Token) → Stands tokens at → at < length tokens
    → is_delimiter (get_or tokens at d) ≡ false → Meets tokens at (get_or tokens at d)
meets-head tokens at d s below other =
    let read = take at tokens in
    let t = get_or tokens at d in
    let parts = or_parts (is_sign semicolon t || is_sign open_brace t) (is_sign close_brace t) other in
    let n_open = (or_parts (is_sign semicolon t) (is_sign open_brace t) parts.0).1 in
    let behind = step_at tokens at d s.frames s.done s.first (going s.frames s.done s.first) below s.standing (step-head at s.frames s.done s.first t other) in
    inl (
      stands-more tokens at d s.frames s.done s.first below behind (s.count ∙ sym (braces_behind-other (open_braces read) t n_open parts.1))
          (s.head ∙ sym (head_start-head read t other)) (AreLast-on s.frames tokens at (omega (arith, s.count)) s.places),
      refusal_at-other read t n_open parts.1,
    )

-- at a `;`
pub meets-semicolon : (tokens : List Token) (at : ℕ) (d : Token) → Stands tokens at
    → at < length tokens → is_sign semicolon (get_or tokens at d) ≡ true
    → Meets tokens at (get_or tokens at d)
meets-semicolon tokens at d s below is =
    let read = take at tokens in
    let t = get_or tokens at d in
    let n_open : is_sign open_brace t ≡ false = is_kind-other semicolon open_brace t.kind is refl in
    let n_close : is_sign close_brace t ≡ false = is_kind-other semicolon close_brace t.kind is refl in
    let place : length read ≡ at = length-take-le at tokens (omega arith) in
    let done = ended_by s.done s.first (at - s.first) in
    let behind = step_at tokens at d s.frames s.done s.first (going s.frames done (at + 1)) below s.standing (step-semicolon at s.frames s.done s.first t is) in
    inl (
      stands-more tokens at d s.frames done (at + 1) below behind (s.count ∙ sym (braces_behind-other (open_braces read) t n_open n_close))
          (omega (arith, place, head_start-delimiter read t (semicolon_delimiters t is))) (AreLast-on s.frames tokens at (omega (arith, s.count)) s.places),
      refusal_at-other read t n_open n_close,
    )

-- at a `{`
pub meets-open : (tokens : List Token) (at : ℕ) (d : Token) → Stands tokens at → at < length tokens
    → is_sign open_brace (get_or tokens at d) ≡ true
    → Meets tokens at (get_or tokens at d)
meets-open tokens at d s below is =
    let read = take at tokens in
    let t = get_or tokens at d in
    let n_close : is_sign close_brace t ≡ false = is_kind-other open_brace close_brace t.kind is refl in
    let place : length read ≡ at = length-take-le at tokens (omega arith) in
    elim (cases_Bool (open_braces read == most_levels)) [
      | inl full ↦
          let many : length s.frames ≡ most_levels = s.count ∙ eqb-true (open_braces read) most_levels full in
          inr (
            TooDeep at,
            cond-true (is_sign open_brace t && open_braces read == most_levels) (Some (TooDeep (length read))) (cond (is_sign close_brace t) (refusal_at_close read) None)
                (and_from (is_sign open_brace t) (open_braces read == most_levels) is full)
                ∙ ap (λ n. Some (TooDeep n)) place,
            step_at tokens at d s.frames s.done s.first (failed (TooDeep at)) below s.standing (step-deep at s.frames s.done s.first t is many),
          )
      | inr fewer ↦
          let most = few_frames s.frames s.done s.first read s.standing in
          let few : length s.frames < most_levels = omega (arith, s.count, most, eqb-false (open_braces read) most_levels fewer) in
          let f : Frame = record { before = s.done; first = s.first; count = at - s.first } in
          let behind = step_at tokens at d s.frames s.done s.first (going (f ∷ s.frames) end (at + 1)) below s.standing (step-open at s.frames s.done s.first t is few) in
          let so_many : open_braces read + 1 ≡ suc (length s.frames) = omega (arith, s.count) in
          let last = last_opening-at (suc (length s.frames)) tokens at d below is so_many in
          let within = standing_within s.frames s.done s.first read s.standing in
          let brace : s.first + (at - s.first) ≡ at = omega arith in
          inl (
            stands-more tokens at d (f ∷ s.frames) end (at + 1) below behind
                (sym so_many ∙ sym (cond-true (is_sign open_brace t) (open_braces read + 1) (cond (is_sign close_brace t) (open_braces read - 1) (open_braces read)) is))
                (omega (arith, place, head_start-delimiter read t (brace_delimiters t is))) (brace ∙ sym last, AreLast-on s.frames tokens at (omega (arith, s.count)) s.places),
            refusal_at-fewer read t (and_right (is_sign open_brace t) (open_braces read == most_levels) fewer)
                ∙ cond-false (is_sign close_brace t) (refusal_at_close read) None n_close,
          )
    ]

-- a `}` is a delimiter
pub close_delimiters : (t : Token) → is_sign close_brace t ≡ true → is_delimiter t ≡ true
close_delimiters t is = or_right (is_sign semicolon t || is_sign open_brace t) (is_sign close_brace t) is

-- at a `}`, by the blocks that are open
pub meets-close : (tokens : List Token) (at : ℕ) (d : Token) (frames : List Frame) (done : Trees) (first : ℕ)
    → at < length tokens
    → is_sign close_brace (get_or tokens at d) ≡ true → Standing frames done first (take at tokens)
    → length frames ≡ open_braces (take at tokens)
    → first ≡ head_start (take at tokens) → AreLast frames tokens at
    → Meets tokens at (get_or tokens at d)
meets-close tokens at d [] done first below is s count head places =
    let read = take at tokens in
    let t = get_or tokens at d in
    let place : length read ≡ at = length-take-le at tokens (omega arith) in
    inr (
      StrayClose at,
      refusal_at-close read t is
          ∙ (cond-true (open_braces read == 0) (Some (StrayClose (length read))) (unfinished read) (eq-eqb (open_braces read) 0 (sym count))
          ∙ ap (λ n. Some (StrayClose n)) place),
      step_at tokens at d [] done first (failed (StrayClose at)) below s (step-close at [] done first t is),
    )
meets-close tokens at d (f ∷ fs) done first below is s count head places =
    let read = take at tokens in
    let t = get_or tokens at d in
    let place : length read ≡ at = length-take-le at tokens (omega arith) in
    let within = standing_within (f ∷ fs) done first read s in
    let n_open : is_sign open_brace t ≡ false = is_kind-other close_brace open_brace t.kind is refl in
    let some : refusal_at read t ≡ unfinished read =
    refusal_at-close read t is
    ∙ cond-false (open_braces read == 0) (Some (StrayClose (length read))) (unfinished read) (ne_eqb (open_braces read) 0 (λ e. omega (arith, e, count))) in
    elim (cases_lt first (length read)) [
      | inl less ↦
          inr (
            OpenStatement first,
            some ∙ unfinished-some read first head less,
            step_at tokens at d (f ∷ fs) done first (failed (OpenStatement first)) below s
                (step-close at (f ∷ fs) done first t is ∙ closed-open at f fs done first (omega arith)),
          )
      | inr all ↦
          let outside = join f.before (block f.first f.count done end) in
          let behind = step_at tokens at d (f ∷ fs) done first (going fs outside (at + 1)) below s
          (step-close at (f ∷ fs) done first t is ∙ closed-done at f fs done first (omega arith)) in
          let fewer : braces_behind (open_braces read) t ≡ open_braces read - 1 =
          cond-false (is_sign open_brace t) (open_braces read + 1) (cond (is_sign close_brace t) (open_braces read - 1) (open_braces read)) n_open
          ∙ cond-true (is_sign close_brace t) (open_braces read - 1) (open_braces read) is in
          inl (
            stands-more tokens at d fs outside (at + 1) below behind (omega (arith, count, fewer)) (omega (arith, place, head_start-delimiter read t (close_delimiters t is)))
                (AreLast-on fs tokens at (omega (arith, count)) places.1),
            some ∙ unfinished-none read first head all,
          )
    ]

-- at any token
pub meets : (tokens : List Token) (at : ℕ) (d : Token) → Stands tokens at → at < length tokens
    → Meets tokens at (get_or tokens at d)
meets tokens at d s below =
    let t = get_or tokens at d in
    elim (cases_Bool (is_sign semicolon t)) [
      | inl is ↦ meets-semicolon tokens at d s below is
      | inr n_end ↦
          elim (cases_Bool (is_sign open_brace t)) [
            | inl is ↦ meets-open tokens at d s below is
            | inr n_open ↦
                elim (cases_Bool (is_sign close_brace t)) [
                  | inl is ↦ meets-close tokens at d s.frames s.done s.first below is s.standing s.count s.head s.places
                  | inr n_close ↦
                      meets-head tokens at d s below
                      (or_from (is_sign semicolon t || is_sign open_brace t) (is_sign close_brace t) (or_from (is_sign semicolon t) (is_sign open_brace t) n_end n_open) n_close)
                ]
          ]
    ]

-- a token that is not refused goes on
pub goes_on : (tokens : List Token) (at : ℕ) (d : Token) → Stands tokens at → at < length tokens
    → None ≡ refusal_at (take at tokens) (get_or tokens at d)
    → Stands tokens (at + 1)
goes_on tokens at d s below none =
    elim (meets tokens at d s below) [
      | inl g ↦ g.0
      | inr r ↦
          let clash : ◌≡◌ {A = Option TreeFault} None (Some r.0) = none ∙ r.1 in
          absurd (cc)
    ]

-- a token that is refused is the fault
pub is_refused : (tokens : List Token) (at : ℕ) (d : Token) (fault : TreeFault) → Stands tokens at
    → at < length tokens
    → Some fault ≡ refusal_at (take at tokens) (get_or tokens at d) → IsFault tokens fault
is_refused tokens at d fault s below is =
    elim (meets tokens at d s below) [
      | inl g ↦
          let clash : ◌≡◌ {A = Option TreeFault} (Some fault) None = is ∙ g.1 in
          absurd (cc)
      | inr r ↦
          let both : ◌≡◌ {A = Option TreeFault} (Some r.0) (Some fault) = sym (is ∙ r.1) in
          let same : r.0 ≡ fault = cc in
          subst (IsFault tokens) same r.2
    ]

-- what the end of the tokens does: it is refused, or there is no fault
abbrev pub MeetsEnd : List Token → Type 0
MeetsEnd tokens =
    ((fault : TreeFault) × (refusal_at_end tokens ≡ Some fault) × IsFault tokens fault)
    ⊎ ((refusal_at_end tokens ≡ None) × ((fault : TreeFault) → IsFault tokens fault → ⊥))

-- statements have no fault
pub no_fault : (tokens : List Token) (done : Trees) (first : ℕ) → Standing [] done first tokens
    → first ≡ length tokens → (fault : TreeFault)
    → IsFault tokens fault → ⊥
no_fault tokens done first s all fault f =
    let answer = outcome_says tokens (going [] done first) s in
    let parses : Parses tokens done = subst (IsAnswer tokens) (cond-true (first == length tokens) (Ok done) (Err (OpenStatement first)) (eq-eqb first (length tokens) all)) answer in
    let clash : ◌≡◌ {A = Result Trees TreeFault} (Ok done) (Err fault) = sym (forest_is_found tokens done parses) ∙ fault_is_found tokens fault f in
    cc

-- at the end, by the blocks that are open
pub meets-end : (tokens : List Token) (frames : List Frame) (done : Trees) (first : ℕ)
    → Standing frames done first tokens → length frames ≡ open_braces tokens
    → first ≡ head_start tokens → AreLast frames tokens (length tokens) → MeetsEnd tokens
meets-end tokens [] done first s count head places =
    let deepest = Some (OpenBlock (last_opening (open_braces tokens) tokens (length tokens))) in
    let none : refusal_at_end tokens ≡ unfinished tokens =
    cond-false (nat_lt 0 (open_braces tokens)) deepest (unfinished tokens) (le-ltb 0 (open_braces tokens) (omega (arith, count))) in
    let within = standing_within [] done first tokens s in
    elim (cases_lt first (length tokens)) [
      | inl less ↦ inl (OpenStatement first, none ∙ unfinished-some tokens first head less, inr (less, (done, s)))
      | inr all ↦ inr (none ∙ unfinished-none tokens first head all, no_fault tokens done first s (omega arith))
    ]
meets-end tokens (f ∷ fs) done first s count head places =
    let deepest = Some (OpenBlock (last_opening (open_braces tokens) tokens (length tokens))) in
    let place : last_opening (open_braces tokens) tokens (length tokens) ≡ brace_of f =
    ap (λ n. last_opening n tokens (length tokens)) (sym count) ∙ sym places.0 in
    inl (
      OpenBlock (brace_of f),
      cond-true (nat_lt 0 (open_braces tokens)) deepest (unfinished tokens) (lt-ltb 0 (open_braces tokens) (omega (arith, count)))
          ∙ ap (λ n. Some (OpenBlock n)) place,
      outcome_says tokens (going (f ∷ fs) done first) s,
    )

-- at the end
pub ends : (tokens : List Token) → Stands tokens (length tokens) → MeetsEnd tokens
ends tokens s =
    let all : take (length tokens) tokens ≡ tokens = take_all (length tokens) tokens (omega arith) in
    meets-end tokens s.frames s.done s.first (subst (Standing s.frames s.done s.first) all s.standing) (s.count ∙ ap open_braces all) (s.head ∙ ap head_start all) s.places

-- what is found at the end is the fault
pub found_is : (tokens : List Token) (found : Option TreeFault) → Stands tokens (length tokens)
    → found ≡ refusal_at_end tokens
    → IfSome found (λ fault. IsFault tokens fault)
found_is tokens None s is = tt
found_is tokens (Some fault) s is =
    elim (ends tokens s) [
      | inl r ↦
          let both : ◌≡◌ {A = Option TreeFault} (Some r.0) (Some fault) = sym (is ∙ r.1) in
          let same : r.0 ≡ fault = cc in
          subst (IsFault tokens) same r.2
      | inr g ↦
          let clash : ◌≡◌ {A = Option TreeFault} (Some fault) None = is ∙ g.0 in
          absurd (cc)
    ]

-- where nothing is found, there is no fault
pub none_is : (tokens : List Token) (found : Option TreeFault) → Stands tokens (length tokens)
    → found ≡ refusal_at_end tokens
    → IfNone found ((fault : TreeFault) → IsFault tokens fault → ⊥)
none_is tokens None s is =
    elim (ends tokens s) [
      | inl r ↦
          let clash : ◌≡◌ {A = Option TreeFault} None (Some r.0) = is ∙ r.1 in
          absurd (cc)
      | inr g ↦ g.1
    ]
none_is tokens (Some fault) s is = tt
