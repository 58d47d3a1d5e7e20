-- What the definitions say of tokens is what the code's run finds.
use Rattle.std.proofs.Common.{◌≡◌, ℕ, suc, ◌+◌, ◌-◌, ◌≤◌, ◌<◌, true, List, [], ◌∷◌, ◌++◌, length, map, Ok, Err, refl, sym, ap, ◌∙◌, inl, inr, arith, eq-eqb, ne_eqb, length-append}
use Rattle.std.specs.Prelude.{◌==◌}
use Rattle.std.proofs.lemmas.Bool.{cond-true, cond-false}
use Rattle.std.proofs.lemmas.List.{length-map}
use Rattle.stil_lex.specs.declared.token.Token.{Token}
use Rattle.stil_tree.specs.Signs.{close_brace, is_sign}
use Rattle.stil_tree.specs.Trees.{Trees, end}
use Rattle.stil_tree.specs.Grammar.{most_levels, Parses}
use Rattle.stil_tree.specs.Faults.{IsLevel, EndsInside, IsFault}
use Rattle.stil_tree.specs.Step.{Frame, State, going, failed, closed, step, run, outcome, brace_of, forest_of}
use Rattle.stil_tree.specs.declared.fault.TreeFault.{TreeFault}
use Rattle.stil_tree.specs.declared.fault.TreeFault.TheVariants.{NoMemory, OpenBlock, OpenStatement, StrayClose, TooDeep}
use Rattle.stil_tree.proofs.Steps.{step-open, step-deep, step-close, closed-open}
use Rattle.stil_tree.proofs.Runs.{run-append, run-failed, run-head, run-parses}

-- the run behind tokens that end inside some blocks
pub record IsReached (braces : List ℕ) (first : ℕ) (tokens : List Token) : Type 0 where
  pub frames : List Frame
  pub done : Trees
  pub is : run 0 (going [] end 0) tokens ≡ going frames done first
  pub places : map brace_of frames ≡ braces

-- the tokens of a level are run to its statements and its head
pub run-level : (frames : List Frame) (depth from : ℕ) (found : Trees) (first : ℕ) (tokens : List Token)
    → IsLevel depth from found first tokens → depth ≡ length frames
    → run from (going frames end from) tokens ≡ going frames found first
run-level frames depth from found first tokens l same =
    ap (run from (going frames end from)) l.spelled
    ∙ (run-append from (going frames end from) l.front l.head
    ∙ (ap (λ s. run (from + length l.front) s l.head) (run-parses frames l.parses same end)
    ∙ (run-head (from + length l.front) frames found (from + length l.front) l.head l.are_head
    ∙ ap (going frames found) (sym l.begins))))

-- a head begins within the tokens
pub level_within : (depth from : ℕ) (found : Trees) (first : ℕ) (tokens : List Token) → IsLevel depth from found first tokens → first ≤ from + length tokens
level_within depth from found first tokens l = omega (arith, l.begins, ap length l.spelled, length-append l.front l.head)

pub ends_within : (braces : List ℕ) (first : ℕ) (tokens : List Token) → EndsInside braces first tokens → first ≤ length tokens
ends_within [] first tokens e = omega (arith, level_within 0 0 e.0 first tokens e.1)
ends_within (brace ∷ braces) first tokens e =
    let b = e.1 in
    omega (arith, level_within (suc (length braces)) (brace + 1) b.done first b.inner b.level, b.place, ap length b.spelled, length-append b.outer (b.brace_token ∷ b.inner))

-- tokens that end inside some blocks are run to these blocks
pub is_reached : (braces : List ℕ) (first : ℕ) (tokens : List Token) → EndsInside braces first tokens → IsReached braces first tokens
is_reached [] first tokens e = record { frames = []; done = e.0; is = run-level [] 0 0 e.0 first tokens e.1 refl; places = refl }
is_reached (brace ∷ braces) first tokens e =
    let b = e.1 in
    let r = is_reached braces b.outer_first b.outer b.outside in
    let at = length b.outer in
    let f : Frame = record { before = r.done; first = b.outer_first; count = at - b.outer_first } in
    let count : length r.frames ≡ length braces = sym (length-map r.frames brace_of) ∙ ap length r.places in
    let few : length r.frames < most_levels = rw count e.0 in
    let deep : suc (length braces) ≡ length (f ∷ r.frames) = ap suc (sym count) in
    record {
      frames = f ∷ r.frames;
      done = b.done;
      is =
          ap (run 0 (going [] end 0)) b.spelled
          ∙ (run-append 0 (going [] end 0) b.outer (b.brace_token ∷ b.inner)
          ∙ (ap (λ s. run (0 + at) s (b.brace_token ∷ b.inner)) r.is
          ∙ (ap (λ n. run n (going r.frames r.done b.outer_first) (b.brace_token ∷ b.inner)) (omega arith)
          ∙ (ap (λ s. run (at + 1) s b.inner) (step-open at r.frames r.done b.outer_first b.brace_token b.opens few)
          ∙ (ap (λ n. run (n + 1) (going (f ∷ r.frames) end (n + 1)) b.inner) (sym b.place)
          ∙ run-level (f ∷ r.frames) (suc (length braces)) (brace + 1) b.done first b.inner b.level deep)))));
      places =
          let opened : b.outer_first + (at - b.outer_first) ≡ brace = omega (arith, ends_within braces b.outer_first b.outer b.outside, b.place) in
          cc (r.places, opened);
    }

-- a run over a sign that is met at a place
pub run-met : (s : State) (front : List Token) (sign : Token) (back : List Token) (frames : List Frame) (done : Trees) (first : ℕ)
    → run 0 s front ≡ going frames done first
    → run 0 s (front ++ sign ∷ back) ≡ run (length front + 1) (step (length front) frames done first sign) back
run-met s front sign back frames done first is =
    run-append 0 s front (sign ∷ back)
    ∙ (ap (λ r. run (0 + length front) r (sign ∷ back)) is
    ∙ ap (λ n. run n (going frames done first) (sign ∷ back)) (omega arith))

-- where the step at that sign is a fault, the answer is
pub met-failed : (tokens front : List Token) (sign : Token) (back : List Token) (frames : List Frame) (done : Trees) (first : ℕ) (fault : TreeFault)
    → tokens ≡ front ++ sign ∷ back → run 0 (going [] end 0) front ≡ going frames done first → step (length front) frames done first sign ≡ failed fault
    → forest_of tokens ≡ Err fault
met-failed tokens front sign back frames done first fault spelled is fails =
    ap (outcome (length tokens)) (
    ap (run 0 (going [] end 0)) spelled
    ∙ (run-met (going [] end 0) front sign back frames done first is
    ∙ (ap (λ s. run (length front + 1) s back) fails ∙ run-failed (length front + 1) fault back)))

-- no blocks, no frames
pub no_frames : (frames : List Frame) → map brace_of frames ≡ [] → frames ≡ []
no_frames [] e = refl
no_frames (f ∷ fs) e = cc

-- a block is open, so there is a frame
pub record FirstFrame (brace : ℕ) (frames : List Frame) : Type 0 where
  pub frame : Frame
  pub others : List Frame
  pub are : frames ≡ frame ∷ others
  pub place : brace_of frame ≡ brace

pub first_frame : (brace : ℕ) (braces : List ℕ) (frames : List Frame) → map brace_of frames ≡ brace ∷ braces → FirstFrame brace frames
first_frame brace braces [] e = absurd (omega (arith, ap length e))
first_frame brace braces (f ∷ fs) e =
    let place : brace_of f ≡ brace = cc in
    record { frame = f; others = fs; are = refl; place = place }

-- an unfinished head at a `}` inside a block is answered
pub open_statement_inside : (tokens : List Token) (first brace : ℕ) (braces : List ℕ) (front : List Token) (sign : Token) (back : List Token)
    → tokens ≡ front ++ sign ∷ back → is_sign close_brace sign ≡ true → first < length front
    → EndsInside (brace ∷ braces) first front → forest_of tokens ≡ Err (OpenStatement first)
open_statement_inside tokens first brace braces front sign back spelled is less e =
    let r = is_reached (brace ∷ braces) first front e in
    let f = first_frame brace braces r.frames r.places in
    met-failed tokens front sign back r.frames r.done first (OpenStatement first) spelled r.is
    (step-close (length front) r.frames r.done first sign is
    ∙ (ap (λ fs. closed (length front) fs r.done first) f.are ∙ closed-open (length front) f.frame f.others r.done first less))

-- the fault of the tokens is what is answered
pub fault_is_found : (tokens : List Token) (fault : TreeFault) → IsFault tokens fault → forest_of tokens ≡ Err fault
fault_is_found tokens NoMemory f = absurd f
fault_is_found tokens (OpenBlock brace) f =
    let r = is_reached (brace ∷ f.0) f.1 tokens f.2 in
    let g = first_frame brace f.0 r.frames r.places in
    ap (outcome (length tokens)) (r.is ∙ ap (λ fs. going fs r.done f.1) g.are) ∙ ap (λ n. Err (OpenBlock n)) g.place
fault_is_found tokens (OpenStatement first) (inl (place, m)) =
    open_statement_inside tokens first m.before.1.0 m.before.1.1 m.front m.sign m.back m.spelled m.is_it m.before.0 m.before.1.2
fault_is_found tokens (OpenStatement first) (inr (less, e)) =
    let r = is_reached [] first tokens e in
    ap (outcome (length tokens)) (r.is ∙ ap (λ fs. going fs r.done first) (no_frames r.frames r.places))
    ∙ cond-false (first == length tokens) (Ok r.done) (Err (OpenStatement first)) (ne_eqb first (length tokens) (λ same. omega (arith, same, less)))
fault_is_found tokens (StrayClose place) m =
    let r = is_reached [] m.before.0 m.front m.before.1 in
    met-failed tokens m.front m.sign m.back r.frames r.done m.before.0 (StrayClose place) m.spelled r.is
    (step-close (length m.front) r.frames r.done m.before.0 m.sign m.is_it
    ∙ (ap (λ fs. closed (length m.front) fs r.done m.before.0) (no_frames r.frames r.places) ∙ ap (λ n. failed (StrayClose n)) (sym m.is_place)))
fault_is_found tokens (TooDeep place) m =
    let b = m.before in
    let r = is_reached b.0 b.1 m.front b.3 in
    let many : length r.frames ≡ most_levels = sym (length-map r.frames brace_of) ∙ (ap length r.places ∙ b.2) in
    met-failed tokens m.front m.sign m.back r.frames r.done b.1 (TooDeep place) m.spelled r.is
    (step-deep (length m.front) r.frames r.done b.1 m.sign m.is_it many ∙ ap (λ n. failed (TooDeep n)) (sym m.is_place))

-- the statements of the tokens are what is answered
pub forest_is_found : (tokens : List Token) (forest : Trees) → Parses tokens forest → forest_of tokens ≡ Ok forest
forest_is_found tokens forest p =
    ap (outcome (length tokens)) (run-parses [] p refl end)
    ∙ cond-true (0 + length tokens == length tokens) (Ok forest) (Err (OpenStatement (0 + length tokens))) (eq-eqb (0 + length tokens) (length tokens) (omega arith))
