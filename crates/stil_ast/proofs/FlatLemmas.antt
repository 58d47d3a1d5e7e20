-- The flat tree of a pattern has the pattern's run.
use Rattle.std.proofs.Common.{◌≡◌, ℕ, zero, suc, Bool, true, ◌&&◌, List, Option, Some, None, refl, ap, sym, subst, ◌∙◌, length, slice_get}
use Rattle.std.proofs.lemmas.Bool.{and_parts}
use Rattle.stil_ast.specs.Meaning.State.{State}
use Rattle.stil_ast.specs.Data.Places.{Origin}
use Rattle.stil_ast.specs.Meaning.Statements.{Statements, finish, place, wave, vector, condition, loop, expand, call, shift, stop}
use Rattle.stil_ast.specs.Meaning.Arguments.{Argument, arguments}
use Rattle.stil_ast.specs.Meaning.Dealing.{deal, takers, mark_of}
use Rattle.stil_ast.specs.Meaning.Shift.{taking, passes, columns}
use Rattle.stil_ast.specs.Meaning.Running.{Setting, Ran, Here, still, behind, then_run, times, at_place, at_table, pass_at, after, make, in_macro, from_macro, in_call, from_call, in_shift, from_shift, run_list, run, calls, outside}
use Rattle.stil_ast.specs.Meaning.Flat.{Flat, done, cycle, saved, flat_run}
use Rattle.stil_ast.specs.Meaning.Flattening.{Spot, Piece, then_piece, pieces, with_args, pass_piece, gifts_piece, cycle_piece, repeat_piece, macro_piece, call_piece, shift_piece, flat_list, flat_calls, flat_of}
use Rattle.stil_ast.specs.Meaning.Laws.{is_steady, steady_loops, with_state, bodies_pass, steady_within, is_steady_pattern}
use Rattle.stil_ast.proofs.FlatSteps.{flat_run-joined, gifts_front-run, then_run-still, steady-same}

-- the place of a run in the text
abbrev spot_of : Here → Spot
spot_of h = record { args = h.args; place = h.place }

-- a piece agrees with a run from a state, with the base of the innermost save
record Agrees (p : Piece) (r : Ran Here) (base s : State) : Type 0 where
  runs : flat_run p.flat base s ≡ with_state r
  spot : p.spot ≡ spot_of r.here
  held : r.here.held ≡ base

-- pieces that agree, of which the first leads to where the second begins
agrees_then : (p : Piece) (r : Ran Here) (f : Spot → Piece) (g : Here → Ran Here) (base s : State)
    → Agrees p r base s → ((h : Here) → h.held ≡ base → Agrees (f (spot_of h)) (g h) base h.state)
    → Agrees (then_piece p f) (then_run r g) base s
agrees_then p r f g base s first next =
    let later = next r.here first.held in
    record {
      runs =
          flat_run-joined p.flat (f p.spot).flat base s
          ∙ (ap (λ (x : Ran State). then_run x (flat_run (f p.spot).flat base)) first.runs
          ∙ (ap (λ (spot : Spot). behind r.made (flat_run (f spot).flat base r.here.state)) first.spot
          ∙ ap (behind r.made) later.runs));
      spot = ap (λ (spot : Spot). (f spot).spot) first.spot ∙ later.spot;
      held = later.held;
    }

at_base : (p : Piece) (r : Ran Here) (base other s : State) → base ≡ other → Agrees p r base s
    → Agrees p r other s
at_base p r base other s e a = subst (λ (b : State). Agrees p r b s) e a

-- passes of a body that agrees and leaves the arguments as they are
record TimesAgree (flat : Flat) (begun : Spot) (r : Ran Here) (n : ℕ) (base s : State) : Type 0 where
  runs : times n (flat_run flat base) s ≡ with_state r
  spot : spot_of r.here ≡ begun
  held : r.here.held ≡ base

times_agree : (f : Spot → Piece) (g : Here → Ran Here) (base : State) (spot : Spot)
    → ((h : Here) → h.held ≡ base → Agrees (f (spot_of h)) (g h) base h.state)
    → (f spot).spot.args ≡ spot.args → (n : ℕ) (h : Here) → h.held ≡ base → spot_of h ≡ spot
    → TimesAgree (f spot).flat spot (times n (pass_at spot.place g) h) n base h.state
times_agree f g base spot agree steady zero h held e = record { runs = refl; spot = e; held = held }
times_agree f g base spot agree steady (suc n) h held e =
    let one = agree h held in
    let now = at_place spot.place (g h).here in
    let args : (g h).here.args ≡ spot.args = ap (λ (x : Spot). x.args) (sym one.spot) ∙ (ap (λ (x : Spot). (f x).spot.args) e ∙ steady) in
    let there : spot_of now ≡ spot = ap (λ (args : List Argument). with_args spot args) args in
    let later = times_agree f g base spot agree steady n now one.held there in
    record {
      runs =
          ap (λ (x : Spot). then_run (flat_run (f x).flat base h.state) (times n (flat_run (f spot).flat base))) (sym e)
          ∙ (ap (λ (x : Ran State). then_run x (times n (flat_run (f spot).flat base))) one.runs
          ∙ ap (behind (g h).made) later.runs);
      spot = later.spot;
      held = later.held;
    }

-- passes of a Shift
pieces_agree : (p : Origin) (f : Spot → Piece) (g : Here → Ran Here) (base : State)
    → ((h : Here) → h.held ≡ base → Agrees (f (spot_of h)) (g h) base h.state) → (n : ℕ) (h : Here)
    → h.held ≡ base
    → Agrees (pieces n (pass_piece p f) (spot_of h)) (times n (pass_at p g) h) base h.state
pieces_agree p f g base agree zero h held = record { runs = refl; spot = refl; held = held }
pieces_agree p f g base agree (suc n) h held =
    let one = agree h held in
    agrees_then (pass_piece p f (spot_of h)) (pass_at p g h) (pieces n (pass_piece p f)) (times n (pass_at p g)) base h.state
    (record { runs = one.runs; spot = ap (λ (x : Spot). record { args = x.args; place = p }) one.spot; held = one.held })
    (pieces_agree p f g base agree n)

module _ (t : Setting) where
  list_agrees : (test : Option Statements → Bool) (f : Option Statements → Spot → Piece) (g : Option Statements → Here → Ran Here)
      → ((o : Option Statements) (h : Here) → test o ≡ true → Agrees (f o (spot_of h)) (g o h) h.held h.state)
      → (s : Statements) → steady_loops s ≡ true → bodies_pass t test s ≡ true → (h : Here)
      → Agrees (flat_list t f s (spot_of h)) (run_list t g s h) h.held h.state
  list_agrees test f g inner finish e pass h = record { runs = refl; spot = refl; held = refl }
  list_agrees test f g inner (place p rest) e pass h = list_agrees test f g inner rest e pass (at_place p h)
  list_agrees test f g inner (wave tab rest) e pass h =
      let later = list_agrees test f g inner rest e pass (at_table tab h) in
      record { runs = later.runs; spot = later.spot; held = later.held }
  list_agrees test f g inner (vector assigns rest) e pass h =
      let d = deal assigns h.args in
      agrees_then (cycle_piece t assigns d (spot_of h)) (make t assigns (after assigns h)) (flat_list t f rest) (run_list t g rest) h.held h.state
      (record { runs = gifts_front-run d.gifts (cycle (mark_of t.scan_outs (takers assigns) d.args) h.place done) h.held h.state; spot = refl; held = refl })
      (λ now same. at_base (flat_list t f rest (spot_of now)) (run_list t g rest now) now.held h.held now.state same (list_agrees test f g inner rest e pass now))
  list_agrees test f g inner (condition assigns rest) e pass h =
      let d = deal assigns h.args in
      agrees_then (gifts_piece d (spot_of h)) (still (after assigns h)) (flat_list t f rest) (run_list t g rest) h.held h.state
      (record { runs = gifts_front-run d.gifts done h.held h.state; spot = refl; held = refl })
      (λ now same. at_base (flat_list t f rest (spot_of now)) (run_list t g rest now) now.held h.held now.state same (list_agrees test f g inner rest e pass now))
  list_agrees test f g inner (loop count body rest) e pass h =
      let parts = and_parts (is_steady body && steady_loops body) (steady_loops rest) e in
      let fits = and_parts (is_steady body) (steady_loops body) parts.0 in
      let passing = and_parts (bodies_pass t test body) (bodies_pass t test rest) pass in
      let all = times_agree (flat_list t f body) (run_list t g body) h.held (spot_of h)
      (λ now same. at_base (flat_list t f body (spot_of now)) (run_list t g body now) now.held h.held now.state same (list_agrees test f g inner body fits.1 passing.0 now))
      (steady-same t f body fits.0 (spot_of h)) count h refl refl in
      agrees_then (repeat_piece count (spot_of h) (flat_list t f body (spot_of h))) (times count (pass_at h.place (run_list t g body)) h) (flat_list t f rest) (run_list t g rest) h.held h.state
      (record { runs = then_run-still (times count (flat_run (flat_list t f body (spot_of h)).flat h.held) h.state) ∙ all.runs; spot = sym all.spot; held = all.held })
      (λ now same. at_base (flat_list t f rest (spot_of now)) (run_list t g rest now) now.held h.held now.state same (list_agrees test f g inner rest parts.1 passing.1 now))
  list_agrees test f g inner (expand body assigns rest) e pass h =
      let o = slice_get t.macros body in
      let passing = and_parts (test o) (bodies_pass t test rest) pass in
      let inside = inner o (in_macro t assigns h) passing.0 in
      agrees_then (macro_piece (spot_of h) (f o (with_args (spot_of h) (arguments (length t.outs) assigns)))) (from_macro h (g o (in_macro t assigns h))) (flat_list t f rest) (run_list t g rest) h.held h.state
      (record { runs = inside.runs; spot = ap (λ (x : Spot). with_args x h.args) inside.spot; held = refl })
      (λ now same. at_base (flat_list t f rest (spot_of now)) (run_list t g rest now) now.held h.held now.state same (list_agrees test f g inner rest e passing.1 now))
  list_agrees test f g inner (call body assigns rest) e pass h =
      let o = slice_get t.procedures body in
      let passing = and_parts (test o) (bodies_pass t test rest) pass in
      let piece = f o (with_args (spot_of h) (arguments (length t.outs) assigns)) in
      let inside = inner o (in_call t assigns h) passing.0 in
      agrees_then (call_piece (spot_of h) piece) (from_call h (g o (in_call t assigns h))) (flat_list t f rest) (run_list t g rest) h.held h.state
      (record { runs = then_run-still (saved true h.state (flat_run piece.flat h.state h.state)) ∙ ap (saved true h.state) inside.runs; spot = refl; held = refl })
      (λ now same. at_base (flat_list t f rest (spot_of now)) (run_list t g rest now) now.held h.held now.state same (list_agrees test f g inner rest e passing.1 now))
  list_agrees test f g inner (shift body rest) e pass h =
      let parts = and_parts (steady_loops body) (steady_loops rest) e in
      let passing = and_parts (bodies_pass t test body) (bodies_pass t test rest) pass in
      let count = passes (taking body) h.args in
      let piece = pieces count (pass_piece h.place (flat_list t f body)) (with_args (spot_of h) (columns t.outs (taking body) h.args)) in
      let inside = pieces_agree h.place (flat_list t f body) (run_list t g body) h.state
      (λ now same. at_base (flat_list t f body (spot_of now)) (run_list t g body now) now.held h.state now.state same (list_agrees test f g inner body parts.0 passing.0 now))
      count (in_shift t body h) refl in
      agrees_then (shift_piece (spot_of h) piece) (from_shift h (times count (pass_at h.place (run_list t g body)) (in_shift t body h))) (flat_list t f rest) (run_list t g rest) h.held h.state
      (record { runs = then_run-still (flat_run piece.flat h.state h.state) ∙ inside.runs; spot = ap (λ (x : Spot). with_args (spot_of h) x.args) inside.spot; held = refl })
      (λ now same. at_base (flat_list t f rest (spot_of now)) (run_list t g rest now) now.held h.held now.state same (list_agrees test f g inner rest parts.1 passing.1 now))
  list_agrees test f g inner (stop rest) e pass h = record { runs = refl; spot = refl; held = refl }

  calls_agree : (depth : ℕ) (o : Option Statements) (h : Here) → steady_within t depth o ≡ true
      → Agrees (flat_calls t depth o (spot_of h)) (calls t depth o h) h.held h.state
  unfolding calls flat_calls steady_within
  calls_agree zero o h e = record { runs = refl; spot = refl; held = refl }
  calls_agree (suc depth) None h e = record { runs = refl; spot = refl; held = refl }
  calls_agree (suc depth) (Some body) h e =
      let parts = and_parts (steady_loops body) (bodies_pass t (steady_within t depth) body) e in
      list_agrees (steady_within t depth) (flat_calls t depth) (calls t depth) (calls_agree depth) body parts.0 parts.1 h

pub flat_tree_agrees : (t : Setting) (statements : Statements) (s : State)
    → is_steady_pattern t statements ≡ true
    → flat_run (flat_of t statements) (outside s).held s ≡ with_state (run t statements (outside s))
flat_tree_agrees t statements s e =
    let parts = and_parts (steady_loops statements) (bodies_pass t (steady_within t 64) statements) e in
    (list_agrees t (steady_within t 64) (flat_calls t 64) (calls t 64) (calls_agree t 64) statements parts.0 parts.1 (outside s)).runs
