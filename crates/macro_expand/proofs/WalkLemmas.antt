-- Statements in order: what one of them does, and those behind it.
use Rattle.std.proofs.Common.{◌≡◌, ℕ, ◌+◌, true, List, Option, refl, ap, sym, ◌∙◌}
use Rattle.stil_ast.specs.Data.Places.{Titles, Body, Origin, of_pattern}
use Rattle.stil_ast.specs.Data.Written.{Written, no_more, single, looped, shifted}
use Rattle.stil_ast.specs.Meaning.Arguments.{Argument}
use Rattle.stil_ast.specs.Meaning.Flat.{Flat}
use Rattle.stil_ast.specs.Meaning.Flattening.{joined, Spot, Piece, then_piece, flat_list}
use Rattle.stil_ast.specs.Meaning.Resolved.{Scope, origin, resolved}
use Rattle.stil_ast.specs.Meaning.Running.{Setting}
use Rattle.stil_ast.specs.Meaning.Statements.{Statements}
use Rattle.stil_ast.specs.Faults.AssignmentFaults.{Walked, Checked, fine, then_check, Standing, fault_on, may_walk}
use Rattle.stil_ast.specs.Faults.PatternFaults.{one_more, counted, check_list}
use Rattle.stil_ast.specs.declared.body.Step.TheVariants.{Stop}
use Rattle.stil_ast.specs.declared.fault.StilKind.TheVariants.{TooLarge}
use Rattle.flat_tree.proofs.FlatLemmas.{joined-assoc}
use Rattle.answers.specs.declared.short.Short.TheVariants.{NoMemory, Fault}
use Rattle.macro_expand.specs.declared.walk.Walk.{Walk}
use Rattle.macro_expand.specs.Refusing.{IsAt, Trouble}
use Rattle.macro_expand.specs.Stepping.{Steps}
use Rattle.macro_expand.specs.Walking.{flat_at, IsWalking}
use Rattle.macro_expand.specs.Walks.{walked, then_kept}
use Rattle.macro_expand.proofs.PlaceLemmas.{not_ruled_out}

module _ (sc : Scope) (t : Setting) (f : Option Statements → Spot → Piece) where
  -- where statements begin makes no difference to their tree
  pub flat-anywhere : (b : Body) (x : Written) (args : List Argument) (p q : Origin)
      → (flat_list t f (resolved sc b x) (record { args = args; place = p })).flat
      ≡ (flat_list t f (resolved sc b x) (record { args = args; place = q })).flat
  flat-anywhere b no_more args p q = refl
  flat-anywhere b (single line plain rest) args p q = refl
  flat-anywhere b (looped line times body rest) args p q = refl
  flat-anywhere b (shifted line body rest) args p q = refl

  -- nor to what they leave
  pub args-anywhere : (b : Body) (x : Written) (args : List Argument) (p q : Origin)
      → (flat_list t f (resolved sc b x) (record { args = args; place = p })).spot.args
      ≡ (flat_list t f (resolved sc b x) (record { args = args; place = q })).spot.args
  args-anywhere b no_more args p q = refl
  args-anywhere b (single line plain rest) args p q = refl
  args-anywhere b (looped line times body rest) args p q = refl
  args-anywhere b (shifted line body rest) args p q = refl

module _ (sc : Scope) (t : Setting) (check : Standing → Written → Walked → Checked) (f : Option Statements → Spot → Piece) where
  module _ (s : Standing) (all : Written) (start : Walk) where
    -- a statement that is checked and written, where the check and the tree of it and of those behind it are its own, and
    -- then theirs
    pub walking_step : (step : Walked → Checked) (piece : Piece) (x rest : Written) (now after : Walk)
        → check_list sc check s x (walked now) ≡ then_check (step (walked now)) (check_list sc check s rest)
        → flat_at t f (resolved sc s.body x) now.args ≡ then_piece piece (flat_list t f (resolved sc s.body rest))
        → IsWalking sc t check f s all start x now → Steps step piece now after
        → IsWalking sc t check f s all start rest after
    walking_step step piece x rest now after checks flats before e =
        let next = flat_list t f (resolved sc s.body rest) in
        let there = origin of_pattern 0 in
        record {
          checked = ap (λ (c : Checked). then_check c (check_list sc check s rest)) (sym e.checked) ∙ sym checks ∙ before.checked;
          out = λ more.
              ap (λ (args : List Argument). then_kept after.out (joined (flat_at t f (resolved sc s.body rest) args).flat more)) e.args
              ∙ ap (λ (flat : Flat). then_kept after.out (joined flat more)) (flat-anywhere sc t f s.body rest piece.spot.args there piece.spot.place)
              ∙ e.out (joined (next piece.spot).flat more)
              ∙ ap (then_kept now.out) (sym (joined-assoc piece.flat (next piece.spot).flat more))
              ∙ ap (λ (p : Piece). then_kept now.out (joined p.flat more)) (sym flats)
              ∙ before.out more;
          args =
              ap (λ (args : List Argument). (flat_at t f (resolved sc s.body rest) args).spot.args) e.args
              ∙ args-anywhere sc t f s.body rest piece.spot.args there piece.spot.place
              ∙ ap (λ (p : Piece). p.spot.args) (sym flats) ∙ before.args;
        }

    -- a statement that has a fault
    pub walking_refused : (titles : Titles) (step : Walked → Checked) (x rest : Written) (now : Walk) (trouble : Trouble)
        → check_list sc check s x (walked now) ≡ then_check (step (walked now)) (check_list sc check s rest)
        → IsWalking sc t check f s all start x now → IsAt titles (step (walked now)) trouble
        → IsAt titles (check_list sc check s all (walked start)) trouble
    walking_refused titles step x rest now NoMemory checks before e = tt
    walking_refused titles step x rest now (Fault at) checks before e =
        sym before.checked ∙ checks ∙ ap (λ (c : Checked). then_check c (check_list sc check s rest)) e

    -- nothing behind a Stop is walked
    pub walking_stops : (line : ℕ) (rest : Written) (now after : Walk) → may_walk (now.count + 1) ≡ true
        → after ≡ record now { count = now.count + 1 } → IsWalking sc t check f s all start (single line Stop rest) now
        → Steps (check_list sc check s all) (flat_at t f (resolved sc s.body all) start.args) start after
    walking_stops line rest now after few is e =
        let counts : check_list sc check s (single line Stop rest) (walked now) ≡ fine (walked after)
        = not_ruled_out (may_walk (now.count + 1)) (fault_on sc s line TooLarge) (λ (w : Walked). fine (one_more w)) (walked now) few
        ∙ ap (λ (w : Walk). fine (walked w)) (sym is) in record {
          checked = sym e.checked ∙ counts;
          out = λ more. ap (λ (w : Walk). then_kept w.out more) is ∙ e.out more;
          args = ap (λ (w : Walk). w.args) is ∙ e.args;
        }

    -- a Stop past the limit
    pub walking_stop_refused : (titles : Titles) (line : ℕ) (rest : Written) (now : Walk) (trouble : Trouble)
        → IsWalking sc t check f s all start (single line Stop rest) now
        → IsAt titles (counted sc s line fine (walked now)) trouble
        → IsAt titles (check_list sc check s all (walked start)) trouble
    walking_stop_refused titles line rest now NoMemory before e = tt
    walking_stop_refused titles line rest now (Fault at) before e = sym before.checked ∙ e
