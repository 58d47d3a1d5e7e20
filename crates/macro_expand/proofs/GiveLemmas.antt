-- The arguments of a Macro or a Call in text order.
use Rattle.std.proofs.Common.{◌≡◌, ℕ, zero, suc, ◌+◌, ◌%◌, ◌&&◌, ◌||◌, Bool, true, false, List, [], ◌∷◌, ◌++◌, None, refl, ap, sym, ◌∙◌, arith, length, replicate, if◌then◌else◌}
use Rattle.std.specs.Prelude.{◌==◌}
use Rattle.std.specs.List.{list_all}
use Rattle.std.proofs.lemmas.Bool.{ne_eqb}
use Rattle.stil_ast.specs.Data.Items.{item_of, items_of, run_length}
use Rattle.stil_ast.specs.Data.Places.{Titles}
use Rattle.stil_ast.specs.Meaning.Arguments.{Argument, entries_of, dealt_out, with_arguments}
use Rattle.stil_ast.specs.Meaning.Dealing.{is_character}
use Rattle.stil_ast.specs.Meaning.Members.{members, reference_kind}
use Rattle.stil_ast.specs.Meaning.Resolved.{Scope, resolved_assign, resolved_assigns}
use Rattle.stil_ast.specs.Meaning.Statements.{Item}
use Rattle.stil_ast.specs.Faults.AssignmentFaults.{Walked, Checked, fine, refused, then_check, rule, Standing, fault_on, may_walk, argument_fits, walked_argument, check_argument, check_arguments}
use Rattle.stil_ast.specs.declared.body.Assignment.{Assignment}
use Rattle.stil_ast.specs.declared.data.ItemRun.{ItemRun}
use Rattle.stil_ast.specs.declared.fault.StilKind.TheVariants.{TooLarge, ShiftForm, Width}
use Rattle.stil_ast.proofs.ItemLemmas.{length-items_of}
use Rattle.answers.specs.declared.short.Short.TheVariants.{NoMemory, Fault}
use Rattle.macro_expand.specs.Giving.{has_characters, at_count, Gives, IsGiving}
use Rattle.macro_expand.specs.Refusing.{IsAt, Trouble}
use Rattle.macro_expand.proofs.AssignLemmas.{kind_passes}
use Rattle.macro_expand.proofs.PlaceLemmas.{ruled_out, not_ruled_out}

-- items that pass leave the answer to the rest
all_pass : (n : ℕ) (item : Item) (rest : List Item) → is_character item ≡ true
    → list_all is_character (replicate n item ++ rest) ≡ list_all is_character rest
all_pass zero item rest e = refl
all_pass (suc n) item rest e =
    ap (λ b. b && list_all is_character (replicate n item ++ rest)) e ∙ all_pass n item rest e

all_suc : (b x y z : Bool) → z ≡ false → (b ≡ true → x ≡ y) → (b && x) ≡ ((z || b) && y)
all_suc true x y false e h = h refl
all_suc false x y false e h = refl
all_suc true x y true e h = cc
all_suc false x y true e h = cc

all_replicate : (n : ℕ) (item : Item) (rest : List Item)
    → list_all is_character (replicate n item ++ rest) ≡ (((n == 0) || is_character item) && list_all is_character rest)
all_replicate zero item rest = refl
all_replicate (suc n) item rest =
    all_suc (is_character item) (list_all is_character (replicate n item ++ rest)) (list_all is_character rest) (suc n == 0)
    (ne_eqb (suc n) 0 (λ same. omega (arith, same))) (all_pass n item rest)

-- whether all items of runs are characters
pub all_characters : (runs : List ItemRun) → list_all is_character (items_of runs) ≡ list_all has_characters runs
all_characters [] = refl
all_characters (run ∷ runs) =
    all_replicate run.times (item_of run.item) (items_of runs) ∙ ap (λ b. has_characters run && b) (all_characters runs)

-- whether there is a whole number of them for each signal
pub argument_width : (signals : List ℕ) (runs : List ItemRun)
    → argument_fits (record { signals = signals; items = items_of runs })
    ≡ (if length signals == 0 then run_length runs == 0 else run_length runs % length signals == 0)
argument_width signals runs =
    ap (λ n. if length signals == 0 then n == 0 else n % length signals == 0) (length-items_of runs)

module _ (sc : Scope) (s : Standing) (d : Assignment) (runs : List ItemRun) (signals : List ℕ) (w : Walked)
    (items : d.items ≡ items_of runs) (known : reference_kind sc.names d.reference ≡ None)
    (are : signals ≡ members sc.names d.reference) where
  abbrev last_rule : Walked → Checked
  last_rule = rule (argument_fits (resolved_assign sc.names d)) (fault_on sc s d.line Width)
      (λ w. fine (walked_argument (resolved_assign sc.names d) w))

  abbrev form_rule : Walked → Checked
  form_rule = rule (list_all is_character d.items) (fault_on sc s d.line ShiftForm) last_rule

  abbrev limit : Bool
  limit = may_walk (w.count + length (resolved_assign sc.names d).signals)

  behind_kind : check_argument sc s d w ≡ rule limit (fault_on sc s d.line TooLarge) form_rule w
  behind_kind =
      kind_passes (reference_kind sc.names d.reference) (fault_on sc s d.line) (rule limit (fault_on sc s d.line TooLarge) form_rule) w known

  is_limit : may_walk (w.count + length signals) ≡ limit
  is_limit = ap (λ (xs : List ℕ). may_walk (w.count + length xs)) are

  is_form : list_all is_character d.items ≡ list_all has_characters runs
  is_form = ap (list_all is_character) items ∙ all_characters runs

  is_width : argument_fits (resolved_assign sc.names d)
      ≡ (if length signals == 0 then run_length runs == 0 else run_length runs % length signals == 0)
  is_width =
      ap (λ (xs : List ℕ). argument_fits (record { signals = xs; items = d.items })) (sym are)
      ∙ ap (λ (xs : List Item). argument_fits (record { signals = signals; items = xs })) items
      ∙ argument_width signals runs

  behind_limit : may_walk (w.count + length signals) ≡ true → check_argument sc s d w ≡ form_rule w
  behind_limit few = behind_kind ∙ not_ruled_out limit (fault_on sc s d.line TooLarge) form_rule w (sym is_limit ∙ few)

  pub argument_form : may_walk (w.count + length signals) ≡ true → list_all has_characters runs ≡ false
      → check_argument sc s d w ≡ refused (fault_on sc s d.line ShiftForm)
  argument_form few e =
      behind_limit few
      ∙ ruled_out (list_all is_character d.items) (fault_on sc s d.line ShiftForm) last_rule w (is_form ∙ e)

  behind_form : may_walk (w.count + length signals) ≡ true → list_all has_characters runs ≡ true
      → check_argument sc s d w ≡ last_rule w
  behind_form few e =
      behind_limit few
      ∙ not_ruled_out (list_all is_character d.items) (fault_on sc s d.line ShiftForm) last_rule w (is_form ∙ e)

  pub argument_short : may_walk (w.count + length signals) ≡ true → list_all has_characters runs ≡ true
      → (if length signals == 0 then run_length runs == 0 else run_length runs % length signals == 0) ≡ false
      → check_argument sc s d w ≡ refused (fault_on sc s d.line Width)
  argument_short few form e =
      behind_form few form
      ∙ ruled_out (argument_fits (resolved_assign sc.names d)) (fault_on sc s d.line Width) (λ w. fine (walked_argument (resolved_assign sc.names d) w)) w (is_width ∙ e)

  pub argument_given : may_walk (w.count + length signals) ≡ true → list_all has_characters runs ≡ true
      → (if length signals == 0 then run_length runs == 0 else run_length runs % length signals == 0) ≡ true
      → (given new_given : List Argument)
      → new_given ≡ dealt_out (entries_of (items_of runs)) (length signals) 0 signals given
      → Gives (check_argument sc s d) (resolved_assign sc.names d ∷ []) w.args w.hashes w.count (w.count + length signals) given new_given
  argument_given few form fits given new_given e = record {
    checked =
        behind_form few form
        ∙ not_ruled_out (argument_fits (resolved_assign sc.names d)) (fault_on sc s d.line Width) (λ w. fine (walked_argument (resolved_assign sc.names d) w)) w (is_width ∙ fits)
        ∙ ap (λ (xs : List ℕ). fine (at_count w.args w.hashes (w.count + length xs))) (sym are);
    given_now =
        e ∙ ap (λ (xs : List Item). dealt_out (entries_of xs) (length signals) 0 signals given) (sym items)
        ∙ ap (λ (xs : List ℕ). dealt_out (entries_of d.items) (length xs) 0 xs given) are;
  }

module _ (sc : Scope) (s : Standing) (args : List Argument) (hashes : List ℕ) (all : List Assignment) (start : ℕ) (given : List Argument) where
  -- one argument more
  pub giving_step : (d : Assignment) (left : List Assignment) (now after : ℕ) (given_now given_after : List Argument)
      → IsGiving sc s args hashes all start given (d ∷ left) now given_now
      → Gives (check_argument sc s d) (resolved_assign sc.names d ∷ []) args hashes now after given_now given_after
      → IsGiving sc s args hashes all start given left after given_after
  giving_step d left now after given_now given_after before e = record {
    checked = ap (λ (c : Checked). then_check c (check_arguments sc s left)) (sym e.checked) ∙ before.checked;
    gives = ap (with_arguments (resolved_assigns sc.names left)) e.given_now ∙ before.gives;
  }

  -- one that has a fault
  pub giving_refused : (titles : Titles) (d : Assignment) (left : List Assignment) (now : ℕ) (given_now : List Argument) (trouble : Trouble)
      → IsGiving sc s args hashes all start given (d ∷ left) now given_now
      → IsAt titles (check_argument sc s d (at_count args hashes now)) trouble
      → IsAt titles (check_arguments sc s all (at_count args hashes start)) trouble
  giving_refused titles d left now given_now NoMemory before e = tt
  giving_refused titles d left now given_now (Fault at) before e =
      sym before.checked ∙ ap (λ (c : Checked). then_check c (check_arguments sc s left)) e

  -- all of them
  pub giving_ends : (now : ℕ) (given_now : List Argument) → IsGiving sc s args hashes all start given [] now given_now
      → Gives (check_arguments sc s all) (resolved_assigns sc.names all) args hashes start now given given_now
  giving_ends now given_now e = record { checked = sym e.checked; given_now = e.gives }
