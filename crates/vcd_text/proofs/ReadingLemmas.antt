-- Each sound dump is read whole, and what is read whole is a sound dump.
use Rattle.std.proofs.Common.{◌≡◌, ℕ, ◌+◌, ◌<◌, ◌==◌, ◌&&◌, ◌||◌, true, List, [], ◌∷◌, ◌++◌, length, map, Option, Some, None, refl, sym, ap, ◌∙◌, subst, inl, inr, arith, append_assoc, rules}
use Rattle.std.specs.Prelude.{nat_lt, nat_le, unwrap_or}
use Rattle.std.specs.List.{AllByRecursion, flat_map}
use Rattle.std.specs.Option.{option_and_then}
use Rattle.std.proofs.lemmas.List.{append-nil}
use Rattle.std.proofs.lemmas.Bool.{and_from, cond-true, cases_Bool}
use Rattle.std.proofs.lemmas.Option.{cond_some}
use Rattle.tester_types.specs.declared.level.Drive.{Drive}
use Rattle.die_sim.specs.Socket.{Calls}
use Rattle.text_bytes.proofs.ListLemmas.{all_append}
use Rattle.text_bytes.specs.Limits.{most_signals}
use Rattle.vcd_text.specs.Dump.{Var, Line, upscope, definitions, at, line_of_var, line_of_drive, lines_of_call, head_of, lines_of}
use Rattle.vcd_text.specs.Sound.{Rises, IsVar, is_var, IsCall, IsSound}
use Rattle.vcd_text.specs.Standing.{Standing, begun, timed, naming, known, playing, calling, next_of, behind, behind_all, lines_at, pair_at, FitsLine}
use Rattle.vcd_text.proofs.RiseLemmas.{next_from, next_from-fold, next_from-push}
use Rattle.vcd_text.proofs.StandingLemmas.{FitsSoFar, goes_on, some_is}

-- ---- lines one after another

then_same : {X Y : Type 0} (o : Option X) (f g : X → Option Y) → ((x : X) → f x ≡ g x) → option_and_then f o ≡ option_and_then g o
then_same None f g h = refl
then_same (Some x) f g h = h x

then_then : {X Y Z : Type 0} (o : Option X) (f : X → Option Y) (g : Y → Option Z)
    → option_and_then (λ x. option_and_then g (f x)) o ≡ option_and_then g (option_and_then f o)
then_then None f g = refl
then_then (Some x) f g = refl

-- more lines behind some
pub behind_all-append : (old : Standing) (some more : List Line)
    → behind_all old (some ++ more) ≡ option_and_then (λ now. behind_all now more) (behind_all old some)
unfolding behind_all
behind_all-append old [] more = refl
behind_all-append old (line ∷ some) more =
    then_same (behind old line) (λ next. behind_all next (some ++ more)) (λ next. option_and_then (λ now. behind_all now more) (behind_all next some))
    (λ next. behind_all-append next some more)
    ∙ then_then (behind old line) (λ next. behind_all next some) (λ now. behind_all now more)

-- where each of two parts is read
pub behind_both : (old mid new : Standing) (some more : List Line) → behind_all old some ≡ Some mid → behind_all mid more ≡ Some new
    → behind_all old (some ++ more) ≡ Some new
behind_both old mid new some more a b =
    behind_all-append old some more ∙ ap (λ o. option_and_then (λ now. behind_all now more) o) a ∙ b

-- where lines are read whole, one of them is read behind those before it
pub behind_one : (old mid new : Standing) (some later : List Line) (line : Line) → behind_all old some ≡ Some mid
    → behind_all old (some ++ line ∷ later) ≡ Some new → behind mid line ≡ None → ⊥
unfolding behind_all
behind_one old mid new some later line a all stop =
    let first : behind_all mid (line ∷ later) ≡ Some new =
    sym (ap (λ o. option_and_then (λ now. behind_all now (line ∷ later)) o) a) ∙ sym (behind_all-append old some (line ∷ later)) ∙ all in
    let none : behind_all mid (line ∷ later) ≡ None = ap (λ o. option_and_then (λ next. behind_all next later) o) stop in
    absurd cc

-- what was read is what was read
pub record IsRead (old : Standing) (lines : List Line) (new : Standing) : Type 0 where
  pub fits : FitsSoFar new
  pub whole : lines_at new ≡ lines_at old ++ lines

read_some : (old : Standing) (line : Line) (lines : List Line) (o : Option Standing) (new : Standing) → FitsSoFar old → FitsLine line
    → behind old line ≡ o → option_and_then (λ next. behind_all next lines) o ≡ Some new
    → ((next : Standing) → FitsSoFar next → behind_all next lines ≡ Some new → IsRead next lines new)
    → IsRead old (line ∷ lines) new
read_some old line lines None new fits good is e later = absurd cc
read_some old line lines (Some next) new fits good is e later =
    let one = goes_on old line next fits good is in
    let rest = later next one.fits e in
    record {
      fits = rest.fits;
      whole = rest.whole ∙ ap (λ l. l ++ lines) one.lines ∙ append_assoc (lines_at old) (line ∷ []) lines;
    }

pub is_read : (old : Standing) (lines : List Line) (new : Standing) → FitsSoFar old → AllByRecursion FitsLine lines
    → behind_all old lines ≡ Some new → IsRead old lines new
unfolding behind_all
is_read old [] new fits good e =
    subst (IsRead old []) (some_is e) (record { fits = fits; whole = sym (append-nil (lines_at old)) })
is_read old (line ∷ lines) new fits good e =
    read_some old line lines (behind old line) new fits good.0 refl e (λ next f h. is_read next lines new f good.1 h)

-- ---- a sound dump is read whole

-- the vars
reads_vars : (done vars : List Var) → Rises (next_from 0 done) vars
    → behind_all (naming done) (map line_of_var vars) ≡ Some (naming (done ++ vars))
unfolding behind_all
reads_vars done [] rise = ap (λ v. Some (naming v)) (sym (append-nil done))
reads_vars done (var ∷ vars) rise =
    let least : nat_le (next_of done) var.0 ≡ true =
    let e = next_from-fold 0 done in search (rules, e, rise.0) in
    let after : Rises (next_from 0 (done ++ var ∷ [])) vars = subst (λ n. Rises n vars) (sym (next_from-push 0 done var)) rise.1 in
    ap (λ o. option_and_then (λ next. behind_all next (map line_of_var vars)) o)
    (cond-true (nat_le (next_of done) var.0) (Some (naming (done ++ var ∷ []))) None least)
    ∙ reads_vars (done ++ var ∷ []) vars after ∙ ap (λ v. Some (naming v)) (append_assoc done (var ∷ []) vars)

-- the drives of a call
reads_drives : (vars : List Var) (calls : Calls) (last : ℕ) (done drives : List (ℕ × Drive)) → Rises (next_from 0 done) drives
    → AllByRecursion (λ (given : ℕ × Drive). is_var vars given.0 ≡ true) drives
    → behind_all (calling vars calls last done) (map line_of_drive drives) ≡ Some (calling vars calls last (done ++ drives))
unfolding behind_all
reads_drives vars calls last done [] rise each = ap (λ ds. Some (calling vars calls last ds)) (sym (append-nil done))
reads_drives vars calls last done (given ∷ drives) rise each =
    let least : nat_le (next_of done) given.0 ≡ true =
    let e = next_from-fold 0 done in search (rules, e, rise.0) in
    let after : Rises (next_from 0 (done ++ given ∷ [])) drives = subst (λ n. Rises n drives) (sym (next_from-push 0 done given)) rise.1 in
    ap (λ o. option_and_then (λ next. behind_all next (map line_of_drive drives)) o)
    (cond-true (nat_le (next_of done) given.0 && is_var vars given.0) (Some (calling vars calls last (done ++ given ∷ []))) None
    (and_from _ _ least each.0))
    ∙ reads_drives vars calls last (done ++ given ∷ []) drives after each.1
    ∙ ap (λ ds. Some (calling vars calls last ds)) (append_assoc done (given ∷ []) drives)

-- where a dump of these is read to its end
pub record Ends (vars : List Var) (calls : Calls) (old : Standing) (lines : List Line) : Type 0 where
  pub new : Standing
  pub went : behind_all old lines ≡ Some new
  pub pair : pair_at new ≡ Some (vars, calls)

-- more calls behind a call
reads_calls : (vars : List Var) (done : Calls) (last : ℕ) (drives : List (ℕ × Drive)) (calls : Calls) → 0 < length drives
    → Rises (last + 1) calls → AllByRecursion (IsCall vars) calls
    → Ends vars ((done ++ (last, drives) ∷ []) ++ calls) (calling vars done last drives) (flat_map lines_of_call calls)
unfolding behind_all next_from
reads_calls vars done last drives [] some rise each = record {
  new = calling vars done last drives;
  went = refl;
  pair = cond-true (nat_lt 0 (length drives)) (Some (vars, done ++ (last, drives) ∷ [])) None (search (rules, some))
      ∙ ap (λ (c : Calls). (let p : List Var × Calls = (vars, c) in Some p)) (sym (append-nil (done ++ (last, drives) ∷ [])));
}
reads_calls vars done last drives (call ∷ calls) some rise each =
    let more = done ++ (last, drives) ∷ [] in
    let later : (nat_lt 0 (length drives) && nat_lt last call.0) ≡ true =
    and_from (nat_lt 0 (length drives)) (nat_lt last call.0) (search (rules, some)) (search (rules, rise.0)) in
    let first : behind (calling vars done last drives) (at call.0) ≡ Some (calling vars more call.0 []) =
    cond-true (nat_lt 0 (length drives) && nat_lt last call.0) (Some (calling vars more call.0 [])) None later in
    let given : behind_all (calling vars more call.0 []) (map line_of_drive call.1) ≡ Some (calling vars more call.0 call.1) =
    reads_drives vars more call.0 [] call.1 each.0.drives.rise each.0.drives.each in
    let lines : behind_all (calling vars done last drives) (lines_of_call call) ≡ Some (calling vars more call.0 call.1) =
    ap (λ o. option_and_then (λ next. behind_all next (map line_of_drive call.1)) o) first ∙ given in
    let rest = reads_calls vars more call.0 call.1 calls each.0.some rise.1 each.1 in
    record {
      new = rest.new;
      went = behind_both (calling vars done last drives) (calling vars more call.0 call.1) rest.new (lines_of_call call)
          (flat_map lines_of_call calls) lines rest.went;
      pair = rest.pair ∙ ap (λ (c : Calls). (let p : List Var × Calls = (vars, c) in Some p)) (append_assoc more (call ∷ []) calls);
    }

-- a call needs a var
has_var : (vars : List Var) (drives : List (ℕ × Drive)) → 0 < length drives
    → AllByRecursion (λ (given : ℕ × Drive). is_var vars given.0 ≡ true) drives → nat_lt 0 (length vars) ≡ true
has_var vars [] some each = absurd (omega arith)
has_var [] (given ∷ drives) some each = absurd cc
has_var (var ∷ vars) (given ∷ drives) some each = search rules

-- all calls
reads_tape : (vars : List Var) (calls : Calls) → Rises 0 calls → AllByRecursion (IsCall vars) calls
    → Ends vars calls (playing vars) (flat_map lines_of_call calls)
unfolding behind_all next_from
reads_tape vars [] rise each = record { new = playing vars; went = refl; pair = refl }
reads_tape vars (call ∷ calls) rise each =
    let some : nat_lt 0 (length vars) ≡ true = has_var vars call.1 each.0.some each.0.drives.each in
    let lines : behind_all (playing vars) (lines_of_call call) ≡ Some (calling vars [] call.0 call.1) =
    ap (λ o. option_and_then (λ next. behind_all next (map line_of_drive call.1)) o)
    (cond-true (nat_lt 0 (length vars)) (Some (calling vars [] call.0 [])) None some)
    ∙ reads_drives vars [] call.0 [] call.1 each.0.drives.rise each.0.drives.each in
    let rest = reads_calls vars [] call.0 call.1 calls each.0.some rise.1 each.1 in
    record {
      new = rest.new;
      went = behind_both (playing vars) (calling vars [] call.0 call.1) rest.new (lines_of_call call) (flat_map lines_of_call calls)
          lines rest.went;
      pair = rest.pair;
    }

-- the lines in front of the calls
reads_head : (vars : List Var) → Rises 0 vars → behind_all begun (head_of vars) ≡ Some (playing vars)
unfolding behind_all next_from
reads_head vars rise =
    behind_both (naming []) (naming vars) (playing vars) (map line_of_var vars) (upscope ∷ definitions ∷ []) (reads_vars [] vars rise) refl

-- a sound dump
pub reads_all : (vars : List Var) (calls : Calls) → IsSound vars calls → Ends vars calls begun (lines_of vars calls)
reads_all vars calls sound =
    let rest = reads_tape vars calls sound.drives.rise sound.drives.each in
    record {
      new = rest.new;
      went = behind_both begun (playing vars) rest.new (head_of vars) (flat_map lines_of_call calls) (reads_head vars sound.names.rise) rest.went;
      pair = rest.pair;
    }

-- ---- its lines

line_of_var_fits : (vars : List Var) → AllByRecursion IsVar vars → AllByRecursion FitsLine (map line_of_var vars)
line_of_var_fits [] each = tt
line_of_var_fits (var ∷ vars) each = ((each.0.number, each.0.plain, each.0.short), line_of_var_fits vars each.1)

-- a signal among the vars has a number of a signal
pub var_is_signal : (vars : List Var) (signal : ℕ) → AllByRecursion IsVar vars → is_var vars signal ≡ true → signal < most_signals
var_is_signal [] signal each h = absurd cc
var_is_signal (var ∷ vars) signal each h = elim (cases_Bool (var.0 == signal)) [
  | inl same ↦ let e : var.0 ≡ signal = search (rules, same) in omega (arith, e, each.0.number)
  | inr other ↦ var_is_signal vars signal each.1 (ap (λ b. b || is_var vars signal) (sym other) ∙ h)
]

drives_fit : (vars : List Var) (drives : List (ℕ × Drive)) → AllByRecursion IsVar vars
    → AllByRecursion (λ (given : ℕ × Drive). is_var vars given.0 ≡ true) drives → AllByRecursion FitsLine (map line_of_drive drives)
drives_fit vars [] are each = tt
drives_fit vars (given ∷ drives) are each = (var_is_signal vars given.0 are each.0, drives_fit vars drives are each.1)

calls_fit : (vars : List Var) (calls : Calls) → AllByRecursion IsVar vars → AllByRecursion (IsCall vars) calls
    → AllByRecursion FitsLine (flat_map lines_of_call calls)
calls_fit vars [] are each = tt
calls_fit vars (call ∷ calls) are each = (
  each.0.instant,
  all_append FitsLine (map line_of_drive call.1) (flat_map lines_of_call calls) (drives_fit vars call.1 are each.0.drives.each)
      (calls_fit vars calls are each.1),
)

-- each line of a sound dump fits
pub lines_fit : (vars : List Var) (calls : Calls) → IsSound vars calls → AllByRecursion FitsLine (lines_of vars calls)
lines_fit vars calls sound =
    all_append FitsLine (head_of vars) (flat_map lines_of_call calls)
    (tt, (tt, all_append FitsLine (map line_of_var vars) (upscope ∷ definitions ∷ []) (line_of_var_fits vars sound.names.each) (tt, (tt, tt))))
    (calls_fit vars calls sound.names.each sound.drives.each)

-- ---- what is read whole is sound

-- what a pair that may end there is
pub record IsEnd (vars : List Var) (calls : Calls) (standing : Standing) : Type 0 where
  pub sound : IsSound vars calls
  pub lines : lines_at standing ≡ lines_of vars calls

-- the parts of a pair that is there
pub pair_parts : (a c : List Var) (b d : Calls) → ((let p : List Var × Calls = (a, b) in Some p) ≡ (let p : List Var × Calls = (c, d) in Some p))
    → (a ≡ c) × (b ≡ d)
pair_parts a c b d e =
    let get : Option (List Var × Calls) → List Var × Calls = λ o. unwrap_or o (a, b) in
    let p : (let p : List Var × Calls = (a, b) in p) ≡ (let q : List Var × Calls = (c, d) in q) = ap get e in
    (ap (λ (q : List Var × Calls). q.0) p, ap (λ (q : List Var × Calls). q.1) p)

pub is_end : (vars : List Var) (calls : Calls) (standing : Standing) → FitsSoFar standing → pair_at standing ≡ Some (vars, calls)
    → IsEnd vars calls standing
is_end vars calls begun fits e = absurd cc
is_end vars calls timed fits e = absurd cc
is_end vars calls (naming names) fits e = absurd cc
is_end vars calls (known names) fits e = absurd cc
is_end vars calls (playing names) fits e =
    let p = pair_parts names vars [] calls e in
    subst (λ (v : List Var). IsEnd v calls (playing names)) p.0 (subst (λ (c : Calls). IsEnd names c (playing names)) p.1 (record {
      sound = record { names = fits; drives = record { rise = tt; each = tt } };
      lines = sym (append-nil (head_of names));
    }))
is_end vars calls (calling names done last drives) fits e =
    let q = cond_some _ _ _ e in
    let p = pair_parts names vars (done ++ (last, drives) ∷ []) calls (ap Some q.1) in
    let some : 0 < length drives = search (rules, q.0) in
    subst (λ (v : List Var). IsEnd v calls (calling names done last drives)) p.0
    (subst (λ (c : Calls). IsEnd names c (calling names done last drives)) p.1 (record {
      sound = record {
        names = fits.names;
        drives = record {
          rise = fits.rise;
          each = all_append (IsCall names) done ((last, drives) ∷ []) fits.each
              (record { instant = fits.instant; some = some; drives = fits.given }, tt);
        };
      };
      lines = refl;
    }))
