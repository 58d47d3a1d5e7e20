-- Where the reading of a dump stands: what was read, and that each sound dump is read whole.
use Rattle.std.proofs.Common.{◌≡◌, ℕ, ◌^◌, ◌<◌, ◌≤◌, ◌&&◌, true, List, [], ◌∷◌, ◌++◌, length, map, Some, None, refl, sym, ap, ◌∙◌, subst, arith, append_assoc, rules}
use Rattle.std.specs.Prelude.{nat_lt, nat_le}
use Rattle.std.specs.List.{AllByRecursion, flat_map}
use Rattle.std.proofs.lemmas.List.{map-append, append-nil}
use Rattle.std.proofs.lemmas.Grind.{flat_map-append}
use Rattle.std.proofs.lemmas.Bool.{and_parts}
use Rattle.std.proofs.lemmas.Option.{cond_some}
use Rattle.tester_types.specs.declared.level.Drive.{Drive}
use Rattle.die_sim.specs.Socket.{Calls}
use Rattle.text_bytes.proofs.ListLemmas.{all_append}
use Rattle.vcd_text.specs.Dump.{Var, Line, timescale, scope, named, upscope, definitions, at, change, line_of_var, line_of_drive, lines_of_call, head_of}
use Rattle.vcd_text.specs.Sound.{Rises, IsVar, AreVars, is_var, AreDrives, IsCall}
use Rattle.vcd_text.specs.Standing.{Standing, begun, timed, naming, known, playing, calling, next_of, behind, lines_at, FitsLine}
use Rattle.vcd_text.proofs.RiseLemmas.{next_from, next_from-fold, rises_push, rises_last, rises_more}

-- ---- what was read is sound so far

-- a call that is open, behind others
pub record IsOpen (vars : List Var) (calls : Calls) (last : ℕ) (drives : List (ℕ × Drive)) : Type 0 where
  pub names : AreVars vars
  pub some : 0 < length vars
  pub rise : Rises 0 (calls ++ (last, drives) ∷ [])
  pub each : AllByRecursion (IsCall vars) calls
  pub instant : last < 2 ^ 128
  pub given : AreDrives vars drives

-- what was read so far may stand in a sound dump
abbrev pub FitsSoFar : Standing → Type 0
FitsSoFar begun = Unit {0}
FitsSoFar timed = Unit {0}
FitsSoFar (naming vars) = AreVars vars
FitsSoFar (known vars) = AreVars vars
FitsSoFar (playing vars) = AreVars vars
FitsSoFar (calling vars calls last drives) = IsOpen vars calls last drives

-- one more line
pub record GoesOn (old : Standing) (line : Line) (new : Standing) : Type 0 where
  pub fits : FitsSoFar new
  pub lines : lines_at new ≡ lines_at old ++ line ∷ []

same_next : {X : Type 0} (items : List (ℕ × X)) (n : ℕ) → nat_le (next_of items) n ≡ true → next_from 0 items ≤ n
same_next items n h =
    let e = next_from-fold 0 items in
    let l : next_of items ≤ n = search (rules, h) in omega (arith, e, l)

names_more : (vars : List Var) (signal : ℕ) (name : List ℕ) → AreVars vars → nat_le (next_of vars) signal ≡ true
    → FitsLine (named signal name) → AreVars (vars ++ (signal, name) ∷ [])
names_more vars signal name are h fits = record {
  rise = rises_push 0 signal vars name are.rise (same_next vars signal h);
  each = all_append IsVar vars ((signal, name) ∷ []) are.each (record { number = fits.0; plain = fits.1; short = fits.2 }, tt);
}

goes_on_naming : (vars : List Var) (signal : ℕ) (name : List ℕ) (new : Standing) → AreVars vars → FitsLine (named signal name)
    → (nat_le (next_of vars) signal ≡ true) → naming (vars ++ (signal, name) ∷ []) ≡ new → GoesOn (naming vars) (named signal name) new
goes_on_naming vars signal name new are fits h is = subst (GoesOn (naming vars) (named signal name)) is (record {
  fits = names_more vars signal name are h fits;
  lines = ap (λ l. timescale ∷ scope ∷ l) (map-append line_of_var vars ((signal, name) ∷ []));
})

-- the lines of calls, and of one more
calls_more : (calls : Calls) (call : ℕ × List (ℕ × Drive))
    → flat_map lines_of_call (calls ++ call ∷ []) ≡ flat_map lines_of_call calls ++ lines_of_call call
calls_more calls call = flat_map-append lines_of_call calls (call ∷ []) ∙ ap (λ l. flat_map lines_of_call calls ++ l) (append-nil (lines_of_call call))

goes_on_playing : (vars : List Var) (instant : ℕ) (new : Standing) → AreVars vars → instant < 2 ^ 128
    → nat_lt 0 (length vars) ≡ true → calling vars [] instant [] ≡ new → GoesOn (playing vars) (at instant) new
goes_on_playing vars instant new are small some is = subst (GoesOn (playing vars) (at instant)) is (record {
  fits = record { names = are; some = search (rules, some); rise = (omega arith, tt); each = tt; instant = small; given = record { rise = tt; each = tt } };
  lines = refl;
})

goes_on_instant : (vars : List Var) (calls : Calls) (last instant : ℕ) (drives : List (ℕ × Drive)) (new : Standing)
    → IsOpen vars calls last drives → instant < 2 ^ 128 → (nat_lt 0 (length drives) && nat_lt last instant) ≡ true
    → calling vars (calls ++ (last, drives) ∷ []) instant [] ≡ new → GoesOn (calling vars calls last drives) (at instant) new
goes_on_instant vars calls last instant drives new are small later is =
    let parts = and_parts (nat_lt 0 (length drives)) (nat_lt last instant) later in
    let some : 0 < length drives = search (rules, parts.0) in
    let after : last < instant = search (rules, parts.1) in
    subst (GoesOn (calling vars calls last drives) (at instant)) is (record {
      fits = record {
        names = are.names;
        some = are.some;
        rise = rises_more 0 last instant calls drives [] are.rise after;
        each = all_append (IsCall vars) calls ((last, drives) ∷ []) are.each (record { instant = are.instant; some = some; drives = are.given }, tt);
        instant = small;
        given = record { rise = tt; each = tt };
      };
      lines = ap (λ l. head_of vars ++ l) (calls_more (calls ++ (last, drives) ∷ []) (instant, []))
          ∙ sym (append_assoc (head_of vars) (flat_map lines_of_call (calls ++ (last, drives) ∷ [])) (at instant ∷ []));
    })

goes_on_change : (vars : List Var) (calls : Calls) (last signal : ℕ) (drive : Drive) (drives : List (ℕ × Drive)) (new : Standing)
    → IsOpen vars calls last drives → (nat_le (next_of drives) signal && is_var vars signal) ≡ true
    → calling vars calls last (drives ++ (signal, drive) ∷ []) ≡ new → GoesOn (calling vars calls last drives) (change signal drive) new
goes_on_change vars calls last signal drive drives new are later is =
    let parts = and_parts (nat_le (next_of drives) signal) (is_var vars signal) later in
    let more = drives ++ (signal, drive) ∷ [] in
    subst (GoesOn (calling vars calls last drives) (change signal drive)) is (record {
      fits = record {
        names = are.names;
        some = are.some;
        rise = rises_last 0 last calls drives more are.rise;
        each = are.each;
        instant = are.instant;
        given = record {
          rise = rises_push 0 signal drives drive are.given.rise (same_next drives signal parts.0);
          each = all_append (λ (given : ℕ × Drive). is_var vars given.0 ≡ true) drives ((signal, drive) ∷ []) are.given.each (parts.1, tt);
        };
      };
      lines = ap (λ l. head_of vars ++ l)
          (calls_more calls (last, more)
          ∙ ap (λ l. flat_map lines_of_call calls ++ at last ∷ l) (map-append line_of_drive drives ((signal, drive) ∷ []))
          ∙ sym (append_assoc (flat_map lines_of_call calls) (lines_of_call (last, drives)) (change signal drive ∷ []))
          ∙ ap (λ l. l ++ change signal drive ∷ []) (sym (calls_more calls (last, drives))))
          ∙ sym (append_assoc (head_of vars) (flat_map lines_of_call (calls ++ (last, drives) ∷ [])) (change signal drive ∷ []));
    })

-- ---- one more line

no_way : {P : Type 0} (new : Standing) → None ≡ Some new → P
no_way new e = absurd cc

pub some_is : {s new : Standing} → Some s ≡ Some new → s ≡ new
some_is e = cc

-- what is read behind one more line
pub goes_on : (old : Standing) (line : Line) (new : Standing) → FitsSoFar old → FitsLine line → behind old line ≡ Some new
    → GoesOn old line new
goes_on begun timescale new f l e = subst (GoesOn begun timescale) (some_is e) (record { fits = tt; lines = refl })
goes_on begun scope new f l e = no_way new e
goes_on begun (named signal name) new f l e = no_way new e
goes_on begun upscope new f l e = no_way new e
goes_on begun definitions new f l e = no_way new e
goes_on begun (at instant) new f l e = no_way new e
goes_on begun (change signal drive) new f l e = no_way new e
goes_on timed timescale new f l e = no_way new e
goes_on timed scope new f l e = subst (GoesOn timed scope) (some_is e) (record { fits = record { rise = tt; each = tt }; lines = refl })
goes_on timed (named signal name) new f l e = no_way new e
goes_on timed upscope new f l e = no_way new e
goes_on timed definitions new f l e = no_way new e
goes_on timed (at instant) new f l e = no_way new e
goes_on timed (change signal drive) new f l e = no_way new e
goes_on (naming vars) timescale new f l e = no_way new e
goes_on (naming vars) scope new f l e = no_way new e
goes_on (naming vars) (named signal name) new f l e = let p = cond_some _ _ _ e in goes_on_naming vars signal name new f l p.0 p.1
goes_on (naming vars) upscope new f l e = subst (GoesOn (naming vars) upscope) (some_is e) (record { fits = f; lines = refl })
goes_on (naming vars) definitions new f l e = no_way new e
goes_on (naming vars) (at instant) new f l e = no_way new e
goes_on (naming vars) (change signal drive) new f l e = no_way new e
goes_on (known vars) timescale new f l e = no_way new e
goes_on (known vars) scope new f l e = no_way new e
goes_on (known vars) (named signal name) new f l e = no_way new e
goes_on (known vars) upscope new f l e = no_way new e
goes_on (known vars) definitions new f l e = subst (GoesOn (known vars) definitions) (some_is e) (record { fits = f; lines = ap (λ ls. timescale ∷ scope ∷ ls) (sym (append_assoc (map line_of_var vars) (upscope ∷ []) (definitions ∷ []))) })
goes_on (known vars) (at instant) new f l e = no_way new e
goes_on (known vars) (change signal drive) new f l e = no_way new e
goes_on (playing vars) timescale new f l e = no_way new e
goes_on (playing vars) scope new f l e = no_way new e
goes_on (playing vars) (named signal name) new f l e = no_way new e
goes_on (playing vars) upscope new f l e = no_way new e
goes_on (playing vars) definitions new f l e = no_way new e
goes_on (playing vars) (at instant) new f l e = let p = cond_some _ _ _ e in goes_on_playing vars instant new f l p.0 p.1
goes_on (playing vars) (change signal drive) new f l e = no_way new e
goes_on (calling vars calls last drives) timescale new f l e = no_way new e
goes_on (calling vars calls last drives) scope new f l e = no_way new e
goes_on (calling vars calls last drives) (named signal name) new f l e = no_way new e
goes_on (calling vars calls last drives) upscope new f l e = no_way new e
goes_on (calling vars calls last drives) definitions new f l e = no_way new e
goes_on (calling vars calls last drives) (at instant) new f l e = let p = cond_some _ _ _ e in goes_on_instant vars calls last instant drives new f l p.0 p.1
goes_on (calling vars calls last drives) (change signal drive) new f l e = let p = cond_some _ _ _ e in goes_on_change vars calls last signal drive drives new f p.0 p.1
