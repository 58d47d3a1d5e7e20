-- The first line at which a text can be no dump, and that no two sound dumps are one text.
use Rattle.std.proofs.Common.{◌≡◌, ℕ, zero, suc, ◌+◌, ◌<◌, ◌≤◌, ◌⊎◌, true, List, [], ◌∷◌, ◌++◌, length, map, take, drop, Some, None, refl, sym, ap, ◌∙◌, subst, inl, inr, arith, append_assoc, rules}
use Rattle.std.specs.Prelude.{nat_lt}
use Rattle.std.specs.List.{AllByRecursion, flat_map}
use Rattle.std.proofs.lemmas.Bool.{cond-true}
use Rattle.std.proofs.lemmas.List.{append-nil, append_cancel_left, append_cancel_right, take-append-drop, take-append-le, take_at, length-append, length-map}
use Rattle.std.proofs.lemmas.Grind.{flat_map-append}
use Rattle.tester_types.specs.declared.level.Drive.{Drive}
use Rattle.tester_types.specs.declared.level.Drive.TheVariants.{Down}
use Rattle.die_sim.specs.Socket.{Calls}
use Rattle.text_bytes.proofs.ListLemmas.{all_append}
use Rattle.vcd_text.specs.Dump.{Var, Line, timescale, scope, upscope, definitions, at, change, spelled, ended, text_of, line_of_var, lines_of_call, head_of, lines_of, dump_of}
use Rattle.vcd_text.specs.Sound.{is_var, IsCall, IsSound}
use Rattle.vcd_text.specs.Refusal.{lines_in, front_of, BeginsDump, IsNoDump, IsFault}
use Rattle.vcd_text.specs.Standing.{Standing, begun, timed, naming, known, playing, calling, behind_all, lines_at, pair_at, FitsLine, IsStop, has_no_feed}
use Rattle.vcd_text.specs.Read.{IsReadTo}
use Rattle.vcd_text.proofs.RiseLemmas.{rises_last}
use Rattle.vcd_text.proofs.StandingLemmas.{FitsSoFar, IsOpen}
use Rattle.vcd_text.proofs.ReadingLemmas.{behind_one, is_read, reads_all, lines_fit, is_end, pair_parts}
use Rattle.vcd_text.proofs.FeedLemmas.{lines_in-line, lines_in-rest, lines_in-text, one_text, split, joined}

-- ---- what was read so far begins a dump

begins : (vars : List Var) (calls : Calls) (some more : List Line) → IsSound vars calls → lines_of vars calls ≡ some ++ more
    → BeginsDump (text_of some)
begins vars calls some more sound is = record {
  vars = vars;
  calls = calls;
  sound = sound;
  rest = text_of more;
  whole = ap text_of is ∙ flat_map-append ended some more;
}

none_sound : (vars : List Var) → FitsSoFar (playing vars) → IsSound vars []
none_sound vars fits = record { names = fits; drives = record { rise = tt; each = tt } }

-- the first var may be driven in a call that is open
begins_open : (var : Var) (vars : List Var) (calls : Calls) (last : ℕ) → IsOpen (var ∷ vars) calls last []
    → BeginsDump (text_of (lines_at (calling (var ∷ vars) calls last [])))
begins_open var vars calls last open_call =
    let names = var ∷ vars in
    let given : List (ℕ × Drive) = (var.0, Down) ∷ [] in
    let among : is_var names var.0 ≡ true = search rules in
    let sound : IsSound names (calls ++ (last, given) ∷ []) = record {
      names = open_call.names;
      drives = record {
        rise = rises_last 0 last calls [] given open_call.rise;
        each = all_append (IsCall names) calls ((last, given) ∷ []) open_call.each
            (record { instant = open_call.instant; some = omega arith; drives = record { rise = (omega arith, tt); each = (among, tt) } }, tt);
      };
    } in
    begins names (calls ++ (last, given) ∷ []) (lines_at (calling names calls last [])) (change var.0 Down ∷ []) sound
    (ap (λ l. head_of names ++ l)
    (flat_map-append lines_of_call calls ((last, given) ∷ [])
    ∙ sym (append_assoc (flat_map lines_of_call calls) (at last ∷ []) (change var.0 Down ∷ []))
    ∙ ap (λ l. l ++ change var.0 Down ∷ []) (sym (flat_map-append lines_of_call calls ((last, []) ∷ []))))
    ∙ sym (append_assoc (head_of names) (flat_map lines_of_call (calls ++ (last, []) ∷ [])) (change var.0 Down ∷ [])))

begins_call : (vars : List Var) (calls : Calls) (last : ℕ) (drives : List (ℕ × Drive)) → IsOpen vars calls last drives
    → BeginsDump (text_of (lines_at (calling vars calls last drives)))
begins_call [] calls last drives open_call = absurd (omega (arith, open_call.some))
begins_call (var ∷ vars) calls last [] open_call = begins_open var vars calls last open_call
begins_call (var ∷ vars) calls last (given ∷ drives) open_call =
    let pair : pair_at (calling (var ∷ vars) calls last (given ∷ drives)) ≡ Some (var ∷ vars, calls ++ (last, given ∷ drives) ∷ []) =
    cond-true (nat_lt 0 (length (given ∷ drives))) (Some (var ∷ vars, calls ++ (last, given ∷ drives) ∷ [])) None (search rules) in
    let e = is_end (var ∷ vars) (calls ++ (last, given ∷ drives) ∷ []) (calling (var ∷ vars) calls last (given ∷ drives)) open_call pair in
    begins (var ∷ vars) (calls ++ (last, given ∷ drives) ∷ []) (lines_at (calling (var ∷ vars) calls last (given ∷ drives))) [] e.sound
    (sym (append-nil (lines_of (var ∷ vars) (calls ++ (last, given ∷ drives) ∷ []))))

begins_so_far : (standing : Standing) → FitsSoFar standing → BeginsDump (text_of (lines_at standing))
begins_so_far begun fits = begins [] [] [] (lines_of [] []) (none_sound [] (record { rise = tt; each = tt })) refl
begins_so_far timed fits = begins [] [] (timescale ∷ []) (scope ∷ upscope ∷ definitions ∷ []) (none_sound [] (record { rise = tt; each = tt })) refl
begins_so_far (naming vars) fits =
    begins vars [] (lines_at (naming vars)) (upscope ∷ definitions ∷ []) (none_sound vars fits) (append-nil (head_of vars))
begins_so_far (known vars) fits =
    begins vars [] (lines_at (known vars)) (definitions ∷ []) (none_sound vars fits)
    (append-nil (head_of vars) ∙ ap (λ l. timescale ∷ scope ∷ l) (sym (append_assoc (map line_of_var vars) (upscope ∷ []) (definitions ∷ []))))
begins_so_far (playing vars) fits = begins vars [] (head_of vars) [] (none_sound vars fits) refl
begins_so_far (calling vars calls last drives) fits = begins_call vars calls last drives fits

-- ---- how far a text was read

-- what was read fits so far, and is what the standing says
read_fits : (bytes rest : List ℕ) (count : ℕ) (standing : Standing) → (r : IsReadTo bytes rest count standing)
    → FitsSoFar standing × (lines_at standing ≡ r.lines)
read_fits bytes rest count standing r = let i = is_read begun r.lines standing tt r.fits r.went in (i.fits, i.whole)

-- the lines of the text
lines_read : (bytes rest : List ℕ) (count : ℕ) (standing : Standing) → (r : IsReadTo bytes rest count standing)
    → lines_in bytes ≡ map ended r.lines ++ lines_in rest
lines_read bytes rest count standing r = ap lines_in r.spelled ∙ lines_in-text r.lines rest r.fits

-- fewer lines begin a dump too
begins_fewer : (lines : List Line) (count : ℕ) → BeginsDump (text_of lines) → BeginsDump (text_of (take count lines))
begins_fewer lines count b = record {
  vars = b.vars;
  calls = b.calls;
  sound = b.sound;
  rest = text_of (drop count lines) ++ b.rest;
  whole = b.whole
      ∙ ap (λ l. text_of l ++ b.rest) (sym (take-append-drop count lines))
      ∙ ap (λ t. t ++ b.rest) (flat_map-append ended (take count lines) (drop count lines))
      ∙ append_assoc (text_of (take count lines)) (text_of (drop count lines)) b.rest;
}

map_take : {X Y : Type 0} (f : X → Y) (n : ℕ) (xs : List X) → take n (map f xs) ≡ map f (take n xs)
map_take f zero xs = refl
map_take f (suc n) [] = refl
map_take f (suc n) (x ∷ xs) = ap (λ l. f x ∷ l) (map_take f n xs)

-- the first lines of the text
front_read : (lines : List Line) (bytes : List ℕ) (later : List (List ℕ)) (count : ℕ) → lines_in bytes ≡ map ended lines ++ later
    → count ≤ length lines → front_of count bytes ≡ text_of (take count lines)
front_read lines bytes later count is few =
    let short : count ≤ length (map ended lines) = omega (arith, few, length-map lines ended) in
    ap (λ ls. flat_map (λ (line : List ℕ). line) (take count ls)) is
    ∙ ap (flat_map (λ (line : List ℕ). line)) (take-append-le count (map ended lines) later short ∙ map_take ended count lines)
    ∙ joined (take count lines)

-- each front of what was read begins a dump
pub begins_before : (bytes rest : List ℕ) (count : ℕ) (standing : Standing) → IsReadTo bytes rest count standing
    → (n : ℕ) → n ≤ count → BeginsDump (front_of n bytes)
begins_before bytes rest count standing r n few =
    let f = read_fits bytes rest count standing r in
    let all : BeginsDump (text_of r.lines) = subst (λ ls. BeginsDump (text_of ls)) f.1 (begins_so_far standing f.0) in
    let within : n ≤ length r.lines = omega (arith, few, r.counted) in
    subst BeginsDump (sym (front_read r.lines bytes (lines_in rest) n (lines_read bytes rest count standing r) within))
    (begins_fewer r.lines n all)

-- ---- a line at which no dump goes on

-- what holds of all holds of each part
parts_fit : (a b : List Line) → AllByRecursion FitsLine (a ++ b) → AllByRecursion FitsLine a × AllByRecursion FitsLine b
parts_fit [] b all = (tt, all)
parts_fit (x ∷ a) b all = let p = parts_fit a b all.1 in ((all.0, p.0), p.1)

-- what a sound dump whose lines begin so is, line by line
lines_of_dump : (vars : List Var) (calls : Calls) → IsSound vars calls → lines_in (dump_of vars calls) ≡ map ended (lines_of vars calls)
unfolding lines_in
lines_of_dump vars calls sound =
    ap lines_in (sym (append-nil (dump_of vars calls))) ∙ lines_in-text (lines_of vars calls) [] (lines_fit vars calls sound)
    ∙ append-nil (map ended (lines_of vars calls))

stops_in : (all : List Line) (end new standing : Standing) (lines first later : List Line) (text : List ℕ) (back : List (List ℕ))
    → AllByRecursion FitsLine all → AllByRecursion FitsLine lines → behind_all begun lines ≡ Some standing → behind_all begun all ≡ Some new
    → IsStop standing text → all ≡ first ++ later → map ended first ≡ map ended lines → map ended later ≡ (text ++ 10 ∷ []) ∷ back → ⊥
stops_in all end new standing lines first [] text back fits good went whole stop is are rest = absurd cc
stops_in all end new standing lines first (line ∷ later) text back fits good went whole stop is are rest =
    let parts = parts_fit first (line ∷ later) (subst (AllByRecursion FitsLine) is fits) in
    let same : first ≡ lines = one_text first lines parts.0 good are in
    let head : spelled line ++ 10 ∷ [] ≡ text ++ 10 ∷ [] = cc in
    let text_is : text ≡ spelled line = sym (append_cancel_right (spelled line) text (10 ∷ []) head) in
    behind_one begun standing new lines later line went
    (ap (behind_all begun) (sym (is ∙ ap (λ l. l ++ line ∷ later) same)) ∙ whole) (stop line parts.1.0 text_is)

-- no sound dump begins with these lines and this one
no_dump_so : (vars : List Var) (calls : Calls) (standing : Standing) (lines : List Line) (text more : List ℕ) → IsSound vars calls
    → AllByRecursion FitsLine lines → behind_all begun lines ≡ Some standing → has_no_feed text ≡ true → IsStop standing text
    → dump_of vars calls ≡ text_of lines ++ (text ++ 10 ∷ more) → ⊥
no_dump_so vars calls standing lines text more sound fits went free stop is =
    let all : map ended (lines_of vars calls) ≡ map ended lines ++ (text ++ 10 ∷ []) ∷ lines_in more =
    sym (lines_of_dump vars calls sound) ∙ ap lines_in is ∙ lines_in-text lines (text ++ 10 ∷ more) fits
    ∙ ap (λ l. map ended lines ++ l) (lines_in-line text more free) in
    let s = split ended (lines_of vars calls) (map ended lines) ((text ++ 10 ∷ []) ∷ lines_in more) all in
    let e = reads_all vars calls sound in
    stops_in (lines_of vars calls) begun e.new standing lines s.first s.later text (lines_in more) (lines_fit vars calls sound) fits went e.went
    stop s.whole s.are s.rest

-- the first lines and one more
front_more_read : (lines : List Line) (bytes text : List ℕ) (later : List (List ℕ)) → lines_in bytes ≡ map ended lines ++ (text ++ 10 ∷ []) ∷ later
    → front_of (length lines + 1) bytes ≡ text_of lines ++ (text ++ 10 ∷ [])
front_more_read lines bytes text later is =
    let one_longer : length (map ended lines ++ (text ++ 10 ∷ []) ∷ []) ≡ length lines + 1 =
    omega (arith, length-append (map ended lines) ((text ++ 10 ∷ []) ∷ []), length-map lines ended) in
    ap (λ ls. flat_map (λ (line : List ℕ). line) (take (length lines + 1) ls))
    (is ∙ sym (append_assoc (map ended lines) ((text ++ 10 ∷ []) ∷ []) later))
    ∙ ap (flat_map (λ (line : List ℕ). line))
    (take_at (map ended lines ++ (text ++ 10 ∷ []) ∷ []) later (length lines + 1) one_longer)
    ∙ flat_map-append (λ (line : List ℕ). line) (map ended lines) ((text ++ 10 ∷ []) ∷ [])
    ∙ ap (λ t. t ++ ((text ++ 10 ∷ []) ++ [])) (joined lines) ∙ ap (λ t. text_of lines ++ t) (append-nil (text ++ 10 ∷ []))

-- the fault at a line behind those that were read
pub fault_at_line : (bytes rest : List ℕ) (count : ℕ) (standing : Standing) (text more : List ℕ) → IsReadTo bytes rest count standing
    → rest ≡ text ++ 10 ∷ more → has_no_feed text ≡ true → IsStop standing text → IsFault bytes (count + 1)
fault_at_line bytes rest count standing text more r is free stop =
    let all : lines_in bytes ≡ map ended r.lines ++ (text ++ 10 ∷ []) ∷ lines_in more =
    lines_read bytes rest count standing r ∙ ap (λ l. map ended r.lines ++ l) (ap lines_in is ∙ lines_in-line text more free) in
    let many : count + 1 ≤ length (lines_in bytes) =
    omega (arith, ap length all, length-append (map ended r.lines) ((text ++ 10 ∷ []) ∷ lines_in more), length-map r.lines ended, r.counted) in
    record {
      none = λ vars calls sound e. no_dump_so vars calls standing r.lines text more sound r.fits r.went free stop
          (sym e ∙ r.spelled ∙ ap (λ t. text_of r.lines ++ t) is);
      before = λ n few. begins_before bytes rest count standing r n (omega (arith, few));
      there = inl (
        many,
        λ b. no_dump_so b.vars b.calls standing r.lines text b.rest b.sound r.fits r.went free stop
            (b.whole
            ∙ ap (λ t. t ++ b.rest) (ap (λ n. front_of (n + 1) bytes) (sym r.counted) ∙ front_more_read r.lines bytes text (lines_in more) all)
            ∙ append_assoc (text_of r.lines) (text ++ 10 ∷ []) b.rest
            ∙ ap (λ t. text_of r.lines ++ t) (append_assoc text (10 ∷ []) b.rest)),
      );
    }

-- ---- the end of a text

-- sound vars and tape whose dump was read
pub record IsOfDump (lines : List Line) (vars : List Var) (calls : Calls) : Type 0 where
  pub same : lines ≡ lines_of vars calls

same_lines : (lines : List Line) (vars : List Var) (calls : Calls) (rest : List ℕ) → AllByRecursion FitsLine lines → IsSound vars calls
    → has_no_feed rest ≡ true → text_of lines ++ rest ≡ dump_of vars calls → lines ≡ lines_of vars calls
same_lines lines vars calls rest fits sound free is =
    let seen : map ended lines ≡ map ended (lines_of vars calls) =
    sym (append-nil (map ended lines)) ∙ ap (λ l. map ended lines ++ l) (sym (lines_in-rest rest free))
    ∙ sym (lines_in-text lines rest fits) ∙ ap lines_in is ∙ lines_of_dump vars calls sound in
    one_text lines (lines_of vars calls) fits (lines_fit vars calls sound) seen

-- where a text ends that isn't the end of a dump
no_end : (bytes rest : List ℕ) (count : ℕ) (standing : Standing) → IsReadTo bytes rest count standing → has_no_feed rest ≡ true
    → (0 < length rest) ⊎ (pair_at standing ≡ None) → IsNoDump bytes
no_end bytes rest count standing r free short vars calls sound is =
    let same = same_lines r.lines vars calls rest r.fits sound free (sym r.spelled ∙ is) in
    let e = reads_all vars calls sound in
    let at_new : Some standing ≡ Some e.new = sym r.went ∙ ap (behind_all begun) same ∙ e.went in
    elim short [
      | inl some ↦
          let nothing : rest ≡ [] =
          append_cancel_left (text_of r.lines) rest []
          (sym r.spelled ∙ is ∙ ap text_of (sym same) ∙ sym (append-nil (text_of r.lines))) in
          omega (arith, some, ap length nothing)
      | inr none ↦
          let here : standing ≡ e.new = cc in
          let there : pair_at standing ≡ Some (vars, calls) = ap pair_at here ∙ e.pair in
          absurd cc
    ]

-- the fault behind all lines
pub fault_at_end : (bytes rest : List ℕ) (count : ℕ) (standing : Standing) → IsReadTo bytes rest count standing
    → has_no_feed rest ≡ true → (0 < length rest) ⊎ (pair_at standing ≡ None) → IsFault bytes (count + 1)
fault_at_end bytes rest count standing r free short =
    let lines : length (lines_in bytes) ≡ count =
    omega (
      arith,
      ap length (lines_read bytes rest count standing r ∙ ap (λ l. map ended r.lines ++ l) (lines_in-rest rest free)),
      length-append (map ended r.lines) [],
      length-map r.lines ended,
      r.counted,
    ) in
    record {
      none = no_end bytes rest count standing r free short;
      before = λ n few. begins_before bytes rest count standing r n (omega (arith, few));
      there = inr (omega (arith, lines));
    }

no_rest : (rest : List ℕ) → length rest ≡ 0 → rest ≡ []
no_rest [] e = refl
no_rest (b ∷ rest) e = absurd (omega (arith, e))

-- a text that was read whole
pub read_whole : (bytes rest : List ℕ) (count : ℕ) (standing : Standing) (vars : List Var) (calls : Calls) → IsReadTo bytes rest count standing
    → length rest ≡ 0 → pair_at standing ≡ Some (vars, calls) → IsSound vars calls × (bytes ≡ dump_of vars calls)
read_whole bytes rest count standing vars calls r over pair =
    let f = read_fits bytes rest count standing r in
    let e = is_end vars calls standing f.0 pair in (
      e.sound,
      r.spelled ∙ ap (λ t. text_of r.lines ++ t) (no_rest rest over) ∙ append-nil (text_of r.lines)
          ∙ ap text_of (sym f.1 ∙ e.lines),
    )

-- ---- laws of dumps

-- no two sound pairs have one dump
pub one_dump : (vars names : List Var) (calls tape : Calls) → IsSound vars calls → IsSound names tape → dump_of vars calls ≡ dump_of names tape
    → (vars ≡ names) × (calls ≡ tape)
one_dump vars names calls tape a b is =
    let same = same_lines (lines_of vars calls) names tape [] (lines_fit vars calls a) b refl (append-nil (dump_of vars calls) ∙ is) in
    let x = reads_all vars calls a in
    let y = reads_all names tape b in
    let at_new : Some x.new ≡ Some y.new = sym x.went ∙ ap (behind_all begun) same ∙ y.went in
    let here : x.new ≡ y.new = cc in
    pair_parts vars names calls tape (sym x.pair ∙ ap pair_at here ∙ y.pair)

-- an earlier fault is none
not_less : (bytes : List ℕ) (a b : ℕ) → IsFault bytes a → IsFault bytes b → a < b → ⊥
not_less bytes a b fa fb less = elim fa.there [
  | inl dead ↦ dead.1 (fb.before a less)
  | inr over ↦ elim fb.there [
    | inl dead ↦ omega (arith, over, dead.0, less)
    | inr last ↦ omega (arith, over, last, less)
  ]
]

-- a text has one fault at most
pub one_fault : (bytes : List ℕ) (a b : ℕ) → IsFault bytes a → IsFault bytes b → a ≡ b
one_fault bytes a b fa fb =
    let up : a < b → ⊥ = not_less bytes a b fa fb in
    let down : b < a → ⊥ = not_less bytes b a fb fa in
    grind arith
