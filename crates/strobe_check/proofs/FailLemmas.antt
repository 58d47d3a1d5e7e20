-- The fails of one signal: what one more entry adds to them, and the window that it leaves open.
use Rattle.std.proofs.Common.{◌≡◌, ℕ, Bool, true, false, cond, not, ◌&&◌, List, [], ◌∷◌, ◌++◌, length, map, Option, Some, None, refl, sym, ap, ◌∙◌, zero-add}
use Rattle.std.proofs.lemmas.List.{append-nil, append_assoc}
use Rattle.std.proofs.lemmas.List.Elements.{filter_map-append}
use Rattle.std.proofs.lemmas.List.Folds.{list_all-append}
use Rattle.std.specs.List.{cons_option, enumerate_from, filter_map, find, list_all}
use Rattle.std.specs.Option.{option_map}
use Rattle.std.proofs.Math.Bool.{and-true}
use Rattle.text_bytes.proofs.ListLemmas.{enumerate_from-push}
use Rattle.tester_types.specs.declared.wave.Look.{Look}
use Rattle.tester_types.specs.declared.wave.Look.TheVariants.{Low, High, Off, LowWindow, HighWindow, OffWindow, Close}
use Rattle.tester_types.specs.declared.level.Level.{Level}
use Rattle.tester_types.specs.declared.record.Fail.{Fail}
use Rattle.strobe_check.specs.Look.{is_edge, is_window, is_met}
use Rattle.strobe_check.specs.Entry.{Entry, looks_at, level_of, fail_at}
use Rattle.strobe_check.specs.Extent.{Extent, inside_last, inside_followed, extents_here, extents}
use Rattle.strobe_check.specs.Fails.{meets, fail_of, fails_of}
use Rattle.strobe_check.specs.History.{open_in, last_open, open_window}
use Rattle.strobe_check.specs.Step.{opened, window_after, failed_edges, failed_window, failed, left_open}
use Rattle.strobe_check.proofs.ListLemmas.{cons_option-append}
use Rattle.strobe_check.proofs.ExtentLemmas.{looks, extent, grow, grow_last, extents-looked, extents-quiet}

-- the fail of a look at an entry, with its place
abbrev pub fail_here : ℕ → ℕ × Entry → Look → ℕ × Fail
fail_here signal entry look = (entry.0, fail_at signal look entry.1)

-- the level of a signal at an entry with its place
abbrev pub level : ℕ → ℕ × Entry → Level
level signal entry = level_of signal entry.1

-- the first of the entries that doesn't meet a look, and its fail in front of others
abbrev unmet : ℕ → Look → List (ℕ × Entry) → Option (ℕ × Entry)
unmet signal look inside = find (λ e. not (meets signal look e)) inside

-- the fail of a look, if there is one, in front of others
abbrev with_fail : ℕ → Look → Option (ℕ × Entry) → List (ℕ × Fail) → List (ℕ × Fail)
with_fail signal look entry rest = cons_option (option_map (λ e. fail_here signal e look) entry) rest

-- the fail of a window at an entry, and the window itself if it has been met so far
abbrev window_fails : ℕ → ℕ × Entry → Option Look → List (ℕ × Fail)
window_fails signal entry window = map (fail_here signal entry) (failed_window (level signal entry) window)

-- the window of a look, if a test passes
abbrev window_if : Bool → Look → Option Look
window_if b look = cond b (Some look) None

-- ---- an entry without looks at the signal

window_here : (signal : ℕ) (entry : ℕ × Entry) (look : Look) (b : Bool)
    → with_fail signal look (cond (not b) (Some entry) None) [] ≡ map (fail_here signal entry) (cond b [] (look ∷ []))
window_here signal entry look true = refl
window_here signal entry look false = refl

-- a first entry inside: it meets the look, or the others count for nothing
grow-first : (signal : ℕ) (look : Look) (entry first : ℕ × Entry) (inside : List (ℕ × Entry)) (b : Bool)
    → with_fail signal look (unmet signal look (inside ++ entry ∷ [])) []
    ≡ with_fail signal look (unmet signal look inside) []
    ++ window_fails signal entry (window_if (list_all (meets signal look) inside) look)
    → with_fail signal look (cond (not b) (Some first) (unmet signal look (inside ++ entry ∷ []))) []
    ≡ with_fail signal look (cond (not b) (Some first) (unmet signal look inside)) []
    ++ window_fails signal entry (window_if (b && list_all (meets signal look) inside) look)
grow-first signal look entry first inside true rest = rest
grow-first signal look entry first inside false rest = refl

-- a window that has been met so far, or hasn't
grow-fails : (signal : ℕ) (look : Look) (entry : ℕ × Entry) (inside : List (ℕ × Entry))
    → with_fail signal look (unmet signal look (inside ++ entry ∷ [])) []
    ≡ with_fail signal look (unmet signal look inside) []
    ++ window_fails signal entry (window_if (list_all (meets signal look) inside) look)
grow-fails signal look entry [] = window_here signal entry look (is_met look (level signal entry))
grow-fails signal look entry (e ∷ es) =
    grow-first signal look entry e es (meets signal look e) (grow-fails signal look entry es)

fails-grow : (signal : ℕ) (entry : ℕ × Entry) (x : Extent)
    → cons_option (fail_of signal (grow entry x)) []
    ≡ cons_option (fail_of signal x) [] ++ window_fails signal entry (open_in signal x)
fails-grow signal entry x = by (is_window x.look)
  where
    by : (b : Bool)
        → with_fail signal x.look (unmet signal x.look (cond b (x.inside ++ entry ∷ []) x.inside)) []
        ≡ cons_option (fail_of signal x) []
        ++ window_fails signal entry (window_if (b && list_all (meets signal x.look) x.inside) x.look)
    by true = grow-fails signal x.look entry x.inside
    by false = sym (append-nil _)

fails-grow_last : (signal : ℕ) (entry : ℕ × Entry) (xs : List Extent)
    → filter_map (fail_of signal) (grow_last entry xs)
    ≡ filter_map (fail_of signal) xs ++ window_fails signal entry (last_open signal xs)
fails-grow_last signal entry [] = refl
fails-grow_last signal entry (x ∷ []) = fails-grow signal entry x
fails-grow_last signal entry (x ∷ y ∷ xs) =
    ap (cons_option (fail_of signal x)) (fails-grow_last signal entry (y ∷ xs))
    ∙ cons_option-append (fail_of signal x) _ _

-- ---- and the window that it leaves

open_in-grow : (signal : ℕ) (entry : ℕ × Entry) (x : Extent)
    → open_in signal (grow entry x) ≡ left_open (level signal entry) (open_in signal x)
open_in-grow signal entry x = by (is_window x.look)
  where
    one : (c : Bool)
        → window_if (c && (meets signal x.look entry && true)) x.look
        ≡ left_open (level signal entry) (window_if c x.look)
    one true = ap (λ b. cond b (Some x.look) None) (and-true (meets signal x.look entry))
    one false = refl

    by : (b : Bool)
        → window_if (b && list_all (meets signal x.look) (cond b (x.inside ++ entry ∷ []) x.inside)) x.look
        ≡ left_open (level signal entry) (window_if (b && list_all (meets signal x.look) x.inside) x.look)
    by true =
        ap (λ b. window_if b x.look) (list_all-append (meets signal x.look) x.inside (entry ∷ []))
        ∙ one (list_all (meets signal x.look) x.inside)
    by false = refl

grow_last-some : (entry : ℕ × Entry) (y : Extent) (xs : List Extent)
    → (z : Extent) × (zs : List Extent) × (grow_last entry (y ∷ xs) ≡ z ∷ zs)
grow_last-some entry y [] = (_, _, refl)
grow_last-some entry y (x ∷ xs) = (_, _, refl)

open-grow_last : (signal : ℕ) (entry : ℕ × Entry) (xs : List Extent)
    → last_open signal (grow_last entry xs) ≡ left_open (level signal entry) (last_open signal xs)
open-grow_last signal entry [] = refl
open-grow_last signal entry (x ∷ []) = open_in-grow signal entry x
open-grow_last signal entry (x ∷ y ∷ xs) =
    let some = (grow_last-some entry y xs).2 in
    ap (λ l. last_open signal (x ∷ l)) some ∙ ap (last_open signal) (sym some)
    ∙ open-grow_last signal entry (y ∷ xs)

-- ---- an entry with looks at the signal

edge_here : (signal : ℕ) (entry : ℕ × Entry) (look : Look) (edges window : List Look) (b : Bool)
    → with_fail signal look (cond (not b) (Some entry) None) (map (fail_here signal entry) (edges ++ window))
    ≡ map (fail_here signal entry) (cond (not b) (look ∷ edges) edges ++ window)
edge_here signal entry look edges window true = refl
edge_here signal entry look edges window false = refl

-- the last look of the instant
fails-last : (signal : ℕ) (entry : ℕ × Entry) (look : Look)
    → filter_map (fail_of signal) (extents_here (look ∷ []) entry [])
    ≡ map (fail_here signal entry) (failed (level signal entry) None (look ∷ []))
fails-last signal entry Low = edge_here signal entry Low [] [] (is_met Low (level signal entry))
fails-last signal entry High = edge_here signal entry High [] [] (is_met High (level signal entry))
fails-last signal entry Off = edge_here signal entry Off [] [] (is_met Off (level signal entry))
fails-last signal entry LowWindow =
    window_here signal entry LowWindow (is_met LowWindow (level signal entry))
fails-last signal entry HighWindow =
    window_here signal entry HighWindow (is_met HighWindow (level signal entry))
fails-last signal entry OffWindow =
    window_here signal entry OffWindow (is_met OffWindow (level signal entry))
fails-last signal entry Close = refl

-- a look that another one follows
fails-followed : (signal : ℕ) (entry : ℕ × Entry) (look : Look) (edges window : List Look)
    → cons_option (fail_of signal (extent look (inside_followed look entry)))
    (map (fail_here signal entry) (edges ++ window))
    ≡ map (fail_here signal entry)
    (cond (is_edge look && not (is_met look (level signal entry))) (look ∷ edges) edges ++ window)
fails-followed signal entry Low edges window =
    edge_here signal entry Low edges window (is_met Low (level signal entry))
fails-followed signal entry High edges window =
    edge_here signal entry High edges window (is_met High (level signal entry))
fails-followed signal entry Off edges window =
    edge_here signal entry Off edges window (is_met Off (level signal entry))
fails-followed signal entry LowWindow edges window = refl
fails-followed signal entry HighWindow edges window = refl
fails-followed signal entry OffWindow edges window = refl
fails-followed signal entry Close edges window = refl

fails-here : (signal : ℕ) (entry : ℕ × Entry) (window : Option Look) (look : Look) (ls : List Look)
    → filter_map (fail_of signal) (extents_here (look ∷ ls) entry [])
    ≡ map (fail_here signal entry) (failed (level signal entry) window (look ∷ ls))
fails-here signal entry window look [] = fails-last signal entry look
fails-here signal entry window look (next ∷ ls) =
    ap (cons_option (fail_of signal (extent look (inside_followed look entry))))
    (fails-here signal entry window next ls)
    ∙ fails-followed signal entry look (failed_edges (level signal entry) (next ∷ ls))
    (failed_window (level signal entry) (window_after window (next ∷ ls)))

last_open-append : (signal : ℕ) (xs : List Extent) (y : Extent) (ys : List Extent)
    → last_open signal (xs ++ y ∷ ys) ≡ last_open signal (y ∷ ys)
last_open-append signal [] y ys = refl
last_open-append signal (x ∷ []) y ys = refl
last_open-append signal (x ∷ x' ∷ xs) y ys = last_open-append signal (x' ∷ xs) y ys

open-last : (signal : ℕ) (entry : ℕ × Entry) (look : Look)
    → open_in signal (extent look (inside_last look entry []))
    ≡ left_open (level signal entry) (opened look)
open-last signal entry Low = refl
open-last signal entry High = refl
open-last signal entry Off = refl
open-last signal entry LowWindow =
    ap (λ b. cond b (Some LowWindow) None) (and-true (is_met LowWindow (level signal entry)))
open-last signal entry HighWindow =
    ap (λ b. cond b (Some HighWindow) None) (and-true (is_met HighWindow (level signal entry)))
open-last signal entry OffWindow =
    ap (λ b. cond b (Some OffWindow) None) (and-true (is_met OffWindow (level signal entry)))
open-last signal entry Close = refl

open-here : (signal : ℕ) (entry : ℕ × Entry) (window : Option Look) (xs : List Extent) (look : Look)
    (ls : List Look)
    → last_open signal (xs ++ extents_here (look ∷ ls) entry [])
    ≡ left_open (level signal entry) (window_after window (look ∷ ls))
open-here signal entry window xs look [] =
    last_open-append signal xs _ [] ∙ open-last signal entry look
open-here signal entry window xs look (next ∷ ls) =
    let x = extent look (inside_followed look entry) in
    ap (last_open signal) (sym (append_assoc xs (x ∷ []) (extents_here (next ∷ ls) entry [])))
    ∙ open-here signal entry window (xs ++ x ∷ []) next ls

-- ---- one more entry of a cycle

fails-push : (signal : ℕ) (entries : List (ℕ × Entry)) (entry : ℕ × Entry) (ls : List Look)
    → looks signal entry ≡ ls
    → filter_map (fail_of signal) (extents signal (entries ++ entry ∷ []))
    ≡ filter_map (fail_of signal) (extents signal entries)
    ++ map (fail_here signal entry) (failed (level signal entry) (last_open signal (extents signal entries)) ls)
fails-push signal entries entry [] is =
    ap (filter_map (fail_of signal)) (extents-quiet signal entries entry is)
    ∙ fails-grow_last signal entry (extents signal entries)
fails-push signal entries entry (look ∷ ls) is =
    let before = extents signal entries in
    ap (filter_map (fail_of signal)) (extents-looked signal entries entry look ls is)
    ∙ filter_map-append (fail_of signal) before (extents_here (look ∷ ls) entry [])
    ∙ ap (λ l. filter_map (fail_of signal) before ++ l)
    (fails-here signal entry (last_open signal before) look ls)

open-push : (signal : ℕ) (entries : List (ℕ × Entry)) (entry : ℕ × Entry) (ls : List Look)
    → looks signal entry ≡ ls
    → last_open signal (extents signal (entries ++ entry ∷ []))
    ≡ left_open (level signal entry) (window_after (last_open signal (extents signal entries)) ls)
open-push signal entries entry [] is =
    ap (last_open signal) (extents-quiet signal entries entry is)
    ∙ open-grow_last signal entry (extents signal entries)
open-push signal entries entry (look ∷ ls) is =
    let before = extents signal entries in
    ap (last_open signal) (extents-looked signal entries entry look ls is)
    ∙ open-here signal entry (last_open signal before) before look ls

pub numbered-push : (entries : List Entry) (entry : Entry)
    → enumerate_from 0 (entries ++ entry ∷ [])
    ≡ enumerate_from 0 entries ++ (length entries, entry) ∷ []
numbered-push entries entry =
    enumerate_from-push 0 entries entry
    ∙ ap (λ k. enumerate_from 0 entries ++ (k, entry) ∷ []) (zero-add (length entries))

-- the fails of a signal with one more entry, and without
pub fails_of-push : (signal : ℕ) (entries : List Entry) (entry : Entry)
    → fails_of signal (entries ++ entry ∷ [])
    ≡ fails_of signal entries
    ++ map (fail_here signal (length entries, entry))
    (failed (level_of signal entry) (open_window signal entries) (looks_at signal entry.moment))
unfolding open_window
fails_of-push signal entries entry =
    ap (λ l. filter_map (fail_of signal) (extents signal l)) (numbered-push entries entry)
    ∙ fails-push signal (enumerate_from 0 entries) (length entries, entry) _ refl

-- the open window after one more entry
pub open_window-push : (signal : ℕ) (entries : List Entry) (entry : Entry)
    → open_window signal (entries ++ entry ∷ [])
    ≡ left_open (level_of signal entry) (window_after (open_window signal entries) (looks_at signal entry.moment))
unfolding open_window
open_window-push signal entries entry =
    ap (λ l. last_open signal (extents signal l)) (numbered-push entries entry)
    ∙ open-push signal (enumerate_from 0 entries) (length entries, entry) _ refl
