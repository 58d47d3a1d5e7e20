-- The moments of a cycle, one after another: the windows that are open behind them, their fails, and the number of these.
use Rattle.std.proofs.Common.{◌≡◌, ℕ, zero, suc, ◌+◌, ◌<◌, ◌≤◌, ◌++◌, Bool, true, false, ◌&&◌, cond, min, List, [], ◌∷◌, length, get_or, take, map, fold, Option, Some, None, refl, sym, ap, ◌∙◌, subst, arith}
use Rattle.std.specs.Int.{bit_at}
use Rattle.std.specs.List.{AllByRecursion, flat_map}
use Rattle.std.proofs.lemmas.List.{take_more, take_all}
use Rattle.std.proofs.lemmas.List.Sums.{fold_push}
use Rattle.std.proofs.lemmas.List.FromFn.{length-map-range_with_len}
use Rattle.std.proofs.lemmas.Nat.Bits.{bit_at-lt}
use Rattle.text_bytes.proofs.ListLemmas.{all_append}
use Rattle.tester_types.specs.declared.wave.Look.{Look}
use Rattle.tester_types.specs.declared.record.Fail.{Fail}
use Rattle.tester_types.specs.declared.cycle.Moment.{Moment}
use Rattle.die_sim.specs.Die.{Image, Device, State, IsOfNet, device_of}
use Rattle.strobe_check.specs.Entry.{Entry, looks_at, fail_at}
use Rattle.strobe_check.specs.Fails.{bound_signals, fails}
use Rattle.strobe_check.specs.Step.{window_after}
use Rattle.strobe_check.proofs.CycleLemmas.{new_fails, fails-push}
use Rattle.strobe_check.proofs.HistoryLemmas.{fails-none}
use Rattle.edge_gen.specs.Moments.{later}
use Rattle.site_meaning.specs.Playing.{Along, Whose, is_bound, bound_of, after_moment, after_moments, entry_of, entries_in}
use Rattle.cycle_run.proofs.StepLemmas.{after_moments-append, after_moments-one, entries_in-append, entries_in-one, entries_in-none, map-more}
use Rattle.die_words.specs.Lane.{bit}
use Rattle.word_run.specs.Checks.{window_on, window_behind}
use Rattle.word_run.specs.Judge.{are_met}
use Rattle.word_run.specs.Board.{window_of, AreWindows, is_clear, are_clear}
use Rattle.word_run.specs.First.{first_fail}
use Rattle.word_run.proofs.JudgeLemmas.{bits_more}
use Rattle.word_run.proofs.ClearLemmas.{clear_next}

-- ---- windows

-- those of entries are those of their moments
windows-same : (device : Device) (whose : Whose) (along : Along) (start s : ℕ) (window : Option Look) (moments : List Moment)
    → fold (window_on s) window (entries_in device whose along (map (later start) moments))
    ≡ fold (λ w moment. window_after w (looks_at s moment)) window moments
unfolding entries_in
windows-same device whose along start s window [] = refl
windows-same device whose along start s window (moment ∷ moments) =
    windows-same device whose (after_moment device along (later start moment)) start s (window_after window (looks_at s moment)) moments

windows_of-entries : (device : Device) (whose : Whose) (along : Along) (start s : ℕ) (moments : List Moment)
    → window_behind s (entries_in device whose along (map (later start) moments)) ≡ window_of s moments
unfolding window_behind window_of
windows_of-entries device whose along start s moments = windows-same device whose along start s None moments

window_of-none : (s : ℕ) → window_of s [] ≡ None
unfolding window_of
window_of-none s = refl

window_of-next : (s i : ℕ) (moments : List Moment) (moment : Moment) → i < length moments → moment ≡ get_or moments i moment
    → window_of s (take (i + 1) moments) ≡ window_after (window_of s (take i moments)) (looks_at s moment)
unfolding window_of
window_of-next s i moments moment within is =
    ap (λ (l : List Moment). fold (λ w m. window_after w (looks_at s m)) None l)
    (take_more moments i moment within ∙ ap (λ (m : Moment). take i moments ++ m ∷ []) (sym is))
    ∙ fold_push (λ w m. window_after w (looks_at s m)) None (take i moments) moment

-- no window is open before the first moment
pub windows_closed : (signals : ℕ) (windows : List (Option Look)) → length windows ≡ signals
    → ((s : ℕ) → get_or windows s None ≡ None) → AreWindows signals [] windows
windows_closed signals windows count none = record {
  count = count;
  each = λ s within. none s ∙ sym (window_of-none s);
}

-- one more moment
pub windows_next : (signals i : ℕ) (moments : List Moment) (moment : Moment) (old new : List (Option Look)) → i < length moments
    → moment ≡ get_or moments i moment → AreWindows signals (take i moments) old → length new ≡ signals
    → ((s : ℕ) → s < signals → get_or new s None ≡ window_after (get_or old s None) (looks_at s moment))
    → AreWindows signals (take (i + 1) moments) new
windows_next signals i moments moment old new within is before count each = record {
  count = count;
  each = λ s inside. each s inside
      ∙ ap (λ (w : Option Look). window_after w (looks_at s moment)) (before.each s inside)
      ∙ sym (window_of-next s i moments moment within is);
}

-- ---- the moments of a cycle

-- a moment that is so much later leaves a die in the same state
pub after-later : (device : Device) (along : Along) (start i : ℕ) (moments : List Moment) (moment : Moment) → i < length moments
    → moment ≡ get_or moments i moment
    → after_moment device (after_moments device along (map (later start) (take i moments))) moment
    ≡ after_moments device along (map (later start) (take (i + 1) moments))
after-later device along start i moments moment within is =
    sym (ap (after_moments device along) (map-more (later start) moments i moment within is)
    ∙ after_moments-append device along (map (later start) (take i moments)) (later start moment ∷ [])
    ∙ after_moments-one device (after_moments device along (map (later start) (take i moments))) (later start moment))

entries-later : (device : Device) (whose : Whose) (along : Along) (start i : ℕ) (moments : List Moment) (moment : Moment)
    → i < length moments → moment ≡ get_or moments i moment
    → entries_in device whose along (map (later start) (take (i + 1) moments))
    ≡ entries_in device whose along (map (later start) (take i moments))
    ++ entry_of device whose (later start moment)
    (after_moment device (after_moments device along (map (later start) (take i moments))) moment).die ∷ []
entries-later device whose along start i moments moment within is =
    let front = map (later start) (take i moments) in
    ap (entries_in device whose along) (map-more (later start) moments i moment within is)
    ∙ entries_in-append device whose along front (later start moment ∷ [])
    ∙ ap (λ (l : List Entry). entries_in device whose along front ++ l)
    (entries_in-one device whose (after_moments device along front) (later start moment))

clear_is : (xs : List Fail) → is_clear xs ≡ true → xs ≡ []
clear_is [] e = refl
clear_is (x ∷ xs) e = cc

-- where there was a fail, there still is one
still_unclear : (xs ys : List Fail) → is_clear xs ≡ false → is_clear (xs ++ ys) ≡ false
still_unclear [] ys e = cc
still_unclear (x ∷ xs) ys e = refl

unclear_lane : (a m : ℕ) → min (min a 0) m ≡ min a 0
unclear_lane a m = omega arith

-- every signal is looked at or not, as the die's binding says
length-bound : (device : Device) → length (bound_of device) ≡ length device.binds
length-bound device = length-map-range_with_len (is_bound device) 0 (length device.binds)

-- the lanes that are left behind one more moment
pub clear_more : (device : Device) (whose : Whose) (along : Along) (start i : ℕ) (moments : List Moment) (moment : Moment)
    (bound : List Bool) (windows : List (Option Look)) (alive left next k : ℕ) → i < length moments
    → moment ≡ get_or moments i moment → bound ≡ bound_of device → AreWindows (length device.binds) (take (i + 1) moments) windows
    → bit_at left k ≡ min (bit_at alive k) (bit (are_clear device whose along (map (later start) (take i moments))))
    → bit_at next k ≡ min (bit_at left k)
    (bit (are_met bound device (after_moment device (after_moments device along (map (later start) (take i moments))) moment).die
    windows moment.looks))
    → bit_at next k ≡ min (bit_at alive k) (bit (are_clear device whose along (map (later start) (take (i + 1) moments))))
clear_more device whose along start i moments moment bound windows alive left next k within is same windows_are before here =
    by (is_clear (fails bound entries)) refl
  where
    entries : List Entry
    entries = entries_in device whose along (map (later start) (take i moments))

    state : State
    state = (after_moment device (after_moments device along (map (later start) (take i moments))) moment).die

    new : Entry
    new = entry_of device whose (later start moment) state

    more : entries_in device whose along (map (later start) (take (i + 1) moments)) ≡ entries ++ new ∷ []
    more = entries-later device whose along start i moments moment within is

    goal_is : is_clear (fails bound (entries ++ new ∷ [])) ≡ are_clear device whose along (map (later start) (take (i + 1) moments))
    goal_is =
        ap (λ (l : List Entry). is_clear (fails bound l)) (sym more)
        ∙ ap (λ (b : List Bool). is_clear (fails b (entries_in device whose along (map (later start) (take (i + 1) moments))))) same

    was : bit_at left k ≡ min (bit_at alive k) (bit (is_clear (fails bound entries)))
    was = before ∙ ap (λ (b : List Bool). min (bit_at alive k) (bit (is_clear (fails b entries)))) (sym same)

    by : (c : Bool) → is_clear (fails bound entries) ≡ c
        → bit_at next k ≡ min (bit_at alive k) (bit (are_clear device whose along (map (later start) (take (i + 1) moments))))
    by true clear =
        let none = clear_is (fails bound entries) clear in
        let wide = ap (λ (l : List Bool). length l) same ∙ length-bound device in
        let met = clear_next device whose (later start moment) state bound entries windows wide (windows_are.count ∙ sym wide)
        (λ s inside. windows_are.each s (omega (arith, inside, wide))
        ∙ window_of-next s i moments moment within is
        ∙ ap (λ (w : Option Look). window_after w (looks_at s moment)) (sym (windows_of-entries device whose along start s (take i moments))))
        none in
        bits_more alive left next k (is_clear (fails bound entries)) (are_met bound device state windows moment.looks)
        (are_clear device whose along (map (later start) (take (i + 1) moments)))
        (sym goal_is ∙ met ∙ ap (λ (b : Bool). b && are_met bound device state windows moment.looks) (sym clear)) was here
    by false unclear =
        let fails_more = ap is_clear (fails-push bound entries new) ∙ still_unclear (fails bound entries) _ unclear in
        here ∙ ap (λ (n : ℕ). min n (bit (are_met bound device state windows moment.looks)))
        (was ∙ ap (λ (b : Bool). min (bit_at alive k) (bit b)) unclear)
        ∙ unclear_lane (bit_at alive k) (bit (are_met bound device state windows moment.looks))
        ∙ ap (λ (b : Bool). min (bit_at alive k) (bit b)) (sym fails_more ∙ goal_is)

-- before the first moment
pub clear_none : (device : Device) (whose : Whose) (along : Along) (start : ℕ) (moments : List Moment) (alive k : ℕ)
    → bit_at alive k ≡ min (bit_at alive k) (bit (are_clear device whose along (map (later start) (take 0 moments))))
clear_none device whose along start moments alive k =
    all_left (bit_at alive k) (bit_at-lt alive k)
    ∙ ap (λ (l : List Fail). min (bit_at alive k) (bit (is_clear l)))
    (sym (ap (fails (bound_of device)) (entries_in-none device whose along) ∙ fails-none (bound_of device)))
  where
    all_left : (a : ℕ) → a < 2 → a ≡ min a 1
    all_left a l = omega arith

-- ---- the number of a cycle's fails

numbered_here : (n : ℕ) (signal : ℕ) (entry : Entry) (looks : List Look) → entry.cycle ≡ n
    → AllByRecursion (λ fail. fail.cycle ≡ n) (map (λ look. fail_at signal look entry) looks)
numbered_here n signal entry [] is = tt
numbered_here n signal entry (look ∷ looks) is = (is, numbered_here n signal entry looks is)

numbered_all : (n : ℕ) (f : ℕ → List Fail) (signals : List ℕ) → ((s : ℕ) → AllByRecursion (λ fail. fail.cycle ≡ n) (f s))
    → AllByRecursion (λ fail. fail.cycle ≡ n) (flat_map f signals)
numbered_all n f [] each = tt
numbered_all n f (s ∷ signals) each =
    all_append (λ fail. fail.cycle ≡ n) (f s) (flat_map f signals) (each s) (numbered_all n f signals each)

-- the fails of entries that are behind others
numbered_next : (n : ℕ) (bound : List Bool) (before : List Entry) (entry : Entry) → entry.cycle ≡ n
    → AllByRecursion (λ fail. fail.cycle ≡ n) (fails bound before)
    → AllByRecursion (λ fail. fail.cycle ≡ n) (fails bound (before ++ entry ∷ []))
numbered_next n bound before entry is front =
    subst (λ (l : List Fail). AllByRecursion (λ fail. fail.cycle ≡ n) l) (sym (fails-push bound before entry))
    (all_append (λ fail. fail.cycle ≡ n) (fails bound before) (flat_map (new_fails before entry) (bound_signals bound)) front
    (numbered_all n (new_fails before entry) (bound_signals bound) (λ s. numbered_here n s entry _ is)))

numbered_to : (bound : List Bool) (device : Device) (whose : Whose) (along : Along) (moments : List Moment) (i : ℕ)
    → i ≤ length moments
    → AllByRecursion (λ fail. fail.cycle ≡ whose.cycle) (fails bound (entries_in device whose along (take i moments)))
numbered_to bound device whose along moments zero within =
    subst (λ (l : List Fail). AllByRecursion (λ fail. fail.cycle ≡ whose.cycle) l)
    (sym (ap (fails bound) (entries_in-none device whose along) ∙ fails-none bound)) tt
numbered_to bound device whose along moments (suc i) within =
    let here : i < length moments = omega (arith, within) in
    let next : i + 1 ≡ suc i = omega arith in
    let moment = get_or moments i none in
    let front = after_moments device along (take i moments) in
    let more : entries_in device whose along (take (suc i) moments)
    ≡ entries_in device whose along (take i moments) ++ entry_of device whose moment (after_moment device front moment).die ∷ [] =
    ap (λ (n : ℕ). entries_in device whose along (take n moments)) (sym next)
    ∙ ap (entries_in device whose along) (take_more moments i none here)
    ∙ entries_in-append device whose along (take i moments) (moment ∷ [])
    ∙ ap (λ (l : List Entry). entries_in device whose along (take i moments) ++ l) (entries_in-one device whose front moment) in
    subst (λ (l : List Entry). AllByRecursion (λ fail. fail.cycle ≡ whose.cycle) (fails bound l)) (sym more)
    (numbered_next whose.cycle bound (entries_in device whose along (take i moments))
    (entry_of device whose moment (after_moment device front moment).die) refl
    (numbered_to bound device whose along moments i (omega (arith, here))))
  where
    none : Moment
    none = record { at = 0; drives = []; looks = [] }

first_numbered : (n : ℕ) (xs : List Fail) → AllByRecursion (λ fail. fail.cycle ≡ n) xs
    → first_fail xs ≡ cond (is_clear xs) None (Some n)
first_numbered n [] all = refl
first_numbered n (x ∷ xs) all = ap (λ (m : ℕ). Some m) all.0

-- the first fail of a cycle, if it has one, has its number
pub first_is : (device : Device) (whose : Whose) (along : Along) (moments : List Moment)
    → first_fail (fails (bound_of device) (entries_in device whose along moments))
    ≡ cond (are_clear device whose along moments) None (Some whose.cycle)
first_is device whose along moments =
    let all : take (length moments) moments ≡ moments = take_all (length moments) moments (omega arith) in
    first_numbered whose.cycle (fails (bound_of device) (entries_in device whose along moments))
    (subst (λ (l : List Moment). AllByRecursion (λ fail. fail.cycle ≡ whose.cycle) (fails (bound_of device) (entries_in device whose along l)))
    all (numbered_to (bound_of device) device whose along moments (length moments) (omega arith)))

-- ---- dies of one netlist

-- what is looked at depends on the binding alone
pub same_bound : (device : Device) (image : Image) → IsOfNet device image → bound_of device ≡ bound_of (device_of image)
same_bound device image of = bound_by of.clock of.binds
  where
    bound_by : device.clock ≡ image.clock → device.binds ≡ image.binds → bound_of device ≡ bound_of (device_of image)
    bound_by clock binds = λ i. bound_of (record { circuit = device.circuit; clock = clock i; binds = binds i; fixed = device.fixed })
