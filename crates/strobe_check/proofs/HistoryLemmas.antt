-- What a checker holds as its history grows.
use Rattle.std.proofs.Common.{◌≡◌, ℕ, ◌+◌, ◌-◌, ◌^◌, ◌<◌, ◌≤◌, min, Bool, true, false, cond, ◌&&◌, List, [], ◌∷◌, ◌++◌, length, get_or, take, map, replicate, Option, None, refl, sym, ap, subst, ◌∙◌, zero-add}
use Rattle.std.proofs.Math.Nat.{min-le_right}
use Rattle.std.proofs.lemmas.List.{append-nil, get_or-map, length-map, length-take, take_all}
use Rattle.std.proofs.lemmas.List.FromFn.{get_or-enumerate_from, length-enumerate_from}
use Rattle.std.specs.List.{enumerate_from}
use Rattle.tester_types.specs.declared.wave.Look.{Look}
use Rattle.tester_types.specs.declared.cycle.Moment.{Moment}
use Rattle.strobe_check.specs.Entry.{Entry}
use Rattle.strobe_check.specs.Fails.{fails}
use Rattle.strobe_check.specs.Count.{HasCounted}
use Rattle.strobe_check.specs.Sensed.{is_sensed}
use Rattle.strobe_check.specs.Step.{is_watched}
use Rattle.strobe_check.proofs.SensedLemmas.{is_sensed-watched}
use Rattle.strobe_check.specs.History.{History, most_numbered, numbered, fresh, all_fails, with_cycle_closed, open_window, open_windows, Held, HasSeen}

-- a cycle without entries has no fails and no windows
pub fails-none : (bound : List Bool) → fails bound [] ≡ []
unfolding fails
fails-none bound = refl

open_window-none : (signal : ℕ) → open_window signal [] ≡ None
unfolding open_window
open_window-none signal = refl

cond_same : {X : Type 0} (b : Bool) (x : X) → cond b x x ≡ x
cond_same true x = refl
cond_same false x = refl

open_windows-from : (n : ℕ) (bound : List Bool)
    → map (λ signal. cond signal.1 (open_window signal.0 []) None) (enumerate_from n bound)
    ≡ replicate (length bound) None
open_windows-from n [] = refl
open_windows-from n (b ∷ bound) =
    ap (λ w. w ∷ map (λ signal. cond signal.1 (open_window signal.0 []) None) (enumerate_from (n + 1) bound))
    (ap (λ w. cond b w None) (open_window-none n) ∙ cond_same b None)
    ∙ ap (λ l. None ∷ l) (open_windows-from (n + 1) bound)

pub open_windows-none : (bound : List Bool) → open_windows bound [] ≡ replicate (length bound) None
open_windows-none bound = open_windows-from 0 bound

pub length-open_windows : (bound : List Bool) (entries : List Entry)
    → length (open_windows bound entries) ≡ length bound
length-open_windows bound entries =
    length-map (enumerate_from 0 bound) (λ signal. cond signal.1 (open_window signal.0 entries) None)
    ∙ length-enumerate_from 0 bound

-- the window of one signal
pub get_or-open_windows : (bound : List Bool) (entries : List Entry) (k : ℕ) (d : Option Look)
    → k < length bound
    → get_or (open_windows bound entries) k d
    ≡ cond (get_or bound k false) (open_window k entries) None
get_or-open_windows bound entries k d within =
    let window = λ (signal : ℕ × Bool). cond signal.1 (open_window signal.0 entries) None in
    get_or-map window (enumerate_from 0 bound) k (0, false) d (rw length-enumerate_from within)
    ∙ ap window (get_or-enumerate_from 0 bound k (0, false) within)
    ∙ ap (λ j. cond (get_or bound k false) (open_window j entries) None) (zero-add k)

-- a list of few signals has numbers for all of them
pub numbered-all : (bound : List Bool) → length bound ≤ most_numbered → numbered bound ≡ bound
unfolding numbered
numbered-all bound few = take_all most_numbered bound few

pub length-numbered : (bound : List Bool) → length (numbered bound) ≤ length bound
unfolding numbered
length-numbered bound = rw length-take (min-le_right most_numbered (length bound))

-- all fails after the open cycle is closed
all_fails-closed : (history : History) → all_fails (with_cycle_closed history) ≡ all_fails history
all_fails-closed history =
    ap (λ l. all_fails history ++ l) (fails-none history.bound) ∙ append-nil _

pub HasSeen-fresh : (bound : List Bool) (keep : ℕ) (held : Held) → held.bound ≡ bound
    → held.windows ≡ replicate (length bound) None
    → HasCounted keep [] held.count → HasSeen (fresh bound keep) held
HasSeen-fresh bound keep held same windows count = record {
  bound = same;
  windows = windows ∙ sym (open_windows-none bound);
  count = subst (λ l. HasCounted keep l held.count) (sym (fails-none bound)) count;
}

pub HasSeen-closed : (history : History) (before after : Held) → HasSeen history before
    → after.bound ≡ before.bound
    → after.windows ≡ replicate (length before.bound) None → after.count ≡ before.count
    → HasSeen (with_cycle_closed history) after
HasSeen-closed history before after seen same windows count = record {
  bound = same ∙ seen.bound;
  windows = windows ∙ ap (λ l. replicate (length l) None) seen.bound
      ∙ sym (open_windows-none history.bound);
  count = record {
    most = ap (λ c. c.keep) count ∙ seen.count.most;
    first = ap (λ c. c.kept) count ∙ seen.count.first
        ∙ ap (take history.keep) (sym (all_fails-closed history));
    all = ap (λ c. c.total) count ∙ seen.count.all
        ∙ ap (λ l. min (length l) (2 ^ 64 - 1)) (sym (all_fails-closed history));
  };
}

-- ---- what is sensed

pub unbound-sensed : (history : History) (held : Held) (moment : Moment) (signal : ℕ)
    → HasSeen history held
    → get_or held.bound signal false ≡ false
    → false ≡ is_sensed history.bound history.entries moment signal
unbound-sensed history held moment signal seen unbound =
    let is = ap (λ l. get_or l signal false) (sym seen.bound) ∙ unbound in
    sym (is_sensed-watched history.bound history.entries moment signal
    ∙ ap (λ b. b && is_watched (open_window signal history.entries) signal moment.looks) is)

pub bound-sensed : (history : History) (held : Held) (moment : Moment) (signal : ℕ)
    (d window : Option Look)
    → HasSeen history held
    → signal < length held.bound → get_or held.bound signal false ≡ true
    → window ≡ get_or held.windows signal d
    → is_watched window signal moment.looks ≡ is_sensed history.bound history.entries moment signal
bound-sensed history held moment signal d window seen within bound is =
    let here = ap (λ l. get_or l signal false) (sym seen.bound) ∙ bound in
    let left = is ∙ ap (λ l. get_or l signal d) seen.windows
    ∙ get_or-open_windows history.bound history.entries signal d
    (subst (λ l. signal < length l) seen.bound within)
    ∙ ap (λ b. cond b (open_window signal history.entries) None) here in
    ap (λ o. is_watched o signal moment.looks) left
    ∙ sym (is_sensed-watched history.bound history.entries moment signal
    ∙ ap (λ b. b && is_watched (open_window signal history.entries) signal moment.looks) here)
