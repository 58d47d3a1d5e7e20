-- Where a contact is lost in cycles: in the first that has its instant with a call.
use Rattle.std.proofs.Common.{◌≡◌, ℕ, ◌+◌, ◌<◌, ◌≤◌, eqb, List, [], ◌∷◌, ◌++◌, length, Option, Some, None, refl, sym, ap, ◌∙◌, arith}
use Rattle.std.specs.List.{AllByRecursion, find}
use Rattle.std.proofs.lemmas.Bool.{cond-false, ne_eqb, and_left}
use Rattle.std.proofs.lemmas.List.{append_assoc}
use Rattle.tester_types.specs.declared.record.Fail.{Fail}
use Rattle.text_bytes.proofs.ListLemmas.{all_append, all_from}
use Rattle.site_meaning.specs.Playing.{PlayedMoment, PlayedCycle}
use Rattle.site_meaning.specs.Trials.{Lost, behind_cycle, lost_at, is_hit, reached, fails_in}

-- what holds of the instants of all moments of cycles
abbrev pub AllAt : (ℕ → Type 0) → List PlayedCycle → Type 0
AllAt P cycles =
    AllByRecursion (λ (c : PlayedCycle). AllByRecursion (λ (m : PlayedMoment). P m.at) c.moments) cycles

-- all moments of cycles are before an instant
abbrev pub Before : ℕ → List PlayedCycle → Type 0
Before now cycles = AllAt (λ (n : ℕ). n < now) cycles

-- all of them are at an instant or later
abbrev pub From : ℕ → List PlayedCycle → Type 0
From now cycles = AllAt (λ (n : ℕ). now ≤ n) cycles

pub AllAt-weaker : (P Q : ℕ → Type 0) → ((n : ℕ) → P n → Q n) → (cs : List PlayedCycle) → AllAt P cs → AllAt Q cs
AllAt-weaker P Q so cs all =
    all_from (λ (c : PlayedCycle). AllByRecursion (λ (m : PlayedMoment). P m.at) c.moments)
    (λ (c : PlayedCycle). AllByRecursion (λ (m : PlayedMoment). Q m.at) c.moments)
    (λ c h. all_from (λ (m : PlayedMoment). P m.at) (λ (m : PlayedMoment). Q m.at) (λ m k. so m.at k) c.moments h) cs all

pub Before-later : (now then : ℕ) → now ≤ then → (cs : List PlayedCycle) → Before now cs → Before then cs
Before-later now then le cs all =
    AllAt-weaker (λ (n : ℕ). n < now) (λ (n : ℕ). n < then) (λ n h. omega (arith, le, h)) cs all

pub Before-append : (now : ℕ) (xs ys : List PlayedCycle) → Before now xs → Before now ys → Before now (xs ++ ys)
Before-append now xs ys a b =
    all_append (λ (c : PlayedCycle). AllByRecursion (λ (m : PlayedMoment). m.at < now) c.moments) xs ys a b

-- ---- an instant that isn't there

-- no moment of cycles has this instant
abbrev pub Apart : ℕ → List PlayedCycle → Type 0
Apart at cycles = AllAt (λ (n : ℕ). n ≡ at → ⊥) cycles

find-apart : (at : ℕ) (ms : List PlayedMoment) → AllByRecursion (λ (m : PlayedMoment). m.at ≡ at → ⊥) ms
    → find (is_hit at) ms ≡ None
find-apart at [] all = refl
find-apart at (m ∷ ms) all =
    cond-false (is_hit at m) (Some m) (find (is_hit at) ms) (and_left (eqb m.at at) m.calls (ne_eqb m.at at all.0))
    ∙ find-apart at ms all.1

pub reached-apart : (at : ℕ) (cs : List PlayedCycle) → Apart at cs → reached at cs ≡ None
unfolding reached
reached-apart at [] all = refl
reached-apart at (c ∷ cs) all =
    ap (λ (o : Option PlayedMoment). lost_at o (behind_cycle c (reached at cs))) (find-apart at c.moments all.0)
    ∙ ap (behind_cycle c) (reached-apart at cs all.1)

pub before_is_apart : (at : ℕ) (cs : List PlayedCycle) → Before at cs → Apart at cs
before_is_apart at cs all =
    AllAt-weaker (λ (n : ℕ). n < at) (λ (n : ℕ). n ≡ at → ⊥) (λ n h e. omega (arith, h, e)) cs all

-- ---- cycles behind others

-- a contact that was lost behind these cycles
abbrev pub behind : List PlayedCycle → Lost → Lost
behind cs lost = record { cycles = length cs + lost.cycles; fails = fails_in cs ++ lost.fails }

same_lost : (a b : Lost) → a.cycles ≡ b.cycles → a.fails ≡ b.fails → a ≡ b
same_lost a b n f =
    let with_cycles : ℕ → Lost = λ x. record { cycles = x; fails = a.fails } in
    let with_fails : List Fail → Lost = λ x. record { cycles = b.cycles; fails = x } in
    ap with_cycles n ∙ ap with_fails f

behind-none : (lost : Lost) → lost ≡ behind [] lost
unfolding fails_in
behind-none lost = same_lost lost (behind [] lost) (omega arith) refl

behind-more : (c : PlayedCycle) (cs : List PlayedCycle) (lost : Lost)
    → behind_cycle c (Some (behind cs lost)) ≡ Some (behind (c ∷ cs) lost)
unfolding fails_in
behind-more c cs lost =
    let a : Lost = record { cycles = length cs + lost.cycles + 1; fails = c.fails ++ (fails_in cs ++ lost.fails) } in
    let same : a ≡ behind (c ∷ cs) lost =
    same_lost a (behind (c ∷ cs) lost) (omega arith) (sym (append_assoc c.fails (fails_in cs) lost.fails)) in
    ap (λ (l : Lost). Some l) same

-- a contact that isn't lost in the first cycles is lost behind them
pub reached-behind : (at : ℕ) (xs ys : List PlayedCycle) (lost : Lost) → Apart at xs → reached at ys ≡ Some lost
    → reached at (xs ++ ys) ≡ Some (behind xs lost)
unfolding reached
reached-behind at [] ys lost apart is = is ∙ ap (λ (l : Lost). Some l) (behind-none lost)
reached-behind at (x ∷ xs) ys lost apart is =
    ap (λ (o : Option PlayedMoment). lost_at o (behind_cycle x (reached at (xs ++ ys)))) (find-apart at x.moments apart.0)
    ∙ ap (behind_cycle x) (reached-behind at xs ys lost apart.1 is)
    ∙ behind-more x xs lost

-- a place that is none is no place
pub none_or_some : {X : Type 0} (o : Option X) (x : X) → o ≡ None → o ≡ Some x → ⊥
none_or_some o x a b = cc

-- one step: what is found behind the first cycle is found there with more cycles behind
one_more_front : (x : PlayedCycle) (near far : Option Lost) → ((l : Lost) → near ≡ Some l → far ≡ Some l)
    → (hit : Option PlayedMoment) (lost : Lost) → lost_at hit (behind_cycle x near) ≡ Some lost
    → lost_at hit (behind_cycle x far) ≡ Some lost
one_more_front x near far same (Some m) lost is = is
one_more_front x None far same None lost is = absurd (none_or_some None lost refl is)
one_more_front x (Some l) far same None lost is = ap (behind_cycle x) (same l refl) ∙ is

-- a contact that is lost in the first cycles isn't lost behind them
pub reached-front : (at : ℕ) (xs ys : List PlayedCycle) (lost : Lost) → reached at xs ≡ Some lost
    → reached at (xs ++ ys) ≡ Some lost
unfolding reached
reached-front at [] ys lost is = absurd (none_or_some None lost refl is)
reached-front at (x ∷ xs) ys lost is =
    one_more_front x (reached at xs) (reached at (xs ++ ys)) (λ l h. reached-front at xs ys l h)
    (find (is_hit at) x.moments) lost is
