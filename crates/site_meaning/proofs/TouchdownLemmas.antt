-- Sound records are the touchdowns that the plan makes with the cuts that these records tell.
use Rattle.std.proofs.Common.{◌<◌, ◌≤◌, ◌≡◌, ℕ, zero, suc, ◌+◌, ◌≤◌, ◌⊎◌, Bool, true, false, ◌&&◌, cond, eqb, List, [], ◌∷◌, ◌++◌, length, map, Option, Some, None, refl, sym, ap, ◌∙◌, subst, arith, inl, inr}
use Rattle.std.specs.List.{AllByRecursion, find, range_with_len}
use Rattle.std.specs.Option.{option_map_or, option_or}
use Rattle.std.proofs.lemmas.Bool.{cond_both, eq-eqb, eqb-true, and_from, cond-true, cond-false}
use Rattle.std.proofs.lemmas.List.{append_assoc}
use Rattle.std.proofs.lemmas.List.Folds.{find-append}
use Rattle.tester_types.specs.declared.record.Trial.{Trial}
use Rattle.tester_types.specs.declared.record.Record.{Record}
use Rattle.site_meaning.specs.Part.{Part, IsPart, lot_in, dies_in}
use Rattle.site_meaning.proofs.InstantLemmas.{tries_some}
use Rattle.site_meaning.specs.Trials.{Cut, uncut, cut_of, trial}
use Rattle.site_meaning.proofs.EndLemmas.{true_trial, number-trial}
use Rattle.site_meaning.specs.Records.{is_fail, TryCut, is_cut_of, cut_at, then_again, tries_from, touchdown, records, told_cut, cuts_of, IsTrue, EndsSo, AreNumbered, Sound, AreInOrder}

-- ---- the cuts that records tell

-- the cut of an entry, where there is one
abbrev cut_in : Option TryCut → Cut
cut_in found = option_map_or (λ (entry : TryCut). entry.cut) found uncut

-- behind entries that have none for a try
find-behind : (die number : ℕ) (before after : List TryCut) → find (is_cut_of die number) before ≡ None
    → find (is_cut_of die number) (before ++ after) ≡ find (is_cut_of die number) after
find-behind die number before after none =
    find-append (is_cut_of die number) before after
    ∙ ap (λ (o : Option TryCut). option_or o (find (is_cut_of die number) after)) none

-- an entry for another try
not_of : (die number : ℕ) (entry : TryCut) → (entry.die ≡ die → entry.number ≡ number → ⊥)
    → is_cut_of die number entry ≡ false
not_of die number entry apart = go (eqb entry.die die) (eqb entry.number number) refl refl
  where
    go : (a b : Bool) → eqb entry.die die ≡ a → eqb entry.number number ≡ b → (a && b) ≡ false
    go false b ha hb = refl
    go true false ha hb = refl
    go true true ha hb = absurd (apart (eqb-true entry.die die ha) (eqb-true entry.number number hb))

-- the tries of another die
find-other_die : (die number other : ℕ) (ts : List Trial) → (other ≡ die → ⊥)
    → find (is_cut_of die number) (map (told_cut other) ts) ≡ None
find-other_die die number other [] apart = refl
find-other_die die number other (t ∷ ts) apart =
    cond-false (is_cut_of die number (told_cut other t)) (Some (told_cut other t)) (find (is_cut_of die number) (map (told_cut other) ts))
    (not_of die number (told_cut other t) (λ e _. apart e))
    ∙ find-other_die die number other ts apart

-- the entries in front are of other tries of the die, or of other dies
abbrev pub IsFree : ℕ → ℕ → List TryCut → Type 0
IsFree die from before = (k : ℕ) → from ≤ k → find (is_cut_of die k) before ≡ None

-- one try more in front
free-more : (die from : ℕ) (before : List TryCut) (t : Trial) → t.number ≡ from → IsFree die from before
    → IsFree die (from + 1) (before ++ told_cut die t ∷ [])
free-more die from before t is free k above =
    find-behind die k before (told_cut die t ∷ []) (free k (omega (arith, above)))
    ∙ cond-false (is_cut_of die k (told_cut die t)) (Some (told_cut die t)) None
    (not_of die k (told_cut die t) (λ _ e. omega (arith, above, is, e)))

-- the tries find their own cuts among these
abbrev pub FindOwn : List TryCut → ℕ → List Trial → Type 0
FindOwn cuts die ts = AllByRecursion (λ (t : Trial). cut_at cuts die t.number ≡ cut_of t) ts

-- a try behind entries for others
first_finds : (die from : ℕ) (before rest : List TryCut) (t : Trial) → t.number ≡ from → IsFree die from before
    → cut_at (before ++ (told_cut die t ∷ rest)) die t.number ≡ cut_of t
unfolding cut_at
first_finds die from before rest t is free =
    ap cut_in
    (find-behind die t.number before (told_cut die t ∷ rest) (subst (λ (n : ℕ). find (is_cut_of die n) before ≡ None) (sym is) (free from (omega arith)))
    ∙ cond-true (is_cut_of die t.number (told_cut die t)) (Some (told_cut die t)) (find (is_cut_of die t.number) rest)
    (and_from (eqb die die) (eqb t.number t.number) (eq-eqb die die refl) (eq-eqb t.number t.number refl)))

-- each try of a die finds its own cut
own_cuts : (die from : ℕ) (before after : List TryCut) (ts : List Trial) → AreNumbered from ts → IsFree die from before
    → FindOwn (before ++ (map (told_cut die) ts ++ after)) die ts
own_cuts die from before after [] numbers free = tt
own_cuts die from before after (t ∷ ts) numbers free =
    let rest = map (told_cut die) ts ++ after in (
      first_finds die from before rest t numbers.0 free,
      subst (λ (l : List TryCut). FindOwn l die ts) (append_assoc before (told_cut die t ∷ []) rest)
          (own_cuts die (from + 1) (before ++ told_cut die t ∷ []) after ts numbers.1 (free-more die from before t numbers.0 free)),
    )

-- ---- a touchdown

-- a try that is made is the true one
made_is : (part : Part) (cuts : List TryCut) (die number : ℕ) (t : Trial) → t.number ≡ number → IsTrue part die t
    → cut_at cuts die t.number ≡ cut_of t → trial part die number (cut_at cuts die number) ≡ t
made_is part cuts die number t is true_one own =
    subst (λ (n : ℕ). trial part die n (cut_at cuts die n) ≡ t) is
    (ap (λ (c : Cut). trial part die t.number c) own ∙ sym true_one)

-- a made try with those behind it
again_is : (first made : Trial) (later : List Trial) → made ≡ first
    → then_again made later ≡ first ∷ cond (is_fail first.verdict) later []
again_is first made later is = ap (λ (t : Trial). t ∷ cond (is_fail t.verdict) later []) is

tries_are : (part : Part) (cuts : List TryCut) (die : ℕ) (left number : ℕ) (ts : List Trial) → AreNumbered number ts
    → AllByRecursion (IsTrue part die) ts → FindOwn cuts die ts → EndsSo (lot_in part).tries ts
    → number + left ≡ (lot_in part).tries + 1 → length ts ≤ left → tries_from part cuts die number left ≡ ts
unfolding tries_from
tries_are part cuts die left number [] numbers each own end sum most = absurd end
tries_are part cuts die zero number (t ∷ ts) numbers each own end sum most = absurd (omega (arith, most))
tries_are part cuts die (suc left) number (t ∷ []) numbers each own end sum most =
    again_is t (trial part die number (cut_at cuts die number)) later (made_is part cuts die number t numbers.0 each.0 own.0)
    ∙ ap (λ (l : List Trial). t ∷ l) (stops end)
  where
    later : List Trial
    later = tries_from part cuts die (number + 1) left

    both_none : (b : Bool) → cond {A = List Trial} b [] [] ≡ []
    both_none true = refl
    both_none false = refl

    none_left : left ≡ 0 → later ≡ []
    none_left e = ap (tries_from part cuts die (number + 1)) e

    stops : (is_fail t.verdict ≡ false) ⊎ (t.number ≡ (lot_in part).tries) → cond (is_fail t.verdict) later [] ≡ []
    stops (inl h) = cond-false (is_fail t.verdict) later [] h
    stops (inr h) =
        let same = numbers.0 in
        ap (λ (l : List Trial). cond (is_fail t.verdict) l []) (none_left (omega (arith, sum, h, same)))
        ∙ both_none (is_fail t.verdict)
tries_are part cuts die (suc left) number (t ∷ u ∷ ts) numbers each own end sum most =
    again_is t (trial part die number (cut_at cuts die number)) later (made_is part cuts die number t numbers.0 each.0 own.0)
    ∙ ap (λ (l : List Trial). t ∷ l)
    (cond-true (is_fail t.verdict) later [] end.0
    ∙ tries_are part cuts die left (number + 1) (u ∷ ts) numbers.1 each.1 own.1 end.1 (omega (arith, sum)) (omega (arith, most)))
  where
    later : List Trial
    later = tries_from part cuts die (number + 1) left

-- records are one where their parts are
same_record : (a b : Record) → a.site ≡ b.site → a.die ≡ b.die → a.trials ≡ b.trials → a ≡ b
same_record a b s d t =
    let of_site : ℕ → Record = λ x. record { site = x; die = a.die; trials = a.trials } in
    let of_die : ℕ → Record = λ x. record { site = b.site; die = x; trials = a.trials } in
    let of_trials : List Trial → Record = λ x. record { site = b.site; die = b.die; trials = x } in
    ap of_site s ∙ ap of_die d ∙ ap of_trials t

-- a sound record among the cuts that it tells
touchdown_among : (part : Part) (entry : Record) (before after : List TryCut) → Sound part entry
    → IsFree entry.die 1 before
    → touchdown part (before ++ (map (told_cut entry.die) entry.trials ++ after)) entry.die ≡ entry
touchdown_among part entry before after sound free =
    same_record (touchdown part cuts entry.die) entry (sym sound.site) refl
    (tries_are part cuts entry.die (lot_in part).tries 1 entry.trials sound.numbers sound.each
    (own_cuts entry.die 1 before after entry.trials sound.numbers free) sound.ending (omega arith) sound.most)
  where
    cuts : List TryCut
    cuts = before ++ (map (told_cut entry.die) entry.trials ++ after)

pub sound_is_touchdown : (part : Part) (entry : Record) → Sound part entry
    → entry ≡ touchdown part (cuts_of (entry ∷ [])) entry.die
unfolding cuts_of
sound_is_touchdown part entry sound = sym (touchdown_among part entry [] [] sound (λ k above. refl))

-- ---- the records of a site

-- no entry is for this die or one behind it
abbrev pub AreEarlier : ℕ → List TryCut → Type 0
AreEarlier from before = (die k : ℕ) → from ≤ die → find (is_cut_of die k) before ≡ None

-- the cuts of one die more
earlier-more : (from : ℕ) (before : List TryCut) (entry : Record) → entry.die ≡ from → AreEarlier from before
    → AreEarlier (from + 1) (before ++ map (told_cut entry.die) entry.trials)
earlier-more from before entry is earlier die k above =
    find-behind die k before (map (told_cut entry.die) entry.trials) (earlier die k (omega (arith, above)))
    ∙ find-other_die die k entry.die entry.trials (λ e. omega (arith, above, is, e))

-- the records behind the first, whose cuts stand in front
behind_first : (part : Part) (from : ℕ) (before own rest : List TryCut) (entries : List Record)
    → map (touchdown part ((before ++ own) ++ rest)) (range_with_len (from + 1) (length entries)) ≡ entries
    → map (touchdown part (before ++ (own ++ rest))) (range_with_len (from + 1) (length entries)) ≡ entries
behind_first part from before own rest entries is =
    subst (λ (l : List TryCut). map (touchdown part l) (range_with_len (from + 1) (length entries)) ≡ entries)
    (append_assoc before own rest) is

-- the first record
first_record : (part : Part) (from : ℕ) (before rest : List TryCut) (entry : Record) → Sound part entry → entry.die ≡ from
    → AreEarlier from before → touchdown part (before ++ (map (told_cut entry.die) entry.trials ++ rest)) from ≡ entry
first_record part from before rest entry sound is earlier =
    subst (λ (n : ℕ). touchdown part (before ++ (map (told_cut entry.die) entry.trials ++ rest)) n ≡ entry) is
    (touchdown_among part entry before rest sound (λ k above. earlier entry.die k (omega (arith, is))))

-- two parts of a list
both_parts : {X : Type 0} (a b : X) (xs ys : List X) → a ≡ b → xs ≡ ys → a ∷ xs ≡ b ∷ ys
both_parts {X} a b xs ys e f = ap (λ (x : X). x ∷ xs) e ∙ ap (λ (l : List X). b ∷ l) f

records_from : (part : Part) (from : ℕ) (before : List TryCut) (entries : List Record) → AllByRecursion (Sound part) entries
    → AreInOrder from entries → AreEarlier from before
    → map (touchdown part (before ++ cuts_of entries)) (range_with_len from (length entries)) ≡ entries
unfolding cuts_of
records_from part from before [] all order earlier = refl
records_from part from before (entry ∷ entries) all order earlier =
    let own = map (told_cut entry.die) entry.trials in
    let cuts = before ++ (own ++ cuts_of entries) in
    both_parts (touchdown part cuts from) entry (map (touchdown part cuts) (range_with_len (from + 1) (length entries))) entries
    (first_record part from before (cuts_of entries) entry all.0 order.0 earlier)
    (behind_first part from before own (cuts_of entries) entries
    (records_from part (from + 1) (before ++ own) entries all.1 order.1 (earlier-more from before entry order.0 earlier)))

pub sound_are_records : (part : Part) (entries : List Record) → AllByRecursion (Sound part) entries → AreInOrder 0 entries
    → length entries ≡ dies_in part → entries ≡ records part (cuts_of entries)
sound_are_records part entries all order count =
    sym (records_from part 0 [] entries all order (λ die k above. refl))
    ∙ ap (λ (n : ℕ). map (touchdown part (cuts_of entries)) (range_with_len 0 n)) count

-- ---- without cuts

-- tries that tell no cut find none
find_none : (die : ℕ) (ts : List Trial) → AllByRecursion (λ (t : Trial). cut_of t ≡ uncut) ts → FindOwn [] die ts
unfolding cut_at
find_none die [] all = tt
find_none die (t ∷ ts) all = (sym all.0, find_none die ts all.1)

pub uncut_is_touchdown : (part : Part) (entry : Record) → Sound part entry
    → AllByRecursion (λ (t : Trial). cut_of t ≡ uncut) entry.trials → entry ≡ touchdown part [] entry.die
uncut_is_touchdown part entry sound none =
    sym (same_record (touchdown part [] entry.die) entry (sym sound.site) refl
    (tries_are part [] entry.die (lot_in part).tries 1 entry.trials sound.numbers sound.each
    (find_none entry.die entry.trials none) sound.ending (omega arith) sound.most))

-- ---- the touchdowns of a plan are sound

-- tries that are made as they should be
record AreMade (part : Part) (die number left : ℕ) (ts : List Trial) : Type 0 where
  most : length ts ≤ left
  numbers : AreNumbered number ts
  each : AllByRecursion (IsTrue part die) ts
  ending : EndsSo (lot_in part).tries ts

-- one try, with no more behind it
last_made : (part : Part) (die number left : ℕ) (t : Trial) → t.number ≡ number → IsTrue part die t
    → (is_fail t.verdict ≡ false) ⊎ (t.number ≡ (lot_in part).tries) → AreMade part die number (suc left) (t ∷ [])
last_made part die number left t is true_one end =
    record { most = omega arith; numbers = (is, tt); each = (true_one, tt); ending = end }

-- one try that failed, with those behind it
more_made : (part : Part) (die number left : ℕ) (t : Trial) (ts : List Trial) → t.number ≡ number → IsTrue part die t
    → is_fail t.verdict ≡ true → AreMade part die (number + 1) left ts → AreMade part die number (suc left) (t ∷ ts)
more_made part die number left t [] is true_one fails made = absurd made.ending
more_made part die number left t (u ∷ ts) is true_one fails made = record {
  most = let few = made.most in omega (arith, few);
  numbers = (is, made.numbers);
  each = (true_one, made.each);
  ending = (fails, made.ending);
}

-- a try, and more of them where it failed
again_made : (part : Part) (die number left : ℕ) (t : Trial) (later : List Trial) → t.number ≡ number → IsTrue part die t
    → (is_fail t.verdict ≡ true → AreMade part die number (suc left) (t ∷ later))
    → AreMade part die number (suc left) (then_again t later)
again_made part die number left t later is true_one failed =
    cond_both (is_fail t.verdict) later [] (λ (l : List Trial). AreMade part die number (suc left) (t ∷ l)) failed
    (λ h. last_made part die number left t is true_one (inl h))

tries_made : (part : Part) (cuts : List TryCut) (die : ℕ) (left number : ℕ) → number + left ≡ (lot_in part).tries
    → AreMade part die number (suc left) (tries_from part cuts die number (suc left))
unfolding tries_from
tries_made part cuts die zero number sum =
    let cut = cut_at cuts die number in
    let first = trial part die number cut in
    let is = number-trial part die number cut in
    again_made part die number 0 first [] is (true_trial part die number cut)
    (λ h. last_made part die number 0 first is (true_trial part die number cut) (inr (is ∙ omega (arith, sum))))
tries_made part cuts die (suc left) number sum =
    let cut = cut_at cuts die number in
    let later = tries_from part cuts die (number + 1) (suc left) in
    again_made part die number (suc left) (trial part die number cut) later (number-trial part die number cut)
    (true_trial part die number cut)
    (λ h. more_made part die number (suc left) (trial part die number cut) later (number-trial part die number cut)
    (true_trial part die number cut) h (tries_made part cuts die left (number + 1) (omega (arith, sum))))

pub touchdown_is_sound : (part : Part) (cuts : List TryCut) (die : ℕ) → IsPart part → die < dies_in part
    → Sound part (touchdown part cuts die)
touchdown_is_sound part cuts die is planned = go (lot_in part).tries refl
  where
    go : (tries : ℕ) → (lot_in part).tries ≡ tries → Sound part (touchdown part cuts die)
    go zero none = let some = tries_some part is in absurd (omega (arith, some, none))
    go (suc left) all =
        let made = tries_made part cuts die left 1 (omega (arith, all)) in
        let same : tries_from part cuts die 1 (suc left) ≡ tries_from part cuts die 1 (lot_in part).tries =
        ap (tries_from part cuts die 1) (sym all) in
        let m = subst (AreMade part die 1 (suc left)) same made in
        let few = m.most in
        record {
          site = refl;
          die = planned;
          most = omega (arith, few, all);
          numbers = m.numbers;
          each = m.each;
          ending = m.ending;
        }
