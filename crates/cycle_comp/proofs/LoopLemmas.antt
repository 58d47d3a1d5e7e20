-- What is written of a loop of several passes.
use Rattle.std.proofs.Common.{◌≡◌, ℕ, zero, suc, ◌+◌, ◌-◌, ◌*◌, ◌<◌, Bool, false, eqb, List, [], ◌∷◌, ◌++◌, length, map, refl, sym, ap, subst, ◌∙◌, arith}
use Rattle.std.proofs.lemmas.List.{append-nil}
use Rattle.tester_types.specs.declared.wave.Table.{Table}
use Rattle.stil_ast.specs.Meaning.State.{State}
use Rattle.stil_ast.specs.Meaning.Running.{Made, Ran, still, times}
use Rattle.stil_ast.specs.Meaning.Flat.{Flat, done, flat_run, measure}
use Rattle.flat_tree.specs.Items.{item_front}
use Rattle.flat_tree.specs.declared.steps.FlatItem.{FlatItem}
use Rattle.packed_code.specs.declared.instr.Entry.{Entry}
use Rattle.packed_code.specs.declared.instr.Instr.{Instr}
use Rattle.cycle_comp.specs.Entries.{AreEntries}
use Rattle.cycle_comp.specs.Known.{Known, Moves}
use Rattle.cycle_comp.specs.Writing.{looped, Wrote, Walked}
use Rattle.cycle_comp.specs.Passes.{passes}
use Rattle.cycle_comp.proofs.BodyLemmas.{puts-nothing, nothing_puts}
use Rattle.cycle_comp.proofs.EntryLemmas.{entries-none}
use Rattle.cycle_comp.proofs.CountLemmas.{run-count}
use Rattle.cycle_comp.proofs.SettleLemmas.{settles}
use Rattle.cycle_comp.proofs.TimesLemmas.{times-steady, times-later}
use Rattle.cycle_comp.proofs.PassLemmas.{wrote-apart, wrote-alike, wrote-passes}
use Rattle.cycle_comp.proofs.WalkedLemmas.{walked-still, walked-silent}

-- ---- whether there are vectors

-- where nothing was written there are none
no_vectors : (tables : List Table) (first size : ℕ) (made : List Made) (before after : List (List ℕ))
    → Wrote tables first made size [] [] before after → made ≡ []
no_vectors tables first size made before after w =
    let none : w.entries ≡ [] = nothing_puts w.entries (w.puts [] puts-nothing) in
    no_made made (entries-none first after (map (λ (m : Made). m.vector) made)
    (subst (λ (es : List Entry). AreEntries first after (map (λ (m : Made). m.vector) made) es) none w.are))
  where
    no_made : (made : List Made) → map (λ (m : Made). m.vector) made ≡ [] → made ≡ []
    no_made [] e = refl
    no_made (m ∷ made) e = absurd cc

-- where something was written there are some
some_vectors : (tables : List Table) (first size : ℕ) (made : List Made) (code : List Instr) (before after : List (List ℕ))
    → 0 < length code → Wrote tables first made size [] code before after → 0 < length made
some_vectors tables first size [] code before after some w = absurd (omega (arith, some, ap length (w.silent refl)))
some_vectors tables first size (m ∷ made) code before after some w = omega arith

-- what a test for nothing has told
pub not_nothing : (n : ℕ) (b : Bool) → b ≡ eqb n 0 → b ≡ false → 0 < n
not_nothing zero b told other = absurd cc
not_nothing (suc n) b told other = omega arith

-- ---- a loop

-- of no pass
pub walked-none : (tables : List Table) (first count size : ℕ) (f : State → Ran State) (code : List Instr)
    (rows : List (List ℕ)) (s : State) → count ≡ 0 → Walked tables first (times count f s) size code code rows rows s
walked-none tables first zero size f code rows s e = walked-still tables first size code rows s s refl
walked-none tables first (suc n) size f code rows s e = absurd (omega (arith, e))

-- of passes that write nothing
pub walked-empty : (tables : List Table) (first count : ℕ) (body : Flat) (old pass : List Instr)
    (before rows : List (List ℕ)) (base s once : State) → 1 < count → length pass ≡ 0
    → Walked tables first (flat_run body base s) (measure body) [] pass before rows once
    → Walked tables first (times count (flat_run body base) s) (2 * measure body + 2) old old before rows once
walked-empty tables first count body old (i ∷ pass) before rows base s once many none w = absurd (omega (arith, none))
walked-empty tables first count body old [] before rows base s once many none w =
    let r = flat_run body base s in
    let nothing = no_vectors tables first (measure body) r.made before rows w.wrote in
    walked-silent tables first count body old old before rows base s once (omega arith)
    (sym (run-count body base s) ∙ ap length nothing)
    (record {
      wrote =
          subst (λ (code : List Instr). Wrote tables first r.made (measure body) old code before rows) (append-nil old)
          (wrote-apart tables first (measure body) r.made old [] before rows w.wrote);
      here_is = w.here_is;
    })

-- of passes that leave the state as it was
pub walked-alike : (tables : List Table) (first count : ℕ) (body : Flat) (old pass : List Instr)
    (before rows : List (List ℕ)) (base s once : State) → 1 < count → 0 < length pass → once ≡ s
    → Walked tables first (flat_run body base s) (measure body) [] pass before rows once
    → Walked tables first (times count (flat_run body base) s) (2 * measure body + 2) old (old ++ looped count pass)
    before rows once
walked-alike tables first count body old pass before rows base s once many some stays w =
    let r = flat_run body base s in
    let there = some_vectors tables first (measure body) r.made pass before rows some w.wrote in
    subst (λ (x : Ran State). Walked tables first x (2 * measure body + 2) old (old ++ looped count pass) before rows once)
    (sym (times-steady count (flat_run body base) s (sym w.here_is ∙ stays)))
    (record {
      wrote = wrote-alike tables first count (measure body) r.made old pass before rows (omega arith) there w.wrote;
      here_is = stays;
    })

-- of passes of which the first two were written
pub walked-passes : (tables : List Table) (first count : ℕ) (body : Flat) (old one second : List Instr)
    (before rows after : List (List ℕ)) (base s once twice : State) → 1 < count → 0 < length one
    → Walked tables first (flat_run body base s) (measure body) [] one before rows once
    → Walked tables first (flat_run body base once) (measure body) [] second rows after twice
    → Walked tables first (times count (flat_run body base) s) (2 * measure body + 2)
    old (old ++ passes (count - 2) one second) before after twice
walked-passes tables first zero body old one second before rows after base s once twice many some p q = absurd (omega arith)
walked-passes tables first (suc zero) body old one second before rows after base s once twice many some p q =
    absurd (omega arith)
walked-passes tables first (suc (suc n)) body old one second before rows after base s once twice many some p q =
    let r = flat_run body base s in
    let last = flat_run body base r.here in
    let same : once ≡ r.here = p.here_is in
    let second_wrote = subst (λ (x : State). Wrote tables first (flat_run body base x).made (measure body) [] second rows after) same q.wrote in
    let there = some_vectors tables first (measure body) r.made one before rows some p.wrote in
    let as_many : length last.made ≡ length r.made = run-count body base r.here ∙ sym (run-count body base s) in
    let behind : twice ≡ r.here = q.here_is ∙ (ap (λ (x : State). (flat_run body base x).here) same ∙ settles body base s) in
    let number : n ≡ suc (suc n) - 2 = omega arith in
    subst (λ (k : ℕ). Walked tables first (times (suc (suc n)) (flat_run body base) s) (2 * measure body + 2) old
    (old ++ passes k one second) before after twice) number
    (subst (λ (x : Ran State). Walked tables first x (2 * measure body + 2) old (old ++ passes n one second) before after twice)
    (sym (times-later (suc n) (flat_run body base) s (settles body base s)))
    (record {
      wrote =
          wrote-passes tables first n (measure body) r.made last.made old one second before rows after there
          (omega (arith, there, as_many)) p.wrote second_wrote;
      here_is = behind;
    }))

-- ---- items that write nothing

-- an item that sets something
pub walked-item_set : (tables : List Table) (first : ℕ) (item x : FlatItem) (code : List Instr) (rows : List (List ℕ))
    (base s next here : State) → item ≡ x → flat_run (item_front x done) base s ≡ still next → here ≡ next
    → Walked tables first (flat_run (item_front item done) base s) (measure (item_front item done)) code code rows rows here
walked-item_set tables first item x code rows base s next here is runs e =
    subst (λ (y : FlatItem). Walked tables first (flat_run (item_front y done) base s) (measure (item_front y done)) code code rows rows here)
    (sym is)
    (subst (λ (r : Ran State). Walked tables first r (measure (item_front x done)) code code rows rows here) (sym runs)
    (walked-still tables first (measure (item_front x done)) code rows next here e))

-- ---- counts

pub moves-none : (s : Known) → Moves s s
moves-none s = record { rises = omega arith; stays = λ same full. refl }

pub moves-same : (a b : Known) → b.moves ≡ a.moves → b.told ≡ a.told → Moves a b
moves-same a b as_often same = record { rises = omega (arith, as_often); stays = λ often full. same }

pub moves-then : (a b c : Known) → Moves a b → Moves b c → Moves a c
moves-then a b c p q = record {
  rises = omega (arith, p.rises, q.rises);
  stays =
      λ same full. (q.stays (omega (arith, p.rises, q.rises, same)) full
      ∙ p.stays (omega (arith, p.rises, q.rises, same)) (omega (arith, p.rises, q.rises, full)));
}
