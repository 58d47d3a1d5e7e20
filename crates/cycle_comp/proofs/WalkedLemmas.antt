-- What is written of a run, and the state behind it.
use Rattle.std.proofs.Common.{◌≡◌, ℕ, zero, suc, ◌+◌, ◌-◌, ◌*◌, ◌<◌, ◌≤◌, Bool, true, false, List, [], ◌∷◌, ◌++◌, length, refl, sym, ap, subst, ◌∙◌, arith}
use Rattle.std.proofs.lemmas.List.{append-nil}
use Rattle.tester_types.specs.declared.wave.Table.{Table}
use Rattle.stil_ast.specs.Meaning.State.{State}
use Rattle.stil_ast.specs.Meaning.Running.{Made, Ran, still, then_run, times}
use Rattle.stil_ast.specs.Meaning.Flat.{Flat, saved, flat_run, measure}
use Rattle.stil_ast.proofs.RunLemmas.{with_made}
use Rattle.stil_ast.proofs.FlatSteps.{then_run-still}
use Rattle.packed_code.specs.declared.instr.Instr.{Instr}
use Rattle.cycle_comp.specs.Counting.{vector_count}
use Rattle.cycle_comp.specs.Writing.{often, Wrote, Walked, IsStopped, Trouble}
use Rattle.cycle_comp.proofs.CountLemmas.{run-count}
use Rattle.cycle_comp.proofs.FaultLemmas.{stopped-behind, stopped-before}
use Rattle.cycle_comp.proofs.SettleLemmas.{settles}
use Rattle.cycle_comp.proofs.TimesLemmas.{times-later}
use Rattle.cycle_comp.proofs.WroteLemmas.{wrote-nothing, wrote-wider, wrote-then}

-- nothing is written
pub walked-still : (tables : List Table) (first size : ℕ) (code : List Instr) (rows : List (List ℕ)) (s here : State)
    → here ≡ s → Walked tables first (still s) size code code rows rows here
walked-still tables first size code rows s here e =
    record { wrote = wrote-nothing tables first size code rows; here_is = e }

-- one run after another
pub walked-then : (tables : List Table) (first : ℕ) (r : Ran State) (next : State → Ran State) (m n : ℕ)
    (old mid new : List Instr) (before rows after : List (List ℕ)) (s t : State)
    → Walked tables first r m old mid before rows s → Walked tables first (next s) n mid new rows after t
    → Walked tables first (then_run r next) (m + n) old new before after t
walked-then tables first r next m n old mid new before rows after s t p q =
    let same : s ≡ r.here = p.here_is in
    record {
      wrote =
          wrote-then tables first r.made (next r.here).made m n old mid new before rows after p.wrote
          (subst (λ (x : State). Wrote tables first (next x).made n mid new rows after) same q.wrote);
      here_is = q.here_is ∙ ap (λ (x : State). (next x).here) same;
    }

-- the same run by another name, with more room
pub walked-as : (tables : List Table) (first : ℕ) (r q : Ran State) (size more : ℕ) (old new : List Instr)
    (before after : List (List ℕ)) (here : State) → r ≡ q → size ≤ more
    → Walked tables first r size old new before after here → Walked tables first q more old new before after here
walked-as tables first r q size more old new before after here e fits w =
    subst (λ (x : Ran State). Walked tables first x more old new before after here) e
    (record { wrote = wrote-wider tables first r.made size more old new before after fits w.wrote; here_is = w.here_is })

-- a run, and nothing behind it
pub walked-alone : (tables : List Table) (first : ℕ) (r : Ran State) (size more : ℕ) (old new : List Instr)
    (before after : List (List ℕ)) (here : State) → size ≤ more
    → Walked tables first r size old new before after here
    → Walked tables first (then_run r still) more old new before after here
walked-alone tables first r size more old new before after here fits w =
    walked-as tables first r (then_run r still) size more old new before after here (sym (then_run-still r)) fits w

pub stopped-alone : (tables : List Table) (r : Ran State) (t : Trouble) → IsStopped tables r.made t
    → IsStopped tables (then_run r still).made t
stopped-alone tables r t s = stopped-before tables r.made [] t s

-- ---- saves

pub walked-save : (tables : List Table) (first : ℕ) (putting : Bool) (body : Flat) (size : ℕ) (old new : List Instr)
    (before after : List (List ℕ)) (s behind here : State) → (putting ≡ true → here ≡ s) → (putting ≡ false → here ≡ behind)
    → Walked tables first (flat_run body s s) size old new before after behind
    → Walked tables first (saved putting s (flat_run body s s)) size old new before after here
walked-save tables first true body size old new before after s behind here put kept w =
    record { wrote = w.wrote; here_is = put refl }
walked-save tables first false body size old new before after s behind here put kept w =
    record { wrote = w.wrote; here_is = kept refl ∙ w.here_is }

pub stopped-save : (tables : List Table) (putting : Bool) (s : State) (r : Ran State) (t : Trouble)
    → IsStopped tables r.made t → IsStopped tables (saved putting s r).made t
stopped-save tables true s r t e = e
stopped-save tables false s r t e = e

-- ---- loops

-- a pass alone
times-one : (count : ℕ) (f : State → Ran State) (s : State) → count ≡ 1 → f s ≡ times count f s
times-one count f s e = sym (then_run-still (f s)) ∙ ap (λ (n : ℕ). times n f s) (sym e)

pub walked-once : (tables : List Table) (first count : ℕ) (body : Flat) (old new : List Instr)
    (before after : List (List ℕ)) (base s here : State) → count ≡ 1
    → Walked tables first (flat_run body base s) (measure body) old new before after here
    → Walked tables first (times count (flat_run body base) s) (2 * measure body + 2) old new before after here
walked-once tables first count body old new before after base s here e w =
    walked-as tables first (flat_run body base s) (times count (flat_run body base) s) (measure body) (2 * measure body + 2)
    old new before after here (times-one count (flat_run body base) s e) (omega arith) w

-- nothing so often
often-nothing : {A : Type 0} (n : ℕ) (xs : List A) → length xs ≡ 0 → often n xs ≡ []
unfolding often
often-nothing zero xs e = refl
often-nothing (suc n) [] e = often-nothing n [] e
often-nothing (suc n) (x ∷ xs) e = absurd (omega (arith, e))

-- all passes, from the second one on like it
later-passes : (count : ℕ) (body : Flat) (base s : State) → 0 < count
    → times count (flat_run body base) s
    ≡ record {
      made = (flat_run body base s).made ++ often (count - 1) (flat_run body base (flat_run body base s).here).made;
      here = (flat_run body base s).here;
    }
later-passes zero body base s some = absurd (omega arith)
later-passes (suc n) body base s some =
    let same : suc n - 1 ≡ n = omega arith in
    times-later n (flat_run body base) s (settles body base s)
    ∙ ap (λ (k : ℕ). with_made (flat_run body base s).here
    ((flat_run body base s).made ++ often k (flat_run body base (flat_run body base s).here).made)) (sym same)

-- passes without vectors
pub walked-silent : (tables : List Table) (first count : ℕ) (body : Flat) (old new : List Instr)
    (before after : List (List ℕ)) (base s here : State) → 0 < count → vector_count body ≡ 0
    → Walked tables first (flat_run body base s) (measure body) old new before after here
    → Walked tables first (times count (flat_run body base) s) (2 * measure body + 2) old new before after here
walked-silent tables first count body old new before after base s here some none w =
    let r = flat_run body base s in
    let later = (flat_run body base r.here).made in
    let nothing = often-nothing (count - 1) later (run-count body base r.here ∙ none) in
    walked-as tables first r (times count (flat_run body base) s) (measure body) (2 * measure body + 2)
    old new before after here
    (sym (later-passes count body base s some
    ∙ (ap (λ (made : List Made). with_made r.here (r.made ++ made)) nothing
    ∙ ap (with_made r.here) (append-nil r.made))))
    (omega arith) w

-- where the first pass stops, and where the second one does
pub stopped-first : (tables : List Table) (count : ℕ) (body : Flat) (base s : State) (t : Trouble) → 0 < count
    → IsStopped tables (flat_run body base s).made t → IsStopped tables (times count (flat_run body base) s).made t
stopped-first tables count body base s t some e =
    let r = flat_run body base s in
    subst (λ (x : Ran State). IsStopped tables x.made t) (sym (later-passes count body base s some))
    (stopped-before tables r.made (often (count - 1) (flat_run body base r.here).made) t e)

often-one : {A : Type 0} (n : ℕ) (xs : List A) → 0 < n → often n xs ≡ xs ++ often (n - 1) xs
unfolding often
often-one zero xs some = absurd (omega arith)
often-one (suc n) xs some = let same : n ≡ suc n - 1 = omega arith in ap (λ (k : ℕ). xs ++ often k xs) same

pub stopped-second : (tables : List Table) (first count size : ℕ) (body : Flat) (old code : List Instr)
    (before rows : List (List ℕ)) (base s once : State) (t : Trouble) → 1 < count
    → Walked tables first (flat_run body base s) size old code before rows once
    → IsStopped tables (flat_run body base once).made t → IsStopped tables (times count (flat_run body base) s).made t
stopped-second tables first count size body old code before rows base s once t many p e =
    let r = flat_run body base s in
    let later = (flat_run body base r.here).made in
    let here = subst (λ (x : State). IsStopped tables (flat_run body base x).made t) p.here_is e in
    let passes = subst (λ (made : List Made). IsStopped tables made t) (sym (often-one (count - 1) later (omega arith)))
    (stopped-before tables later (often (count - 1 - 1) later) t here) in
    subst (λ (x : Ran State). IsStopped tables x.made t) (sym (later-passes count body base s (omega arith)))
    (stopped-behind tables r.made (often (count - 1) later) t p.wrote.fine passes)
