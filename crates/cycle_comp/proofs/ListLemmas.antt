-- What is written of trees that are joined, and of trees one after another.
use Rattle.std.proofs.Common.{◌≡◌, ℕ, ◌+◌, ◌<◌, List, [], ◌∷◌, ◌++◌, length, take, get_or, refl, sym, ap, subst, ◌∙◌, arith}
use Rattle.std.proofs.lemmas.List.{take_more, get_or_default}
use Rattle.std.proofs.lemmas.List.Sums.{sum_by_more}
use Rattle.tester_types.specs.declared.wave.Table.{Table}
use Rattle.stil_ast.specs.Meaning.State.{State}
use Rattle.stil_ast.specs.Meaning.Running.{Ran, still, behind, then_run, outside}
use Rattle.stil_ast.specs.Meaning.Flat.{Flat, done, flat_run, measure}
use Rattle.stil_ast.specs.Meaning.Flattening.{joined}
use Rattle.stil_ast.proofs.RunLemmas.{then_run-assoc}
use Rattle.stil_ast.proofs.FlatSteps.{flat_run-joined}
use Rattle.flat_tree.proofs.FlatLemmas.{measure-joined}
use Rattle.packed_code.specs.declared.instr.Instr.{Instr}
use Rattle.cycle_comp.specs.Writing.{Walked, IsStopped, flats_run, flats_measure, Trouble}
use Rattle.cycle_comp.proofs.FaultLemmas.{stopped-behind, stopped-before}
use Rattle.cycle_comp.proofs.WalkedLemmas.{walked-then, walked-as, walked-alone}

-- ---- trees that are joined

pub walked-joined : (tables : List Table) (first : ℕ) (front last : Flat) (base s : State) (old mid new : List Instr)
    (before rows after : List (List ℕ)) (now next : State)
    → Walked tables first (flat_run front base s) (measure front) old mid before rows now
    → Walked tables first (flat_run last base now) (measure last) mid new rows after next
    → Walked tables first (flat_run (joined front last) base s) (measure (joined front last)) old new before after next
walked-joined tables first front last base s old mid new before rows after now next p q =
    let r = flat_run front base s in
    let size = measure-joined front last in
    walked-as tables first (then_run r (flat_run last base)) (flat_run (joined front last) base s)
    (measure front + measure last) (measure (joined front last)) old new before after next
    (sym (flat_run-joined front last base s)) (omega (arith, size))
    (walked-then tables first r (flat_run last base) (measure front) (measure last) old mid new before rows after now next p q)

-- a tree stops in its middle
pub stopped-joined : (tables : List Table) (first : ℕ) (front last rest : Flat) (base s : State) (size : ℕ)
    (old mid : List Instr) (before rows : List (List ℕ)) (now : State) (t : Trouble)
    → Walked tables first (flat_run front base s) size old mid before rows now
    → IsStopped tables (flat_run last base now).made t
    → IsStopped tables (flat_run (joined front (joined last rest)) base s).made t
stopped-joined tables first front last rest base s size old mid before rows now t p stop =
    let r = flat_run front base s in
    let one = flat_run last base r.here in
    let here = subst (λ (x : State). IsStopped tables (flat_run last base x).made t) p.here_is stop in
    let upto = subst (λ (x : Ran State). IsStopped tables x.made t) (sym (flat_run-joined last rest base r.here))
    (stopped-before tables one.made (flat_run rest base one.here).made t here) in
    subst (λ (x : Ran State). IsStopped tables x.made t) (sym (flat_run-joined front (joined last rest) base s))
    (stopped-behind tables r.made (flat_run (joined last rest) base r.here).made t p.wrote.fine upto)

-- ---- trees

pub flats_run-append : (flats more : List Flat) (s : State)
    → flats_run (flats ++ more) s ≡ then_run (flats_run flats s) (flats_run more)
flats_run-append [] more s = refl
flats_run-append (f ∷ flats) more s =
    let r = flat_run f (outside s).held s in
    ap (behind r.made) (flats_run-append flats more r.here) ∙ sym (then_run-assoc r (flats_run flats) (flats_run more))

-- a tree behind those before it
flats_more : (flats : List Flat) (i : ℕ) (s : State) → i < length flats
    → flats_run (take (i + 1) flats) s
    ≡ then_run (flats_run (take i flats) s) (λ (now : State). then_run (flat_run (get_or flats i done) (outside now).held now) still)
flats_more flats i s within =
    ap (λ (fs : List Flat). flats_run fs s) (take_more flats i done within)
    ∙ flats_run-append (take i flats) (get_or flats i done ∷ []) s

pub walked-tree : (tables : List Table) (first : ℕ) (flats : List Flat) (i : ℕ) (f : Flat) (outer s : State)
    (old mid new : List Instr) (before rows after : List (List ℕ)) (now next : State)
    → f ≡ get_or flats i f → i < length flats → outer ≡ (outside now).held
    → Walked tables first (flats_run (take i flats) s) (flats_measure (take i flats)) old mid before rows now
    → Walked tables first (flat_run f outer now) (measure f) mid new rows after next
    → Walked tables first (flats_run (take (i + 1) flats) s) (flats_measure (take (i + 1) flats)) old new before after next
walked-tree tables first flats i f outer s old mid new before rows after now next e within held p q =
    let at = get_or_done flats i f e within in
    let size = sum_by_more measure flats i done within in
    let m = flats_measure (take i flats) in
    let n = measure (get_or flats i done) in
    let one = λ (here : State). flat_run (get_or flats i done) (outside here).held here in
    let alone = subst (λ (g : Flat). Walked tables first (flat_run g (outside now).held now) (measure g) mid new rows after next) at
    (subst (λ (b : State). Walked tables first (flat_run f b now) (measure f) mid new rows after next) held q) in
    walked-as tables first (then_run (flats_run (take i flats) s) (λ (here : State). then_run (one here) still))
    (flats_run (take (i + 1) flats) s) (m + n) (flats_measure (take (i + 1) flats)) old new before after next
    (sym (flats_more flats i s within)) (omega (arith, size))
    (walked-then tables first (flats_run (take i flats) s) (λ (here : State). then_run (one here) still) m n old mid new
    before rows after now next p (walked-alone tables first (one now) n n mid new rows after next (omega arith) alone))
  where
    get_or_done : (flats : List Flat) (i : ℕ) (f : Flat) → f ≡ get_or flats i f → i < length flats → f ≡ get_or flats i done
    get_or_done flats i f e within = e ∙ get_or_default flats i f done within
