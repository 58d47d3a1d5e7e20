-- The instructions that are written are the function of them.
use Rattle.std.proofs.Common.{◌≡◌, ℕ, zero, suc, ◌+◌, ◌-◌, ◌<◌, Bool, cond, List, [], ◌∷◌, ◌++◌, length, map, take, get_or, min, Some, refl, sym, ap, ◌∙◌, arith}
use Rattle.std.specs.Prelude.{slice_get}
use Rattle.std.proofs.lemmas.List.{append-nil, take_more, get_or_default}
use Rattle.stil_ast.specs.Meaning.State.{State, Vector}
use Rattle.stil_ast.specs.Meaning.Running.{Made, times, outside}
use Rattle.stil_ast.specs.Meaning.Flat.{Flat, done, table, character, back, cycle, repeat, save, saved, flat_run}
use Rattle.stil_ast.specs.Meaning.Flattening.{joined}
use Rattle.stil_ast.specs.Meaning.ExecutiveData.{distinct_rows}
use Rattle.packed_code.specs.declared.instr.Entry.{Entry}
use Rattle.packed_code.specs.declared.instr.Instr.{Instr}
use Rattle.cycle_comp.specs.Known.{row_of_characters}
use Rattle.cycle_comp.specs.Writing.{looped, row_in, flats_run}
use Rattle.cycle_comp.specs.Passes.{entry_in, with_entry, later_passes, passes, with_passes, vector_at, written, flats_written, IsExact}
use Rattle.cycle_comp.proofs.SameLemmas.{same_code-refl}
use Rattle.cycle_comp.proofs.NumberLemmas.{entry-is, goes_on-earlier}

-- ---- trees that are joined

-- a tree behind another one
pub written-joined : (e : Vector → Entry) (a b : Flat) (base s : State) (code : List Instr)
    → written e (joined a b) base s code ≡ written e b base (flat_run a base s).here (written e a base s code)
written-joined e done b base s code = refl
written-joined e (table t rest) b base s code = written-joined e rest b base _ code
written-joined e (character signal c rest) b base s code = written-joined e rest b base _ code
written-joined e (back signal rest) b base s code = written-joined e rest b base _ code
written-joined e (cycle mark spot rest) b base s code =
    written-joined e rest b base s (with_entry (e (vector_at s mark)) code)
written-joined e (repeat count body rest) b base s code =
    written-joined e rest b base (times count (flat_run body base) s).here
    (with_passes count (written e body base) (flat_run body base) s code)
written-joined e (save putting body rest) b base s code =
    written-joined e rest b base (saved putting s (flat_run body s s)).here (written e body s s code)

pub exact-joined : (first : ℕ) (front last : Flat) (base s : State) (old mid new : List Instr) (made : List Made)
    (rows after : List (List ℕ)) (now : State) → now ≡ (flat_run front base s).here
    → after ≡ distinct_rows rows (map row_in made)
    → IsExact first (λ entry code. written entry front base s code) old mid rows
    → IsExact first (λ entry code. written entry last base now code) mid new after
    → IsExact first (λ entry code. written entry (joined front last) base s code) old new after
exact-joined first front last base s old mid new made rows after now here grows p q = λ all on.
    let e = entry_in first all in
    q all on
    ∙ (ap (written e last base now) (p all (goes_on-earlier rows after all made grows on))
    ∙ (ap (λ (x : State). written e last base x (written e front base s old)) here
    ∙ sym (written-joined e front last base s old)))

-- ---- a vector

pub exact-vector : (first : ℕ) (s : State) (mark t short number : ℕ) (old new : List Instr) (rows : List (List ℕ))
    → s.table ≡ Some t → slice_get rows number ≡ Some (row_of_characters s.characters) → short ≡ min (first + t) 65535
    → new ≡ with_entry (record { table = short; row = number; mark = mark }) old
    → IsExact first (λ entry code. with_entry (entry (vector_at s mark)) code) old new rows
exact-vector first s mark t short number old new rows e at is put = λ all on.
    put
    ∙ ap (λ (x : Entry). with_entry x old) (entry-is first rows all (vector_at s mark) t short number e is at on)

-- ---- a loop

-- so many passes are none, one, or two and more
pub exact-none : (first count : ℕ) (body : Flat) (base s : State) (code : List Instr) (rows : List (List ℕ)) → count ≡ 0
    → IsExact first (λ entry code. with_passes count (written entry body base) (flat_run body base) s code) code code rows
exact-none first zero body base s code rows e = λ all on. refl
exact-none first (suc n) body base s code rows e = absurd (omega (arith, e))

pub exact-one : (first count : ℕ) (body : Flat) (base s : State) (old new : List Instr) (rows : List (List ℕ)) → count ≡ 1
    → IsExact first (λ entry code. written entry body base s code) old new rows
    → IsExact first (λ entry code. with_passes count (written entry body base) (flat_run body base) s code) old new rows
exact-one first zero body base s old new rows e p = absurd (omega (arith, e))
exact-one first (suc zero) body base s old new rows e p = p
exact-one first (suc (suc n)) body base s old new rows e p = absurd (omega (arith, e))

-- passes that write nothing
pub exact-empty : (first count : ℕ) (body : Flat) (base s : State) (code pass : List Instr) (rows : List (List ℕ))
    → 1 < count → length pass ≡ 0 → IsExact first (λ entry code. written entry body base s code) [] pass rows
    → IsExact first (λ entry code. with_passes count (written entry body base) (flat_run body base) s code) code code rows
exact-empty first zero body base s code pass rows many none p = absurd (omega arith)
exact-empty first (suc zero) body base s code pass rows many none p = absurd (omega arith)
exact-empty first (suc (suc n)) body base s code (i ∷ pass) rows many none p = absurd (omega (arith, none))
exact-empty first (suc (suc n)) body base s code [] rows many none p = λ all on.
    let e = entry_in first all in
    let second = written e body base (flat_run body base s).here [] in
    sym (append-nil code) ∙ ap (λ (one : List Instr). code ++ passes n one second) (p all on)

-- passes that are alike stand once
passes-alike : (n : ℕ) (pass : List Instr) → 0 < length pass → passes n pass pass ≡ looped (suc (suc n)) pass
passes-alike n [] some = absurd (omega arith)
passes-alike n (i ∷ pass) some =
    ap (λ (b : Bool). cond b (looped (suc (suc n)) (i ∷ pass)) ((i ∷ pass) ++ later_passes n (i ∷ pass)))
    (same_code-refl (i ∷ pass))

pub exact-alike : (first count : ℕ) (body : Flat) (base s once : State) (old pass : List Instr) (rows : List (List ℕ))
    → 1 < count → 0 < length pass → once ≡ s → once ≡ (flat_run body base s).here
    → IsExact first (λ entry code. written entry body base s code) [] pass rows
    → IsExact first (λ entry code. with_passes count (written entry body base) (flat_run body base) s code)
    old (old ++ looped count pass) rows
exact-alike first zero body base s once old pass rows many some stays here p = absurd (omega arith)
exact-alike first (suc zero) body base s once old pass rows many some stays here p = absurd (omega arith)
exact-alike first (suc (suc n)) body base s once old pass rows many some stays here p = λ all on.
    let e = entry_in first all in
    let again : s ≡ (flat_run body base s).here = sym stays ∙ here in
    ap (λ (code : List Instr). old ++ code) (sym (passes-alike n pass some))
    ∙ (ap (λ (one : List Instr). old ++ passes n one one) (p all on)
    ∙ ap (λ (x : State). old ++ passes n (written e body base s []) (written e body base x [])) again)

-- passes of which the first two were written
pub exact-passes : (first count : ℕ) (body : Flat) (base s once : State) (old one second : List Instr) (made : List Made)
    (rows after : List (List ℕ)) → 1 < count → once ≡ (flat_run body base s).here
    → after ≡ distinct_rows rows (map row_in made)
    → IsExact first (λ entry code. written entry body base s code) [] one rows
    → IsExact first (λ entry code. written entry body base once code) [] second after
    → IsExact first (λ entry code. with_passes count (written entry body base) (flat_run body base) s code)
    old (old ++ passes (count - 2) one second) after
exact-passes first zero body base s once old one second made rows after many here grows p q = absurd (omega arith)
exact-passes first (suc zero) body base s once old one second made rows after many here grows p q = absurd (omega arith)
exact-passes first (suc (suc n)) body base s once old one second made rows after many here grows p q = λ all on.
    let e = entry_in first all in
    let number : suc (suc n) - 2 ≡ n = omega arith in
    ap (λ (k : ℕ). old ++ passes k one second) number
    ∙ (ap (λ (code : List Instr). old ++ passes n code second) (p all (goes_on-earlier rows after all made grows on))
    ∙ (ap (λ (code : List Instr). old ++ passes n (written e body base s []) code) (q all on)
    ∙ ap (λ (x : State). old ++ passes n (written e body base s []) (written e body base x [])) here))

-- ---- trees

flats_written-append : (e : Vector → Entry) (flats more : List Flat) (s : State) (code : List Instr)
    → flats_written e (flats ++ more) s code ≡ flats_written e more (flats_run flats s).here (flats_written e flats s code)
flats_written-append e [] more s code = refl
flats_written-append e (f ∷ flats) more s code =
    flats_written-append e flats more (flat_run f (outside s).held s).here (written e f (outside s).held s code)

pub exact-tree : (first : ℕ) (flats : List Flat) (i : ℕ) (f : Flat) (outer s : State) (old mid new : List Instr)
    (made : List Made) (rows after : List (List ℕ)) (now : State)
    → f ≡ get_or flats i f → i < length flats → outer ≡ (outside now).held → now ≡ (flats_run (take i flats) s).here
    → after ≡ distinct_rows rows (map row_in made)
    → IsExact first (λ entry code. flats_written entry (take i flats) s code) old mid rows
    → IsExact first (λ entry code. written entry f outer now code) mid new after
    → IsExact first (λ entry code. flats_written entry (take (i + 1) flats) s code) old new after
exact-tree first flats i f outer s old mid new made rows after now at within held here grows p q = λ all on.
    let e = entry_in first all in
    let front = take i flats in
    let one = at ∙ get_or_default flats i f done within in
    q all on
    ∙ (ap (written e f outer now) (p all (goes_on-earlier rows after all made grows on))
    ∙ (ap (λ (b : State). written e f b now (flats_written e front s old)) held
    ∙ (ap (λ (x : State). written e f (outside x).held x (flats_written e front s old)) here
    ∙ (ap (λ (g : Flat). flats_written e (g ∷ []) (flats_run front s).here (flats_written e front s old)) one
    ∙ (sym (flats_written-append e front (get_or flats i done ∷ []) s old)
    ∙ ap (λ (fs : List Flat). flats_written e fs s old) (sym (take_more flats i done within)))))))
