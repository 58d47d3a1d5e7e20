-- Instructions that are read one after another are closed, and those that are closed are read.
use Rattle.std.proofs.Common.{◌≡◌, ℕ, suc, ◌+◌, ◌-◌, ◌^◌, ◌<◌, ◌≤◌, Bool, true, false, not, cond, Ok, Err, eqb, ltb, leb, ◌&&◌, List, [], ◌∷◌, ◌++◌, length, refl, sym, ap, subst, ◌∙◌, append_assoc, arith}
use Rattle.std.specs.List.{AllByRecursion}
use Rattle.std.proofs.lemmas.Bool.{and_parts, and_from, not-true, not_from_false, ltb-true, leb-true, eqb-true, lt-ltb, le-leb, eq-eqb, ne_eqb}
use Rattle.std.proofs.lemmas.List.{length-append}
use Rattle.tester_types.specs.declared.wave.Table.{Table}
use Rattle.packed_code.specs.declared.instr.Instr.{Instr}
use Rattle.packed_code.specs.declared.instr.Instr.TheVariants.{Run, Loop, End, Done}
use Rattle.packed_code.specs.Meaning.{cycle_count}
use Rattle.packed_code.specs.Whole.{IsRest, IsWhole}
use Rattle.page_code.specs.declared.read_instrs.Nest.{Nest}
use Rattle.packed_code.specs.Conditions.{EachBehind, IsInstr, IsNarrow, has_waves, waves_of, characters_of}
use Rattle.page_code.specs.Reading.{open_behind, begun_behind, follows, is_bounded, may_follow, instr_with}
use Rattle.packed_code.specs.Packed.{instr_of}
use Rattle.page_code.specs.Nest.{IsNest, depth_after, begins}
use Rattle.page_code.specs.declared.fault.Refusal.TheVariants.{BadCode}
use Rattle.page_code.specs.Fields.{piece_at, known}
use Rattle.page_code.proofs.ReaderLaws.{bind_ok, guard_ok}

-- ---- one instruction more

pub open_behind-push : (depth : ℕ) (before : List Instr) (i : Instr) → open_behind depth (before ++ i ∷ []) ≡ depth_after (open_behind depth before) i
open_behind-push depth [] (Run table row mark times) = refl
open_behind-push depth [] (Loop times) = refl
open_behind-push depth [] End = refl
open_behind-push depth [] Done = refl
open_behind-push depth (Run table row mark times ∷ before) i = open_behind-push depth before i
open_behind-push depth (Loop times ∷ before) i = open_behind-push (suc depth) before i
open_behind-push depth (End ∷ before) i = open_behind-push (depth - 1) before i
open_behind-push depth (Done ∷ before) i = open_behind-push depth before i

pub begun_behind-push : (begun : Bool) (before : List Instr) (i : Instr) → begun_behind begun (before ++ i ∷ []) ≡ begins i
begun_behind-push begun [] (Run table row mark times) = refl
begun_behind-push begun [] (Loop times) = refl
begun_behind-push begun [] End = refl
begun_behind-push begun [] Done = refl
begun_behind-push begun (Run table row mark times ∷ before) i = begun_behind-push false before i
begun_behind-push begun (Loop times ∷ before) i = begun_behind-push true before i
begun_behind-push begun (End ∷ before) i = begun_behind-push false before i
begun_behind-push begun (Done ∷ before) i = begun_behind-push false before i

-- ---- what follows says

pub record FollowsRun (tables : List Table) (rows : List (List ℕ)) (is_last : Bool) (t r n : ℕ) : Type 0 where
  pub not_last : is_last ≡ false
  pub some : 0 < n
  pub table : t < length tables
  pub row : r < length rows
  pub waves : has_waves (waves_of tables t) 0 (characters_of rows r) ≡ true

pub follows_run : (tables : List Table) (rows : List (List ℕ)) (is_last : Bool) (depth : ℕ) (begun : Bool) (t r m n : ℕ)
    → follows tables rows is_last depth begun (Run t r m n) ≡ true → FollowsRun tables rows is_last t r n
follows_run tables rows is_last depth begun t r m n is =
    let a = and_parts (not is_last && ltb 0 n && ltb t (length tables) && ltb r (length rows)) (has_waves (waves_of tables t) 0 (characters_of rows r)) is in
    let b = and_parts (not is_last && ltb 0 n && ltb t (length tables)) (ltb r (length rows)) a.0 in
    let c = and_parts (not is_last && ltb 0 n) (ltb t (length tables)) b.0 in
    let d = and_parts (not is_last) (ltb 0 n) c.0 in
    record { not_last = not-true is_last d.0; some = ltb-true 0 n d.1; table = ltb-true t (length tables) c.1; row = ltb-true r (length rows) b.1; waves = a.1 }

run_follows : (tables : List Table) (rows : List (List ℕ)) (is_last : Bool) (depth : ℕ) (begun : Bool) (t r m n : ℕ)
    → FollowsRun tables rows is_last t r n → follows tables rows is_last depth begun (Run t r m n) ≡ true
run_follows tables rows is_last depth begun t r m n f =
    and_from (not is_last && ltb 0 n && ltb t (length tables) && ltb r (length rows)) (has_waves (waves_of tables t) 0 (characters_of rows r))
    (and_from (not is_last && ltb 0 n && ltb t (length tables)) (ltb r (length rows))
    (and_from (not is_last && ltb 0 n) (ltb t (length tables))
    (and_from (not is_last) (ltb 0 n) (not_from_false is_last f.not_last) (lt-ltb 0 n f.some)) (lt-ltb t (length tables) f.table)) (lt-ltb r (length rows) f.row)) f.waves

pub record FollowsLoop (is_last : Bool) (open_loops n : ℕ) : Type 0 where
  pub not_last : is_last ≡ false
  pub some : 0 < n
  pub few : n ≤ 2 ^ 48
  pub deep : open_loops < 64

pub follows_loop : (tables : List Table) (rows : List (List ℕ)) (is_last : Bool) (depth : ℕ) (begun : Bool) (n : ℕ)
    → follows tables rows is_last depth begun (Loop n) ≡ true → FollowsLoop is_last depth n
follows_loop tables rows is_last depth begun n is =
    let a = and_parts (not is_last && ltb 0 n && leb n (2 ^ 48)) (ltb depth 64) is in
    let b = and_parts (not is_last && ltb 0 n) (leb n (2 ^ 48)) a.0 in
    let c = and_parts (not is_last) (ltb 0 n) b.0 in
    record { not_last = not-true is_last c.0; some = ltb-true 0 n c.1; few = leb-true n (2 ^ 48) b.1; deep = ltb-true depth 64 a.1 }

loop_follows : (tables : List Table) (rows : List (List ℕ)) (is_last : Bool) (depth : ℕ) (begun : Bool) (n : ℕ)
    → FollowsLoop is_last depth n → follows tables rows is_last depth begun (Loop n) ≡ true
loop_follows tables rows is_last depth begun n f =
    and_from (not is_last && ltb 0 n && leb n (2 ^ 48)) (ltb depth 64)
    (and_from (not is_last && ltb 0 n) (leb n (2 ^ 48))
    (and_from (not is_last) (ltb 0 n) (not_from_false is_last f.not_last) (lt-ltb 0 n f.some)) (le-leb n (2 ^ 48) f.few)) (lt-ltb depth 64 f.deep)

pub record FollowsEnd (is_last begun : Bool) (open_loops : ℕ) : Type 0 where
  pub not_last : is_last ≡ false
  pub not_begun : begun ≡ false
  pub open_one : 0 < open_loops

pub follows_end : (tables : List Table) (rows : List (List ℕ)) (is_last : Bool) (depth : ℕ) (begun : Bool)
    → follows tables rows is_last depth begun End ≡ true → FollowsEnd is_last begun depth
follows_end tables rows is_last depth begun is =
    let a = and_parts (not is_last && not begun) (ltb 0 depth) is in
    let b = and_parts (not is_last) (not begun) a.0 in
    record { not_last = not-true is_last b.0; not_begun = not-true begun b.1; open_one = ltb-true 0 depth a.1 }

end_follows : (tables : List Table) (rows : List (List ℕ)) (is_last : Bool) (depth : ℕ) (begun : Bool)
    → FollowsEnd is_last begun depth → follows tables rows is_last depth begun End ≡ true
end_follows tables rows is_last depth begun f =
    and_from (not is_last && not begun) (ltb 0 depth)
    (and_from (not is_last) (not begun) (not_from_false is_last f.not_last) (not_from_false begun f.not_begun)) (lt-ltb 0 depth f.open_one)

-- ---- the loops that are open

-- whatever completes the rest completes the whole, behind one instruction more
pub nest_after : (tables : List Table) (rows : List (List ℕ)) (before : List Instr) (nest : Nest) (i : Instr) → IsNest before nest → IsNarrow i
    → follows tables rows false nest.depth nest.begun i ≡ true
    → IsNest (before ++ i ∷ []) (record { depth = depth_after nest.depth i; begun = begins i })
nest_after tables rows before nest i is narrow may = record {
  deep = deep_after i nest.depth nest.begun is.deep may;
  depth = ap (λ (d : ℕ). depth_after d i) is.depth ∙ sym (open_behind-push 0 before i);
  begun = sym (begun_behind-push false before i);
  completes = λ rest fits.
      subst (IsRest 0 false) (sym (append_assoc before (i ∷ []) rest)) (is.completes (i ∷ rest) (in_front i nest.depth nest.begun narrow rest may fits));
}
  where
    deep_after : (i : Instr) (depth : ℕ) (begun : Bool) → depth ≤ 64 → follows tables rows false depth begun i ≡ true → depth_after depth i ≤ 64
    deep_after (Run t r m n) depth begun deep may = deep
    deep_after (Loop n) depth begun deep may = let lower : depth < 64 = (follows_loop tables rows false depth begun n may).deep in omega arith
    deep_after End depth begun deep may = omega arith
    deep_after Done depth begun deep may = deep

    in_front : (i : Instr) (depth : ℕ) (begun : Bool) → IsNarrow i → (rest : List Instr) → follows tables rows false depth begun i ≡ true
        → IsRest (depth_after depth i) (begins i) rest → IsRest depth begun (i ∷ rest)
    in_front (Run t r m n) depth begun narrow rest may fits = ((follows_run tables rows false depth begun t r m n may).some, narrow.3, fits)
    in_front (Loop n) depth begun narrow rest may fits =
        let f = follows_loop tables rows false depth begun n may in (f.some, f.few, f.deep, fits)
    in_front End depth begun narrow rest may fits =
        let f = follows_end tables rows false depth begun may in (f.not_begun, f.open_one, fits)
    in_front Done depth begun narrow rest may fits = absurd (let e : false ≡ true = may in cc)

-- the same, by what was read before
pub nest_more : (tables : List Table) (rows : List (List ℕ)) (is_last : Bool) (before : List Instr) (nest : Nest) (i : Instr) → IsNest before nest → IsNarrow i
    → is_last ≡ false → may_follow tables rows is_last before i ≡ true
    → IsNest (before ++ i ∷ []) (record { depth = depth_after nest.depth i; begun = begins i })
nest_more tables rows is_last before nest i is narrow not_last may =
    let here = (and_parts (follows tables rows is_last (open_behind 0 before) (begun_behind false before) i) (is_bounded before i) may).0 in
    nest_after tables rows before nest i is narrow
    (subst (λ (b : Bool). follows tables rows b nest.depth nest.begun i ≡ true) not_last
    (subst (λ (d : ℕ). follows tables rows is_last d nest.begun i ≡ true) (sym is.depth)
    (subst (λ (b : Bool). follows tables rows is_last (open_behind 0 before) b i ≡ true) (sym is.begun) here)))

-- ---- whole lists

-- what each instruction of a read list is
abbrev pub IsReadInstr : List Table → List (List ℕ) → ℕ → List Instr → Instr → Type 0
IsReadInstr tables rows count before i = IsNarrow i × (may_follow tables rows (eqb (length before + 1) count) before i ≡ true)

-- what they are together
pub record AreWhole (tables : List Table) (rows : List (List ℕ)) (all : List Instr) (depth : ℕ) (begun : Bool) (rest : List Instr) : Type 0 where
  pub closed : IsRest depth begun rest
  pub named : AllByRecursion (IsInstr tables rows) rest
  pub bounded : cycle_count all ≤ 2 ^ 48

last_is : (before : List Instr) (i : Instr) (count : ℕ) → length (before ++ i ∷ []) ≡ count → eqb (length before + 1) count ≡ true
last_is before i count is = eq-eqb (length before + 1) count (omega (arith, length-append before (i ∷ [])))

not_last_is : (before : List Instr) (i j : Instr) (rest : List Instr) (count : ℕ) → length (before ++ i ∷ j ∷ rest) ≡ count
    → eqb (length before + 1) count ≡ false
not_last_is before i j rest count is = ne_eqb (length before + 1) count (λ e. omega (arith, length-append before (i ∷ j ∷ rest)))

-- what is read is closed
pub read_whole : (tables : List Table) (rows : List (List ℕ)) (count : ℕ) (before rest : List Instr) → length (before ++ rest) ≡ count → 0 < length rest
    → EachBehind (IsReadInstr tables rows count) before rest
    → AreWhole tables rows (before ++ rest) (open_behind 0 before) (begun_behind false before) rest
read_whole tables rows count before [] size some each = absurd (omega arith)
read_whole tables rows count before (Run t r m n ∷ []) size some each =
    absurd (let f = follows_run tables rows (eqb (length before + 1) count) (open_behind 0 before) (begun_behind false before) t r m n (and_parts _ _ each.0.1).0 in
    let a = f.not_last in let b = last_is before (Run t r m n) count size in cc)
read_whole tables rows count before (Loop n ∷ []) size some each =
    absurd (let f = follows_loop tables rows (eqb (length before + 1) count) (open_behind 0 before) (begun_behind false before) n (and_parts _ _ each.0.1).0 in
    let a = f.not_last in let b = last_is before (Loop n) count size in cc)
read_whole tables rows count before (End ∷ []) size some each =
    absurd (let f = follows_end tables rows (eqb (length before + 1) count) (open_behind 0 before) (begun_behind false before) (and_parts _ _ each.0.1).0 in
    let a = f.not_last in let b = last_is before End count size in cc)
read_whole tables rows count before (Done ∷ []) size some each =
    let parts = and_parts (eqb (length before + 1) count && eqb (open_behind 0 before) 0) (leb (cycle_count (before ++ Done ∷ [])) (2 ^ 48)) each.0.1 in
    let inner = and_parts (eqb (length before + 1) count) (eqb (open_behind 0 before) 0) parts.0 in
    record { closed = (eqb-true (open_behind 0 before) 0 inner.1, refl); named = (tt, tt); bounded = leb-true (cycle_count (before ++ Done ∷ [])) (2 ^ 48) parts.1 }
read_whole tables rows count before (i ∷ j ∷ rest) size some each =
    let inner = read_whole tables rows count (before ++ i ∷ []) (j ∷ rest) (ap length (append_assoc before (i ∷ []) (j ∷ rest)) ∙ size) (omega arith) each.1 in
    let closed : IsRest (depth_after (open_behind 0 before) i) (begins i) (j ∷ rest) =
    subst (λ (d : ℕ). IsRest d (begins i) (j ∷ rest)) (open_behind-push 0 before i)
    (subst (λ (b : Bool). IsRest (open_behind 0 (before ++ i ∷ [])) b (j ∷ rest)) (begun_behind-push false before i) inner.closed) in
    let front = whole_front i (open_behind 0 before) (begun_behind false before) (and_parts (follows tables rows (eqb (length before + 1) count) (open_behind 0 before) (begun_behind false before) i) (is_bounded before i) each.0.1).0 each.0.0 closed in
    record {
      closed = front.0;
      named = (front.1, inner.named);
      bounded = subst (λ (xs : List Instr). cycle_count xs ≤ 2 ^ 48) (append_assoc before (i ∷ []) (j ∷ rest)) inner.bounded;
    }
  where
    whole_front : (i : Instr) (depth : ℕ) (begun : Bool) → follows tables rows (eqb (length before + 1) count) depth begun i ≡ true → IsNarrow i
        → IsRest (depth_after depth i) (begins i) (j ∷ rest) → IsRest depth begun (i ∷ j ∷ rest) × IsInstr tables rows i
    whole_front (Run t r m n) depth begun may narrow closed =
        let f = follows_run tables rows (eqb (length before + 1) count) depth begun t r m n may in
        ((f.some, narrow.3, closed), (f.table, f.row, narrow.2, f.waves))
    whole_front (Loop n) depth begun may narrow closed =
        let f = follows_loop tables rows (eqb (length before + 1) count) depth begun n may in ((f.some, f.few, f.deep, closed), tt)
    whole_front End depth begun may narrow closed =
        let f = follows_end tables rows (eqb (length before + 1) count) depth begun may in ((f.not_begun, f.open_one, closed), tt)
    whole_front Done depth begun may narrow closed =
        absurd (let last = (and_parts (eqb (length before + 1) count) (eqb depth 0) may).0 in
        let other = not_last_is before i j rest count size in cc)

-- an instruction with a rest behind it is not the last
not_end : (before : List Instr) (i : Instr) (rest : List Instr) (count : ℕ) → length (before ++ i ∷ rest) ≡ count → (depth : ℕ) (begun : Bool)
    → IsRest depth begun rest
    → eqb (length before + 1) count ≡ false
not_end before i [] count size depth begun closed = absurd closed
not_end before i (j ∷ rest) count size depth begun closed = not_last_is before i j rest count size

-- one instruction on
next_whole : (tables : List Table) (rows : List (List ℕ)) (before : List Instr) (i : Instr) (rest : List Instr)
    → IsRest (depth_after (open_behind 0 before) i) (begins i) rest
    → AllByRecursion (IsInstr tables rows) rest → cycle_count (before ++ i ∷ rest) ≤ 2 ^ 48
    → AreWhole tables rows ((before ++ i ∷ []) ++ rest) (open_behind 0 (before ++ i ∷ [])) (begun_behind false (before ++ i ∷ [])) rest
next_whole tables rows before i rest closed named bounded = record {
  closed = subst (λ (d : ℕ). IsRest d (begun_behind false (before ++ i ∷ [])) rest) (sym (open_behind-push 0 before i))
      (subst (λ (b : Bool). IsRest (depth_after (open_behind 0 before) i) b rest) (sym (begun_behind-push false before i)) closed);
  named = named;
  bounded = subst (λ (xs : List Instr). cycle_count xs ≤ 2 ^ 48) (sym (append_assoc before (i ∷ []) rest)) bounded;
}

-- what is closed is read
pub whole_read : (tables : List Table) (rows : List (List ℕ)) (count : ℕ) (before rest : List Instr) → length (before ++ rest) ≡ count
    → length tables ≤ 4096 → length rows < 2 ^ 32
    → AreWhole tables rows (before ++ rest) (open_behind 0 before) (begun_behind false before) rest
    → EachBehind (IsReadInstr tables rows count) before rest
whole_read tables rows count before [] size few_tables few_rows whole = tt
whole_read tables rows count before (Done ∷ rest) size few_tables few_rows whole =
    let ends : rest ≡ [] = whole.closed.1 in
    let all : before ++ Done ∷ rest ≡ before ++ Done ∷ [] = ap (λ (xs : List Instr). before ++ Done ∷ xs) ends in
    subst (λ (xs : List Instr). EachBehind (IsReadInstr tables rows count) before (Done ∷ xs)) (sym ends) (
      (
        tt,
        and_from (eqb (length before + 1) count && eqb (open_behind 0 before) 0) (leb (cycle_count (before ++ Done ∷ [])) (2 ^ 48))
            (and_from (eqb (length before + 1) count) (eqb (open_behind 0 before) 0) (last_is before Done count (sym (ap length all) ∙ size)) (eq-eqb (open_behind 0 before) 0 whole.closed.0))
            (le-leb (cycle_count (before ++ Done ∷ [])) (2 ^ 48) (subst (λ (xs : List Instr). cycle_count xs ≤ 2 ^ 48) all whole.bounded)),
      ),
      tt,
    )
whole_read tables rows count before (Run t r m n ∷ rest) size few_tables few_rows whole =
    let other = not_end before (Run t r m n) rest count size (open_behind 0 before) false whole.closed.2 in
    let inner = whole_read tables rows count (before ++ Run t r m n ∷ []) rest (ap length (append_assoc before (Run t r m n ∷ []) rest) ∙ size) few_tables few_rows
    (next_whole tables rows before (Run t r m n) rest whole.closed.2 whole.named.1 whole.bounded) in
    let table : t < length tables = whole.named.0.0 in
    let row : r < length rows = whole.named.0.1 in
    let may = run_follows tables rows (eqb (length before + 1) count) (open_behind 0 before) (begun_behind false before) t r m n
    (record { not_last = other; some = whole.closed.0; table = table; row = row; waves = whole.named.0.3 }) in
    (((omega arith, omega arith, whole.named.0.2, whole.closed.1), and_from _ true may refl), inner)
whole_read tables rows count before (Loop n ∷ rest) size few_tables few_rows whole =
    let other = not_end before (Loop n) rest count size (suc (open_behind 0 before)) true whole.closed.3 in
    let inner = whole_read tables rows count (before ++ Loop n ∷ []) rest (ap length (append_assoc before (Loop n ∷ []) rest) ∙ size) few_tables few_rows
    (next_whole tables rows before (Loop n) rest whole.closed.3 whole.named.1 whole.bounded) in
    let few : n ≤ 2 ^ 48 = whole.closed.1 in
    let may = loop_follows tables rows (eqb (length before + 1) count) (open_behind 0 before) (begun_behind false before) n
    (record { not_last = other; some = whole.closed.0; few = few; deep = whole.closed.2 }) in
    ((omega arith, and_from _ true may refl), inner)
whole_read tables rows count before (End ∷ rest) size few_tables few_rows whole =
    let other = not_end before End rest count size (open_behind 0 before - 1) false whole.closed.2 in
    let inner = whole_read tables rows count (before ++ End ∷ []) rest (ap length (append_assoc before (End ∷ []) rest) ∙ size) few_tables few_rows
    (next_whole tables rows before End rest whole.closed.2 whole.named.1 whole.bounded) in
    let may = end_follows tables rows (eqb (length before + 1) count) (open_behind 0 before) (begun_behind false before)
    (record { not_last = other; not_begun = whole.closed.0; open_one = whole.closed.1 }) in
    ((tt, and_from _ true may refl), inner)

-- an instruction that is read may stand there
pub instr_may : (tables : List Table) (rows : List (List ℕ)) (is_last : Bool) (before : List Instr) (bytes : List ℕ) (i : Instr) (rest : List ℕ)
    → instr_with tables rows is_last before bytes ≡ Ok (i, rest) → may_follow tables rows is_last before i ≡ true
unfolding instr_with
instr_may tables rows is_last before bytes i rest e =
    let step = bind_ok (known (piece_at 16) instr_of bytes) (λ x. cond (may_follow tables rows is_last before x.0) (Ok x) (Err (BadCode (length bytes)))) (i, rest) e in
    let guard = guard_ok (may_follow tables rows is_last before step.0.0) (BadCode (length bytes)) step.0 (i, rest) step.2 in
    subst (λ x. may_follow tables rows is_last before x.0 ≡ true) guard.1 guard.0

-- the last instruction makes the whole
pub nest_whole : (tables : List Table) (rows : List (List ℕ)) (is_last : Bool) (before : List Instr) (nest : Nest) (i : Instr) → IsNest before nest
    → is_last ≡ true → may_follow tables rows is_last before i ≡ true → IsWhole (before ++ i ∷ [])
nest_whole tables rows is_last before nest (Run t r m n) is last may =
    absurd (let f = follows_run tables rows is_last (open_behind 0 before) (begun_behind false before) t r m n (and_parts _ _ may).0 in let other = f.not_last in cc)
nest_whole tables rows is_last before nest (Loop n) is last may =
    absurd (let f = follows_loop tables rows is_last (open_behind 0 before) (begun_behind false before) n (and_parts _ _ may).0 in let other = f.not_last in cc)
nest_whole tables rows is_last before nest End is last may =
    absurd (let f = follows_end tables rows is_last (open_behind 0 before) (begun_behind false before) (and_parts _ _ may).0 in let other = f.not_last in cc)
nest_whole tables rows is_last before nest Done is last may =
    let parts = and_parts (is_last && eqb (open_behind 0 before) 0) (leb (cycle_count (before ++ Done ∷ [])) (2 ^ 48)) may in
    let inner = and_parts is_last (eqb (open_behind 0 before) 0) parts.0 in
    record {
      rest = is.completes (Done ∷ []) (is.depth ∙ eqb-true (open_behind 0 before) 0 inner.1, refl);
      cycles = leb-true (cycle_count (before ++ Done ∷ [])) (2 ^ 48) parts.1;
    }

-- ---- one instruction more of so many, read behind those before it

pub read_goes_on : (tables : List Table) (rows : List (List ℕ)) (place count : ℕ) (before after : List Instr) (nest next : Nest)
    (bytes rest : List ℕ) (i : Instr)
    → IsNest before nest → IsNarrow i → instr_with tables rows (eqb (place + 1) count) before bytes ≡ Ok (i, rest)
    → after ≡ before ++ i ∷ [] → next ≡ record { depth = depth_after nest.depth i; begun = begins i } → place + 1 < count
    → IsNest after next
read_goes_on tables rows place count before after nest next bytes rest i is narrow read all one below =
    let is_last = eqb (place + 1) count in
    let other : is_last ≡ false = ne_eqb (place + 1) count (λ e. omega (arith, e, below)) in
    subst (λ (n : Nest). IsNest after n) (sym one)
    (subst (λ (xs : List Instr). IsNest xs (record { depth = depth_after nest.depth i; begun = begins i })) (sym all)
    (nest_more tables rows is_last before nest i is narrow other (instr_may tables rows is_last before bytes i rest read)))

pub read_is_whole : (tables : List Table) (rows : List (List ℕ)) (place count : ℕ) (before after : List Instr) (nest : Nest)
    (bytes rest : List ℕ) (i : Instr)
    → IsNest before nest → instr_with tables rows (eqb (place + 1) count) before bytes ≡ Ok (i, rest)
    → after ≡ before ++ i ∷ [] → place + 1 ≡ count → IsWhole after
read_is_whole tables rows place count before after nest bytes rest i is read all end =
    let is_last = eqb (place + 1) count in
    subst IsWhole (sym all)
    (nest_whole tables rows is_last before nest i is (eq-eqb (place + 1) count end)
    (instr_may tables rows is_last before bytes i rest read))
