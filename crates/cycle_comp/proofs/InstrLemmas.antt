-- Each Run of whole instructions stands for a cycle of theirs.
use Rattle.std.proofs.Common.{◌≡◌, ℕ, zero, suc, ◌-◌, ◌<◌, Bool, true, false, List, [], ◌∷◌, ◌++◌, length, replicate, append_assoc, refl, sym, ap, subst, ◌∙◌, arith}
use Rattle.std.specs.List.{AllByRecursion}
use Rattle.text_bytes.proofs.ListLemmas.{all_append, all_front, all_back}
use Rattle.stil_ast.specs.Meaning.State.{Vector}
use Rattle.packed_code.specs.declared.instr.Entry.{Entry}
use Rattle.packed_code.specs.declared.instr.Instr.{Instr}
use Rattle.packed_code.specs.declared.instr.Instr.TheVariants.{Run, Loop, End, Done}
use Rattle.packed_code.specs.Meaning.{repeated, on_top, closed, bodies, top, Means}
use Rattle.packed_code.specs.Whole.{IsRest, IsWhole}
use Rattle.packed_code.proofs.BodyLemmas.{length-bodies, one_body, two_bodies}
use Rattle.cycle_comp.specs.Entries.{IsEntry, AreEntries}

module _ (P : Entry → Type 0) where
  -- what holds of the cycle for which a Run stands
  abbrev pub Runs : Instr → Type 0
  Runs (Run table row mark times) = P (record { table = table; row = row; mark = mark })
  Runs (Loop times) = Unit {0}
  Runs End = Unit {0}
  Runs Done = Unit {0}

  of_run : (times : ℕ) (e : Entry) → 0 < times → AllByRecursion P (replicate times e) → P e
  of_run zero e some all = absurd (omega (arith, some))
  of_run (suc n) e some all = all.0

  of_loop : (times : ℕ) (body : List Entry) → 0 < times → AllByRecursion P (repeated times body) → AllByRecursion P body
  unfolding repeated
  of_loop zero body some all = absurd (omega (arith, some))
  of_loop (suc n) body some all = all_front P body (repeated n body) all

  -- what holds of all cycles of all bodies holds of each Run
  runs_all : (depth : ℕ) (begun : Bool) (code : List Instr) → IsRest depth begun code
      → AllByRecursion (AllByRecursion P) (bodies code) → AllByRecursion Runs code
  unfolding bodies
  runs_all depth begun [] rest all = absurd rest
  runs_all depth begun (Run table row mark times ∷ code) rest all =
      let e : Entry = record { table = table; row = row; mark = mark } in
      let one = one_body depth (bodies code) (length-bodies depth false code rest.2) in
      let whole = subst (λ (bs : List (List Entry)). AllByRecursion (AllByRecursion P) (on_top (replicate times e) bs)) one.are all in (
        of_run times e rest.0 (all_front P (replicate times e) one.body whole.0),
        runs_all depth false code rest.2
            (subst (λ (bs : List (List Entry)). AllByRecursion (AllByRecursion P) bs) (sym one.are)
            (all_back P (replicate times e) one.body whole.0, whole.1)),
      )
  runs_all depth begun (Loop times ∷ code) rest all =
      let two = two_bodies depth (bodies code) (length-bodies (suc depth) true code rest.3) in
      let whole = subst (λ (bs : List (List Entry)). AllByRecursion (AllByRecursion P) (closed times bs)) two.are all in (
        tt,
        runs_all (suc depth) true code rest.3
            (subst (λ (bs : List (List Entry)). AllByRecursion (AllByRecursion P) bs) (sym two.are) (
              of_loop times two.body rest.0 (all_front P (repeated times two.body) two.after whole.0),
              (all_back P (repeated times two.body) two.after whole.0, whole.1),
            )),
      )
  runs_all depth begun (End ∷ code) rest all = (tt, runs_all (depth - 1) false code rest.2 all.1)
  runs_all depth begun (Done ∷ code) rest all =
      (tt, subst (λ (c : List Instr). AllByRecursion Runs c) (sym rest.1) tt)

  -- what holds of all cycles holds of each Run
  pub each_run : (code : List Instr) → IsWhole code → AllByRecursion P (Means code) → AllByRecursion Runs code
  each_run code whole all =
      let one = one_body 0 (bodies code) (length-bodies 0 false code whole.rest) in
      let alone : one.more ≡ [] = none one.more (omega (arith, ap length (sym one.are) ∙ length-bodies 0 false code whole.rest)) in
      let first = subst (λ (bs : List (List Entry)). AllByRecursion P (top bs)) one.are all in
      runs_all 0 false code whole.rest
      (subst (λ (bs : List (List Entry)). AllByRecursion (AllByRecursion P) bs)
      (ap (λ (more : List (List Entry)). one.body ∷ more) (sym alone) ∙ sym one.are) (first, tt))
    where
      none : (bs : List (List Entry)) → length bs ≡ 0 → bs ≡ []
      none [] e = refl
      none (b ∷ bs) e = absurd (omega (arith, e))

-- what holds of all Runs holds of all cycles
module _ (P : Entry → Type 0) where
  all_times : (times : ℕ) (e : Entry) (body : List Entry) → P e → AllByRecursion P body
      → AllByRecursion P (replicate times e ++ body)
  all_times zero e body one all = all
  all_times (suc n) e body one all = (one, all_times n e body one all)

  all_repeated : (times : ℕ) (body after : List Entry) → AllByRecursion P body → AllByRecursion P after
      → AllByRecursion P (repeated times body ++ after)
  unfolding repeated
  all_repeated zero body after one all = all
  all_repeated (suc n) body after one all =
      subst (λ (l : List Entry). AllByRecursion P l) (sym (append_assoc body (repeated n body) after))
      (all_append P body (repeated n body ++ after) one (all_repeated n body after one all))

  put_run : (times : ℕ) (e : Entry) (bs : List (List Entry)) → P e → AllByRecursion (AllByRecursion P) bs
      → AllByRecursion (AllByRecursion P) (on_top (replicate times e) bs)
  put_run times e [] one all = tt
  put_run times e (body ∷ more) one all = (all_times times e body one all.0, all.1)

  put_loop : (times : ℕ) (bs : List (List Entry)) → AllByRecursion (AllByRecursion P) bs
      → AllByRecursion (AllByRecursion P) (closed times bs)
  put_loop times [] all = tt
  put_loop times (body ∷ []) all = tt
  put_loop times (body ∷ after ∷ more) all = (all_repeated times body after all.0 all.1.0, all.1.1)

  all_bodies : (code : List Instr) → AllByRecursion (Runs P) code → AllByRecursion (AllByRecursion P) (bodies code)
  unfolding bodies
  all_bodies [] all = (tt, tt)
  all_bodies (Run table row mark times ∷ code) all =
      put_run times (record { table = table; row = row; mark = mark }) (bodies code) all.0 (all_bodies code all.1)
  all_bodies (Loop times ∷ code) all = put_loop times (bodies code) (all_bodies code all.1)
  all_bodies (End ∷ code) all = (tt, all_bodies code all.1)
  all_bodies (Done ∷ code) all = (tt, tt)

  pub runs_back : (code : List Instr) → AllByRecursion (Runs P) code → AllByRecursion P (Means code)
  runs_back code all = first (bodies code) (all_bodies code all)
    where
      first : (bs : List (List Entry)) → AllByRecursion (AllByRecursion P) bs → AllByRecursion P (top bs)
      first [] all = tt
      first (body ∷ more) all = all.0

-- what holds of vectors with their entries holds of vectors
pub vectors_back : (first : ℕ) (rows : List (List ℕ)) (Q : Vector → Type 0) (P : Entry → Type 0) (R : Vector → Type 0)
    → ((v : Vector) (e : Entry) → Q v → P e → IsEntry first rows v e → R v)
    → (vectors : List Vector) (entries : List Entry) → AreEntries first rows vectors entries
    → AllByRecursion Q vectors → AllByRecursion P entries → AllByRecursion R vectors
vectors_back first rows Q P R one [] entries are all each = tt
vectors_back first rows Q P R one (v ∷ vectors) [] are all each = absurd are
vectors_back first rows Q P R one (v ∷ vectors) (e ∷ entries) are all each =
    (one v e all.0 each.0 are.0, vectors_back first rows Q P R one vectors entries are.1 all.1 each.1)

-- what holds of all entries for vectors
pub entries_all : (first : ℕ) (rows : List (List ℕ)) (Q : Vector → Type 0) (P : Entry → Type 0)
    → ((v : Vector) (e : Entry) → Q v → IsEntry first rows v e → P e)
    → (vectors : List Vector) (entries : List Entry) → AreEntries first rows vectors entries
    → AllByRecursion Q vectors → AllByRecursion P entries
entries_all first rows Q P one [] [] are all = tt
entries_all first rows Q P one [] (e ∷ entries) are all = absurd are
entries_all first rows Q P one (v ∷ vectors) [] are all = absurd are
entries_all first rows Q P one (v ∷ vectors) (e ∷ entries) are all =
    (one v e all.0 are.0, entries_all first rows Q P one vectors entries are.1 all.1)
