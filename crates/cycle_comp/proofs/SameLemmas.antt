-- Instructions that are equal, and an entry behind instructions.
use Rattle.std.proofs.Common.{◌≡◌, ℕ, ◌+◌, ◌≤◌, ◌&&◌, Bool, true, false, cond, eqb, Some, None, List, [], ◌∷◌, ◌++◌, length, refl, ap, ◌∙◌, arith}
use Rattle.std.proofs.lemmas.Bool.{and_from, and_parts, eqb-true}
use Rattle.packed_code.specs.declared.instr.Entry.{Entry}
use Rattle.packed_code.specs.declared.instr.Instr.{Instr}
use Rattle.packed_code.specs.declared.instr.Instr.TheVariants.{Run, Loop, End, Done}
use Rattle.cycle_comp.specs.Passes.{has_room, once, once_more, behind_last, with_entry, same_instr, same_code}

-- ---- a test that two are equal

eqb-same : (n : ℕ) → eqb n n ≡ true
eqb-same n = grind arith

run-true : (table row mark times t r m n : ℕ) → same_instr (Run table row mark times) (Run t r m n) ≡ true
    → Run table row mark times ≡ Run t r m n
run-true table row mark times t r m n e =
    let last = and_parts (eqb table t && eqb row r && eqb mark m) (eqb times n) e in
    let more = and_parts (eqb table t && eqb row r) (eqb mark m) last.0 in
    let both = and_parts (eqb table t) (eqb row r) more.0 in
    let a = eqb-true table t both.0 in
    let b = eqb-true row r both.1 in
    let c = eqb-true mark m more.1 in
    let d = eqb-true times n last.1 in
    ap (λ (x : ℕ). Run x row mark times) a
    ∙ (ap (λ (x : ℕ). Run t x mark times) b
    ∙ (ap (λ (x : ℕ). Run t r x times) c ∙ ap (λ (x : ℕ). Run t r m x) d))

same_instr-true : (a b : Instr) → same_instr a b ≡ true → a ≡ b
same_instr-true (Run table row mark times) (Run t r m n) e = run-true table row mark times t r m n e
same_instr-true (Loop times) (Loop n) e = ap (λ (x : ℕ). Loop x) (eqb-true times n e)
same_instr-true End End e = refl
same_instr-true Done Done e = refl
same_instr-true (Run table row mark times) (Loop n) e = absurd cc
same_instr-true (Run table row mark times) End e = absurd cc
same_instr-true (Run table row mark times) Done e = absurd cc
same_instr-true (Loop times) (Run t r m n) e = absurd cc
same_instr-true (Loop times) End e = absurd cc
same_instr-true (Loop times) Done e = absurd cc
same_instr-true End (Run t r m n) e = absurd cc
same_instr-true End (Loop n) e = absurd cc
same_instr-true End Done e = absurd cc
same_instr-true Done (Run t r m n) e = absurd cc
same_instr-true Done (Loop n) e = absurd cc
same_instr-true Done End e = absurd cc

same_instr-refl : (i : Instr) → same_instr i i ≡ true
same_instr-refl (Run table row mark times) =
    and_from (eqb table table && eqb row row && eqb mark mark) (eqb times times)
    (and_from (eqb table table && eqb row row) (eqb mark mark)
    (and_from (eqb table table) (eqb row row) (eqb-same table) (eqb-same row)) (eqb-same mark)) (eqb-same times)
same_instr-refl (Loop times) = eqb-same times
same_instr-refl End = refl
same_instr-refl Done = refl

pub same_code-true : (a b : List Instr) → same_code a b ≡ true → a ≡ b
same_code-true [] [] e = refl
same_code-true [] (j ∷ b) e = absurd cc
same_code-true (i ∷ a) [] e = absurd cc
same_code-true (i ∷ a) (j ∷ b) e =
    let both = and_parts (same_instr i j) (same_code a b) e in
    ap (λ (x : Instr). x ∷ a) (same_instr-true i j both.0)
    ∙ ap (λ (xs : List Instr). j ∷ xs) (same_code-true a b both.1)

pub same_code-refl : (a : List Instr) → same_code a a ≡ true
same_code-refl [] = refl
same_code-refl (i ∷ a) = and_from (same_instr i i) (same_code a a) (same_instr-refl i) (same_code-refl a)

-- ---- an entry

-- behind instructions that end so
pub with_entry-last : (e : Entry) (front : List Instr) (last : Instr)
    → with_entry e (front ++ last ∷ []) ≡ front ++ behind_last e last
with_entry-last e [] last = refl
with_entry-last e (i ∷ []) last = refl
with_entry-last e (i ∷ j ∷ front) last = ap (λ (code : List Instr). i ∷ code) (with_entry-last e (j ∷ front) last)

behind_last-size : (b : Bool) (e : Entry) (last : Instr)
    → length (cond b (once_more last ∷ []) (last ∷ once e ∷ [])) ≤ 2
behind_last-size true e last = omega arith
behind_last-size false e last = omega arith

pub with_entry-size : (e : Entry) (code : List Instr) → length (with_entry e code) ≤ length code + 1
with_entry-size e [] = omega arith
with_entry-size e (i ∷ []) = omega (arith, behind_last-size (has_room e i) e i)
with_entry-size e (i ∷ j ∷ code) = omega (arith, with_entry-size e (j ∷ code))

-- what the test of a last instruction has told
pub more-last : (e : Entry) (last run : Instr) → Some run ≡ cond (has_room e last) (Some (once_more last)) None
    → run ∷ [] ≡ behind_last e last
more-last e last run told = step (has_room e last) told
  where
    step : (b : Bool) → Some run ≡ cond b (Some (once_more last)) None
        → run ∷ [] ≡ cond b (once_more last ∷ []) (last ∷ once e ∷ [])
    step true told = let same : run ≡ once_more last = cc in ap (λ (i : Instr). i ∷ []) same
    step false told = absurd cc

pub none-last : (e : Entry) (last : Instr) → None ≡ cond (has_room e last) (Some (once_more last)) None
    → last ∷ once e ∷ [] ≡ behind_last e last
none-last e last told = step (has_room e last) told
  where
    step : (b : Bool) → None ≡ cond b (Some (once_more last)) None
        → last ∷ once e ∷ [] ≡ cond b (once_more last ∷ []) (last ∷ once e ∷ [])
    step true told = absurd cc
    step false told = refl
