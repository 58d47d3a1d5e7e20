-- What is written of flat trees nests no deeper than they do, and has no Loop of one pass: `trees-nest`. Trees of a small
-- measure nest little: `depth_in-few`.
use Rattle.std.proofs.Common.{◌≡◌, ℕ, zero, suc, ◌+◌, ◌-◌, ◌*◌, ◌^◌, ◌≤◌, ◌<◌, Bool, true, false, cond, List, [], ◌∷◌, ◌++◌, refl, sym, subst, append_assoc, arith}
use Rattle.std.proofs.Math.Nat.{pow-succ'}
use Rattle.std.proofs.lemmas.List.Sums.{sum_by-cons}
use Rattle.stil_ast.specs.Meaning.State.{State, Vector}
use Rattle.stil_ast.specs.Meaning.Running.{Ran, times, outside}
use Rattle.stil_ast.specs.Meaning.Flat.{Flat, done, table, character, back, cycle, repeat, save, saved, flat_run, measure}
use Rattle.stil_ast.specs.Meaning.ExecutiveData.{Tree, measure_in}
use Rattle.packed_code.specs.declared.instr.Entry.{Entry}
use Rattle.packed_code.specs.declared.instr.Instr.{Instr}
use Rattle.packed_code.specs.declared.instr.Instr.TheVariants.{Run, Loop, End, Done}
use Rattle.cycle_comp.specs.Depth.{loop_depth, depth, depth_in, NestWithin}
use Rattle.cycle_comp.specs.Written.{flats_of}
use Rattle.cycle_comp.specs.Writing.{looped}
use Rattle.cycle_comp.specs.Passes.{once, once_more, has_room, behind_last, with_entry, same_code, later_passes, passes, with_passes, vector_at, written, flats_written}

-- instructions may stand wherever so many more Loops may be open
abbrev Fits : ℕ → List Instr → Type 0
Fits deep code = (most opened : ℕ) (rest : List Instr) → opened + deep ≤ most → NestWithin most opened rest → NestWithin most opened (code ++ rest)

fits-nothing : (deep : ℕ) → Fits deep []
fits-nothing deep most opened rest room is = is

fits-append : (deep : ℕ) (code more : List Instr) → Fits deep code → Fits deep more → Fits deep (code ++ more)
fits-append deep code more f g most opened rest room is =
    subst (NestWithin most opened) (sym (append_assoc code more rest)) (f most opened (more ++ rest) room (g most opened rest room is))

fits-less : (deep less : ℕ) (code : List Instr) → less ≤ deep → Fits less code → Fits deep code
fits-less deep less code few f most opened rest room is = f most opened rest (omega (arith, few, room)) is

fits-looped : (deep n : ℕ) (body : List Instr) → 1 < n → Fits deep body → Fits (suc deep) (looped n body)
fits-looped deep n body some f most opened rest room is =
    let back : opened ≡ suc opened - 1 = omega arith in (
      some,
      omega (arith, room),
      subst (NestWithin most (suc opened)) (sym (append_assoc body (End ∷ []) rest))
          (f most (suc opened) (End ∷ rest) (omega (arith, room)) (subst (λ (n : ℕ). NestWithin most n rest) back is)),
    )

-- ---- one vector more

behind-nests : (e : Entry) (i : Instr) (most opened : ℕ) (rest : List Instr) → NestWithin most opened (i ∷ rest)
    → NestWithin most opened (behind_last e i ++ rest)
behind-nests e (Run t r m n) most opened rest is = step (has_room e (Run t r m n))
  where
    step : (b : Bool) → NestWithin most opened (cond b (once_more (Run t r m n) ∷ []) (Run t r m n ∷ once e ∷ []) ++ rest)
    step true = is
    step false = is
behind-nests e (Loop n) most opened rest is = is
behind-nests e End most opened rest is = is
behind-nests e Done most opened rest is = is

entry-nests : (e : Entry) (code : List Instr) (most opened : ℕ) (rest : List Instr) → NestWithin most opened (code ++ rest)
    → NestWithin most opened (with_entry e code ++ rest)
entry-nests e [] most opened rest is = is
entry-nests e (i ∷ []) most opened rest is = behind-nests e i most opened rest is
entry-nests e (Run t r m n ∷ j ∷ code) most opened rest is = entry-nests e (j ∷ code) most opened rest is
entry-nests e (Loop n ∷ j ∷ code) most opened rest is = (is.0, is.1, entry-nests e (j ∷ code) most (suc opened) rest is.2)
entry-nests e (End ∷ j ∷ code) most opened rest is = entry-nests e (j ∷ code) most (opened - 1) rest is
entry-nests e (Done ∷ j ∷ code) most opened rest is = entry-nests e (j ∷ code) most opened rest is

fits-entry : (deep : ℕ) (e : Entry) (code : List Instr) → Fits deep code → Fits deep (with_entry e code)
fits-entry deep e code f most opened rest room is = entry-nests e code most opened rest (f most opened rest room is)

-- ---- passes

fits-later : (deep n : ℕ) (second : List Instr) → Fits deep second → Fits (suc deep) (later_passes n second)
fits-later deep zero second f = fits-less (suc deep) deep second (omega arith) f
fits-later deep (suc n) second f = fits-looped deep (suc (suc n)) second (omega arith) f

fits-passes : (deep n : ℕ) (one second : List Instr) → Fits deep one → Fits deep second → Fits (suc deep) (passes n one second)
fits-passes deep n [] second f g = fits-nothing (suc deep)
fits-passes deep n (i ∷ one) second f g = step (same_code (i ∷ one) second)
  where
    step : (b : Bool) → Fits (suc deep) (cond b (looped (suc (suc n)) (i ∷ one)) ((i ∷ one) ++ later_passes n second))
    step true = fits-looped deep (suc (suc n)) (i ∷ one) (omega arith) f
    step false =
        fits-append (suc deep) (i ∷ one) (later_passes n second) (fits-less (suc deep) deep (i ∷ one) (omega arith) f) (fits-later deep n second g)

fits-with_passes : (n deep body : ℕ) (write : State → List Instr → List Instr) (run : State → Ran State)
    → ((most : ℕ) (s : State) (code : List Instr) → body ≤ most → Fits most code → Fits most (write s code))
    → loop_depth n body ≤ deep → (s : State) (code : List Instr) → Fits deep code → Fits deep (with_passes n write run s code)
fits-with_passes zero deep body write run each few s code f = f
fits-with_passes (suc zero) deep body write run each few s code f = each deep s code few f
fits-with_passes (suc (suc n)) deep body write run each few s code f =
    let one = each body s [] (omega arith) (fits-nothing body) in
    let second = each body (run s).here [] (omega arith) (fits-nothing body) in
    fits-append deep code (passes n (write s []) (write (run s).here [])) f
    (fits-less deep (suc body) (passes n (write s []) (write (run s).here [])) few
    (fits-passes body n (write s []) (write (run s).here []) one second))

-- ---- trees

fits-written : (e : Vector → Entry) (f : Flat) (base : State) (deep : ℕ) (s : State) (code : List Instr) → depth f ≤ deep
    → Fits deep code → Fits deep (written e f base s code)
fits-written e done base deep s code few fits = fits
fits-written e (table t rest) base deep s code few fits = fits-written e rest base deep _ code few fits
fits-written e (character signal c rest) base deep s code few fits = fits-written e rest base deep _ code few fits
fits-written e (back signal rest) base deep s code few fits = fits-written e rest base deep _ code few fits
fits-written e (cycle mark spot rest) base deep s code few fits =
    fits-written e rest base deep s (with_entry (e (vector_at s mark)) code) few (fits-entry deep (e (vector_at s mark)) code fits)
fits-written e (repeat count body rest) base deep s code few fits =
    fits-written e rest base deep (times count (flat_run body base) s).here
    (with_passes count (written e body base) (flat_run body base) s code) (omega (arith, few))
    (fits-with_passes count deep (depth body) (written e body base) (flat_run body base) (fits-written e body base) (omega (arith, few)) s code fits)
fits-written e (save putting body rest) base deep s code few fits =
    fits-written e rest base deep (saved putting s (flat_run body s s)).here (written e body s s code) (omega (arith, few))
    (fits-written e body s deep s code (omega (arith, few)) fits)

fits-trees : (e : Vector → Entry) (trees : List Tree) (deep : ℕ) (s : State) (code : List Instr) → depth_in trees ≤ deep → Fits deep code
    → Fits deep (flats_written e (flats_of trees) s code)
fits-trees e [] deep s code few fits = fits
fits-trees e (t ∷ trees) deep s code few fits =
    let outer = (outside s).held in
    fits-trees e trees deep (flat_run t.flat outer s).here (written e t.flat outer s code) (omega (arith, few))
    (fits-written e t.flat outer deep s code (omega (arith, few)) fits)

pub trees-nest : (e : Vector → Entry) (trees : List Tree) (s : State)
    → NestWithin (depth_in trees) 0 (flats_written e (flats_of trees) s [] ++ Done ∷ [])
trees-nest e trees s =
    fits-trees e trees (depth_in trees) s [] (omega arith) (fits-nothing (depth_in trees)) (depth_in trees) 0 (Done ∷ []) (omega arith) tt

-- ---- trees of a small measure nest little

loop-few : (count : ℕ) (body : Flat) (more n : ℕ) → 2 * measure body + 2 + more + 2 < 2 ^ suc (suc n)
    → ((k : ℕ) → measure body + 2 < 2 ^ suc (suc k) → depth body ≤ k) → loop_depth count (depth body) ≤ n
loop-few zero body more n few each = omega arith
loop-few (suc zero) body more n few each = each n (omega (arith, few))
loop-few (suc (suc count)) body more zero few each = let four : 2 ^ suc (suc zero) ≡ 4 = refl in absurd (omega (arith, few, four))
loop-few (suc (suc count)) body more (suc k) few each =
    let twice : 2 ^ suc (suc (suc k)) ≡ 2 * 2 ^ suc (suc k) = pow-succ' 2 (suc (suc k)) in
    omega (arith, each k (omega (arith, few, twice)))

depth-few : (f : Flat) (n : ℕ) → measure f + 2 < 2 ^ suc (suc n) → depth f ≤ n
depth-few done n few = omega arith
depth-few (table t rest) n few = depth-few rest n few
depth-few (character signal c rest) n few = depth-few rest n few
depth-few (back signal rest) n few = depth-few rest n few
depth-few (cycle mark spot rest) n few = depth-few rest n (omega (arith, few))
depth-few (repeat count body rest) n few =
    omega (arith, loop-few count body (measure rest) n few (depth-few body), depth-few rest n (omega (arith, few)))
depth-few (save putting body rest) n few = omega (arith, depth-few body n (omega (arith, few)), depth-few rest n (omega (arith, few)))

-- where M and 2 are below 2 ^ (n + 2), Loops nest n deep at most
pub depth_in-few : (trees : List Tree) (n : ℕ) → measure_in trees + 2 < 2 ^ suc (suc n) → depth_in trees ≤ n
depth_in-few [] n few = omega arith
depth_in-few (t ∷ trees) n few =
    let sum = sum_by-cons (λ (x : Tree). measure x.flat) t trees in
    omega (arith, depth-few t.flat n (omega (arith, few, sum)), depth_in-few trees n (omega (arith, few, sum)))

-- what nests so deep at most nests no deeper than what is more
pub nest-more : (most more opened : ℕ) (code : List Instr) → most ≤ more → NestWithin most opened code → NestWithin more opened code
nest-more most more opened [] low is = tt
nest-more most more opened (Run t r m n ∷ code) low is = nest-more most more opened code low is
nest-more most more opened (Loop n ∷ code) low is = (is.0, omega (arith, low, is.1), nest-more most more (suc opened) code low is.2)
nest-more most more opened (End ∷ code) low is = nest-more most more (opened - 1) code low is
nest-more most more opened (Done ∷ code) low is = nest-more most more opened code low is
