-- What instructions mean: the cycles that they run, in order, with each loop unrolled.
use Rattle.std.specs.Prelude.{ℕ, zero, suc, ◌+◌, ◌*◌, List, [], ◌∷◌, ◌++◌, replicate}
use Rattle.packed_code.specs.declared.instr.Entry.{Entry}
use Rattle.packed_code.specs.declared.instr.Instr.{Instr}
use Rattle.packed_code.specs.declared.instr.Instr.TheVariants.{Run, Loop, End, Done}

-- the list, so many times over
unfoldable pub repeated : ℕ → List Entry → List Entry
repeated zero entries = []
repeated (suc n) entries = entries ++ repeated n entries

-- what runs before the innermost open loop ends
abbrev pub top : List (List Entry) → List Entry
top [] = []
top (body ∷ more) = body

-- what runs behind the end of that loop, then behind the end of the loop round it, and so on
abbrev pub below : List (List Entry) → List (List Entry)
below [] = []
below (body ∷ more) = more

-- these cycles run first
abbrev pub on_top : List Entry → List (List Entry) → List (List Entry)
on_top entries [] = []
on_top entries (body ∷ more) = (entries ++ body) ∷ more

-- a loop over the first of these lists, with the second behind its end
abbrev pub closed : ℕ → List (List Entry) → List (List Entry)
closed times [] = []
closed times (body ∷ []) = []
closed times (body ∷ after ∷ more) = (repeated times body ++ after) ∷ more

-- what runs from here up to the end of the innermost open loop, then from there up to the end of the
-- loop round it, and so on; the last of these lists runs up to Done
unfoldable pub bodies : List Instr → List (List Entry)
bodies [] = [] ∷ []
bodies (Run table row mark times ∷ code) =
    on_top (replicate times (record { table = table; row = row; mark = mark })) (bodies code)
bodies (Loop times ∷ code) = closed times (bodies code)
bodies (End ∷ code) = [] ∷ bodies code
bodies (Done ∷ code) = [] ∷ []

-- the cycles that an executive's instructions run: a Run stands for its entry, times over, and a Loop
-- for its body, times over
abbrev pub Means : List Instr → List Entry
Means code = top (bodies code)

-- the same fold over the numbers of cycles alone, which unrolls nothing
abbrev pub count_top : List ℕ → ℕ
count_top [] = 0
count_top (n ∷ more) = n

-- so many cycles run first
abbrev pub count_on_top : ℕ → List ℕ → List ℕ
count_on_top n [] = []
count_on_top n (body ∷ more) = (n + body) ∷ more

-- a loop over a body of so many cycles
abbrev pub count_closed : ℕ → List ℕ → List ℕ
count_closed times [] = []
count_closed times (body ∷ []) = []
count_closed times (body ∷ after ∷ more) = (times * body + after) ∷ more

-- how many cycles each of the bodies runs
unfoldable pub body_counts : List Instr → List ℕ
body_counts [] = 0 ∷ []
body_counts (Run table row mark times ∷ code) = count_on_top times (body_counts code)
body_counts (Loop times ∷ code) = count_closed times (body_counts code)
body_counts (End ∷ code) = 0 ∷ body_counts code
body_counts (Done ∷ code) = 0 ∷ []

-- how many cycles an executive's instructions run
abbrev pub cycle_count : List Instr → ℕ
cycle_count code = count_top (body_counts code)
