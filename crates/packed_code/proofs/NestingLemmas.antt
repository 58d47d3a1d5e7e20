-- What instructions mean is what they run by how their loops nest.
use Rattle.std.proofs.Common.{◌≡◌, ℕ, zero, suc, ◌-◌, ◌<◌, Bool, false, List, [], ◌∷◌, ◌++◌, replicate, refl, sym, ap, subst, ◌∙◌, arith, append_assoc}
use Rattle.std.proofs.lemmas.List.{append-nil}
use Rattle.packed_code.specs.declared.instr.Entry.{Entry}
use Rattle.packed_code.specs.declared.instr.Instr.{Instr}
use Rattle.packed_code.specs.declared.instr.Instr.TheVariants.{Run, Loop, End, Done}
use Rattle.packed_code.specs.Meaning.{repeated, top, on_top, closed, bodies, Means}
use Rattle.packed_code.specs.Nesting.{Runs, nothing, a_run, a_loop}
use Rattle.packed_code.specs.Whole.{IsRest}

-- no cycles run first
pub on_top-none : (bs : List (List Entry)) → on_top [] bs ≡ bs
on_top-none [] = refl
on_top-none (body ∷ more) = refl

-- some cycles run first, and before them others
on_top-on_top : (some more : List Entry) (bs : List (List Entry)) → on_top some (on_top more bs) ≡ on_top (some ++ more) bs
on_top-on_top some more [] = refl
on_top-on_top some more (body ∷ bs) = ap (λ (b : List Entry). b ∷ bs) (sym (append_assoc some more body))

-- a loop over a body, and what runs behind it
closed-on_top : (times : ℕ) (pass cycles : List Entry) (bs : List (List Entry))
    → closed times (on_top pass ([] ∷ on_top cycles bs)) ≡ on_top (repeated times pass ++ cycles) bs
closed-on_top times pass cycles [] = refl
closed-on_top times pass cycles (body ∷ more) =
    ap (λ (p : List Entry). (repeated times p ++ (cycles ++ body)) ∷ more) (append-nil pass)
    ∙ ap (λ (b : List Entry). b ∷ more) (sym (append_assoc (repeated times pass) cycles body))

-- what instructions run comes before the rest
pub bodies-Runs : (front : List Instr) (cycles : List Entry) (rest : List Instr) → Runs front cycles
    → bodies (front ++ rest) ≡ on_top cycles (bodies rest)
unfolding bodies
bodies-Runs [] [] rest nothing = sym (on_top-none (bodies rest))
bodies-Runs front cycles rest (a_run table row mark times code more runs) =
    ap (on_top (replicate times (record { table = table; row = row; mark = mark }))) (bodies-Runs code more rest runs)
    ∙ on_top-on_top (replicate times (record { table = table; row = row; mark = mark })) more (bodies rest)
bodies-Runs front cycles rest (a_loop times body code pass more inner outer) =
    ap (λ (c : List Instr). closed times (bodies c)) (append_assoc body (End ∷ code) rest)
    ∙ ap (closed times) (bodies-Runs body pass (End ∷ (code ++ rest)) inner)
    ∙ ap (λ (bs : List (List Entry)). closed times (on_top pass ([] ∷ bs))) (bodies-Runs code more rest outer)
    ∙ closed-on_top times pass more (bodies rest)

-- so a whole executive means what its instructions before Done run
pub Means-Runs : (front : List Instr) (cycles : List Entry) → Runs front cycles → Means (front ++ Done ∷ []) ≡ cycles
unfolding bodies
Means-Runs front cycles runs = ap top (bodies-Runs front cycles (Done ∷ []) runs) ∙ append-nil cycles

-- instructions that run some cycles up to a Done
record IsCut (code : List Instr) : Type 0 where
  pub front : List Instr
  pub cycles : List Entry
  pub runs : Runs front cycles
  pub are : code ≡ front ++ Done ∷ []

-- instructions that run some cycles up to an End, and what stands behind it
record IsCutAtEnd (Behind : List Instr → Type 0) (code : List Instr) : Type 0 where
  pub front : List Instr
  pub cycles : List Entry
  pub rest : List Instr
  pub runs : Runs front cycles
  pub are : code ≡ front ++ End ∷ rest
  pub behind : Behind rest

-- instructions in which so many loops are open, cut at the End of each and at Done
abbrev Parts : ℕ → List Instr → Type 0
Parts zero code = IsCut code
Parts (suc depth) code = IsCutAtEnd (Parts depth) code

-- with a Run in front
after_run : (depth table row mark times : ℕ) (code : List Instr) → Parts depth code → Parts depth (Run table row mark times ∷ code)
after_run zero table row mark times code p = record {
  front = Run table row mark times ∷ p.front;
  cycles = replicate times (record { table = table; row = row; mark = mark }) ++ p.cycles;
  runs = a_run table row mark times p.front p.cycles p.runs;
  are = ap (λ (c : List Instr). Run table row mark times ∷ c) p.are;
}
after_run (suc depth) table row mark times code p = record {
  front = Run table row mark times ∷ p.front;
  cycles = replicate times (record { table = table; row = row; mark = mark }) ++ p.cycles;
  rest = p.rest;
  runs = a_run table row mark times p.front p.cycles p.runs;
  are = ap (λ (c : List Instr). Run table row mark times ∷ c) p.are;
  behind = p.behind;
}

-- a Loop over its body, and what runs behind its End
joined : (times : ℕ) (code body rest front last : List Instr) → code ≡ body ++ End ∷ rest → rest ≡ front ++ last
    → Loop times ∷ code ≡ (Loop times ∷ (body ++ End ∷ front)) ++ last
joined times code body rest front last e g =
    ap (λ (c : List Instr). Loop times ∷ c)
    (e ∙ ap (λ (c : List Instr). body ++ End ∷ c) g ∙ sym (append_assoc body (End ∷ front) last))

-- with a Loop in front
after_loop : (depth times : ℕ) (code : List Instr) → Parts (suc depth) code → Parts depth (Loop times ∷ code)
after_loop zero times code p = record {
  front = Loop times ∷ (p.front ++ End ∷ p.behind.front);
  cycles = repeated times p.cycles ++ p.behind.cycles;
  runs = a_loop times p.front p.behind.front p.cycles p.behind.cycles p.runs p.behind.runs;
  are = joined times code p.front p.rest p.behind.front (Done ∷ []) p.are p.behind.are;
}
after_loop (suc depth) times code p = record {
  front = Loop times ∷ (p.front ++ End ∷ p.behind.front);
  cycles = repeated times p.cycles ++ p.behind.cycles;
  rest = p.behind.rest;
  runs = a_loop times p.front p.behind.front p.cycles p.behind.cycles p.runs p.behind.runs;
  are = joined times code p.front p.rest p.behind.front (End ∷ p.behind.rest) p.are p.behind.are;
  behind = p.behind.behind;
}

-- with an End in front
after_end : (depth : ℕ) (code : List Instr) → 0 < depth → Parts (depth - 1) code → Parts depth (End ∷ code)
after_end zero code some p = absurd (omega arith)
after_end (suc depth) code some p = record {
  front = [];
  cycles = [];
  rest = code;
  runs = nothing;
  are = refl;
  behind = let same : suc depth - 1 ≡ depth = omega arith in subst (λ (d : ℕ). Parts d code) same p;
}

-- instructions that an executive may have are cut so
parts : (code : List Instr) (depth : ℕ) (begun : Bool) → IsRest depth begun code → Parts depth code
parts [] depth begun rest = absurd rest
parts (Run table row mark times ∷ code) depth begun rest = after_run depth table row mark times code (parts code depth _ rest.2)
parts (Loop times ∷ code) depth begun rest = after_loop depth times code (parts code (suc depth) _ rest.3)
parts (End ∷ code) depth begun rest = after_end depth code rest.1 (parts code (depth - 1) _ rest.2)
parts (Done ∷ code) depth begun rest =
    subst (λ (d : ℕ). Parts d (Done ∷ code)) (sym rest.0)
    (record { front = []; cycles = []; runs = nothing; are = ap (λ (c : List Instr). Done ∷ c) rest.1 })

-- an executive's instructions are those before Done, which run what it means
pub Runs-Means : (code : List Instr) → IsRest 0 false code
    → (front : List Instr) × (code ≡ front ++ Done ∷ []) × Runs front (Means code)
Runs-Means code rest =
    let p : IsCut code = parts code 0 false rest in
    let same : p.cycles ≡ Means code = sym (ap Means p.are ∙ Means-Runs p.front p.cycles p.runs) in
    (p.front, p.are, subst (Runs p.front) same p.runs)
