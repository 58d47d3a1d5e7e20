-- Where instructions without an open loop may stand.
use Rattle.std.proofs.Common.{◌≡◌, ℕ, suc, ◌+◌, ◌-◌, ◌^◌, ◌<◌, ◌≤◌, inl, inr, Bool, true, false, List, [], ◌∷◌, ◌++◌, length, refl, sym, ap, subst, append_assoc, length-append, arith}
use Rattle.std.proofs.lemmas.List.{append-nil}
use Rattle.text_bytes.specs.Limits.{most_passes, deepest_loops}
use Rattle.packed_code.specs.declared.instr.Instr.{Instr}
use Rattle.packed_code.specs.declared.instr.Instr.TheVariants.{Run, Loop, End, Done}
use Rattle.packed_code.specs.Whole.{IsRest}
use Rattle.cycle_comp.specs.Writing.{Stands, looped}

pub stands-nothing : (nest : ℕ) → Stands nest []
stands-nothing nest depth begun rest fits (inl e) is = subst (λ (b : Bool). IsRest depth b rest) (sym e) is
stands-nothing nest depth begun rest fits (inr some) is = absurd (omega arith)

-- instructions that may begin a body
abbrev Begins : ℕ → List Instr → Type 0
Begins nest more =
    (depth : ℕ) (begun : Bool) (rest : List Instr) → depth + nest ≤ deepest_loops → IsRest depth false rest →
    IsRest depth begun (more ++ rest)

-- such instructions behind others
stands-begins : (nest : ℕ) (old more : List Instr) → Begins nest more → Stands nest old → Stands nest (old ++ more)
stands-begins nest [] more b s depth begun rest fits some is = b depth begun rest fits is
stands-begins nest (i ∷ old) more b s depth begun rest fits some is =
    let behind = b depth false rest fits is in
    let all = s depth begun (more ++ rest) fits (inr (omega arith)) behind in
    subst (λ (code : List Instr). IsRest depth begun code) (sym (append_assoc (i ∷ old) more rest)) all

-- what may stand anywhere may stand behind others
pub stands-append : (nest : ℕ) (old more : List Instr) → Stands nest old → Stands nest more → Stands nest (old ++ more)
stands-append nest old [] s m = subst (λ (code : List Instr). Stands nest code) (sym (append-nil old)) s
stands-append nest old (i ∷ more) s m =
    stands-begins nest old (i ∷ more) (λ depth begun rest fits is. m depth begun rest fits (inr (omega arith)) is) s

pub stands-run : (nest table row mark : ℕ) (old : List Instr) → Stands nest old
    → Stands nest (old ++ Run table row mark 1 ∷ [])
stands-run nest table row mark old s =
    stands-begins nest old (Run table row mark 1 ∷ []) (λ depth begun rest fits is. (omega arith, omega arith, is)) s

-- a Run may run so often as well
rest-longer : (front rest : List Instr) (table row mark times more depth : ℕ) (begun : Bool) → 0 < more → more < 2 ^ 32
    → IsRest depth begun (front ++ Run table row mark times ∷ rest)
    → IsRest depth begun (front ++ Run table row mark more ∷ rest)
rest-longer [] rest table row mark times more depth begun some room is = (some, room, is.2)
rest-longer (Run t r m n ∷ front) rest table row mark times more depth begun some room is =
    (is.0, is.1, rest-longer front rest table row mark times more depth false some room is.2)
rest-longer (Loop n ∷ front) rest table row mark times more depth begun some room is =
    (is.0, is.1, is.2, rest-longer front rest table row mark times more (suc depth) true some room is.3)
rest-longer (End ∷ front) rest table row mark times more depth begun some room is =
    (is.0, is.1, rest-longer front rest table row mark times more (depth - 1) false some room is.2)
rest-longer (Done ∷ front) rest table row mark times more depth begun some room is =
    let none : length (front ++ Run table row mark times ∷ rest) ≡ 0 = ap length is.1 in
    let some_there = length-append front (Run table row mark times ∷ rest) in
    absurd (omega (arith, none, some_there))

pub stands-more : (nest table row mark times : ℕ) (front : List Instr) → times + 1 < 2 ^ 32
    → Stands nest (front ++ Run table row mark times ∷ []) → Stands nest (front ++ Run table row mark (times + 1) ∷ [])
stands-more nest table row mark times front room s depth begun rest fits some is =
    let last = Run table row mark times in
    let longer = Run table row mark (times + 1) in
    let long = length-append front (last ∷ []) in
    let there : 0 < length (front ++ last ∷ []) = omega (arith, long) in
    let was = subst (λ (code : List Instr). IsRest depth begun code) (append_assoc front (last ∷ []) rest)
    (s depth begun rest fits (inr there) is) in
    subst (λ (code : List Instr). IsRest depth begun code) (sym (append_assoc front (longer ∷ []) rest))
    (rest-longer front rest table row mark times (times + 1) depth begun (omega arith) room was)

-- what may stand behind a loop may stand behind its End
end-rest : (depth : ℕ) (rest : List Instr) → IsRest depth false rest → IsRest (suc depth) false (End ∷ rest)
end-rest depth rest is =
    let same : depth ≡ suc depth - 1 = omega arith in
    (refl, omega arith, subst (λ (d : ℕ). IsRest d false rest) same is)

pub stands-loop : (nest times : ℕ) (old body : List Instr) → 0 < times → times ≤ most_passes → 0 < length body
    → Stands nest body → Stands (suc nest) old → Stands (suc nest) (old ++ looped times body)
stands-loop nest times old body some few there inner s =
    stands-begins (suc nest) old (looped times body)
    (λ depth begun rest fits is. (
      some,
      few,
      omega (arith, fits),
      subst (λ (code : List Instr). IsRest (suc depth) true code) (sym (append_assoc body (End ∷ []) rest))
          (inner (suc depth) true (End ∷ rest) (omega (arith, fits)) (inr there) (end-rest depth rest is)),
    ))
    s

-- in front of a Done they may stand as an executive's
pub stands_whole : (code : List Instr) → Stands deepest_loops code → IsRest 0 false (code ++ Done ∷ [])
stands_whole code s = s 0 false (Done ∷ []) (omega arith) (inl refl) (refl, refl)
