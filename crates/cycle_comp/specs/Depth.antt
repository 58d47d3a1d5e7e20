-- How deep Loops nest, in flat trees and in instructions (IEEE 1450-1999, clause 22).
use Rattle.std.specs.Prelude.{ℕ, zero, suc, ◌-◌, ◌<◌, List, [], ◌∷◌, max}
use Rattle.stil_ast.specs.Meaning.Flat.{Flat, done, table, character, back, cycle, repeat, save}
use Rattle.stil_ast.specs.Meaning.ExecutiveData.{Tree, Executive}
use Rattle.packed_code.specs.declared.instr.Instr.{Instr}
use Rattle.packed_code.specs.declared.instr.Instr.TheVariants.{Run, Loop, End, Done}

-- how deep Loops nest in one of so many passes over a body of this depth: only one of several passes counts
abbrev pub loop_depth : ℕ → ℕ → ℕ
loop_depth zero body = 0
loop_depth (suc zero) body = body
loop_depth (suc (suc n)) body = suc body

-- how deep they nest in a flat tree
abbrev pub depth : Flat → ℕ
depth done = 0
depth (table t rest) = depth rest
depth (character signal c rest) = depth rest
depth (back signal rest) = depth rest
depth (cycle mark spot rest) = depth rest
depth (repeat count body rest) = max (loop_depth count (depth body)) (depth rest)
depth (save putting body rest) = max (depth body) (depth rest)

-- in flat trees
abbrev pub depth_in : List Tree → ℕ
depth_in [] = 0
depth_in (t ∷ trees) = max (depth t.flat) (depth_in trees)

-- in those of an executive
abbrev pub depth_of : Executive → ℕ
depth_of e = depth_in e.trees

-- where so many Loops are open, those behind a place of instructions have two passes and more, and no more than `most`
-- are ever open
abbrev pub NestWithin : ℕ → ℕ → List Instr → Type 0
NestWithin most opened [] = Unit {0}
NestWithin most opened (Run t row mark times ∷ code) = NestWithin most opened code
NestWithin most opened (Loop times ∷ code) = (1 < times) × (opened < most) × NestWithin most (suc opened) code
NestWithin most opened (End ∷ code) = NestWithin most (opened - 1) code
NestWithin most opened (Done ∷ code) = NestWithin most opened code
