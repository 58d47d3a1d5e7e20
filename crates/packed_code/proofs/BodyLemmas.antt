-- How deep the bodies are, and what an instruction in front makes of them.
use Rattle.std.proofs.Common.{◌≡◌, ℕ, zero, suc, ◌-◌, ◌<◌, Bool, true, false, List, [], ◌∷◌, length, drop, replicate, Some, refl, sym, ap, ◌∙◌, arith}
use Rattle.packed_code.specs.declared.instr.Entry.{Entry}
use Rattle.packed_code.specs.declared.instr.Instr.{Instr}
use Rattle.packed_code.specs.declared.instr.Instr.TheVariants.{Run, Loop, End, Done}
use Rattle.packed_code.specs.Meaning.{on_top, closed, bodies}
use Rattle.packed_code.specs.Whole.{IsRest}
use Rattle.packed_code.specs.Course.{at_end, loop_times}

-- ---- lists of bodies

pub length-on_top : (entries : List Entry) (bs : List (List Entry)) → length (on_top entries bs) ≡ length bs
length-on_top entries [] = refl
length-on_top entries (body ∷ more) = refl

pub length-closed : (times depth : ℕ) (bs : List (List Entry)) → length bs ≡ suc (suc depth)
    → length (closed times bs) ≡ suc depth
length-closed times depth [] e = absurd (omega (arith, e))
length-closed times depth (body ∷ []) e = absurd (omega (arith, e))
length-closed times depth (body ∷ after ∷ more) e = omega (arith, e)

-- the first two of at least two bodies
pub record IsTwo (bs : List (List Entry)) : Type 0 where
  pub body : List Entry
  pub after : List Entry
  pub more : List (List Entry)
  pub are : bs ≡ body ∷ after ∷ more

pub two_bodies : (depth : ℕ) (bs : List (List Entry)) → length bs ≡ suc (suc depth) → IsTwo bs
two_bodies depth [] e = absurd (omega (arith, e))
two_bodies depth (body ∷ []) e = absurd (omega (arith, e))
two_bodies depth (body ∷ after ∷ more) e = record { body = body; after = after; more = more; are = refl }

-- the first of at least one body
pub record IsOne (bs : List (List Entry)) : Type 0 where
  pub body : List Entry
  pub more : List (List Entry)
  pub are : bs ≡ body ∷ more

pub one_body : (depth : ℕ) (bs : List (List Entry)) → length bs ≡ suc depth → IsOne bs
one_body depth [] e = absurd (omega (arith, e))
one_body depth (body ∷ more) e = record { body = body; more = more; are = refl }

-- ---- how many bodies

pub length-bodies : (depth : ℕ) (begun : Bool) (code : List Instr) → IsRest depth begun code
    → length (bodies code) ≡ suc depth
unfolding bodies
length-bodies depth begun [] rest = absurd rest
length-bodies depth begun (Run table row mark times ∷ code) rest =
    length-on_top (replicate times (record { table = table; row = row; mark = mark })) (bodies code) ∙ length-bodies depth false code rest.2
length-bodies depth begun (Loop times ∷ code) rest =
    length-closed times depth (bodies code) (length-bodies (suc depth) true code rest.3)
length-bodies depth begun (End ∷ code) rest =
    let inner : length (bodies code) ≡ suc (depth - 1) = length-bodies (depth - 1) false code rest.2 in
    let open_one : 0 < depth = rest.1 in
    omega (arith, inner)
length-bodies depth begun (Done ∷ code) rest = ap suc (sym rest.0)

-- ---- what stands in front

pub end_in_front : (code : List Instr) → at_end code ≡ true → code ≡ End ∷ drop 1 code
end_in_front [] e = absurd cc
end_in_front (Run table row mark times ∷ code) e = absurd cc
end_in_front (Loop times ∷ code) e = absurd cc
end_in_front (End ∷ code) e = refl
end_in_front (Done ∷ code) e = absurd cc

pub loop_in_front : (code : List Instr) (times : ℕ) → loop_times code ≡ Some times → code ≡ Loop times ∷ drop 1 code
loop_in_front [] times e = absurd cc
loop_in_front (Run table row mark n ∷ code) times e = absurd cc
loop_in_front (Loop n ∷ code) times e = let same : n ≡ times = cc in ap (λ (k : ℕ). Loop k ∷ code) same
loop_in_front (End ∷ code) times e = absurd cc
loop_in_front (Done ∷ code) times e = absurd cc

-- no body begins with an End
pub begun_not_end : (depth : ℕ) (code : List Instr) → IsRest depth true code → at_end code ≡ false
begun_not_end depth [] rest = absurd rest
begun_not_end depth (Run table row mark times ∷ code) rest = refl
begun_not_end depth (Loop times ∷ code) rest = refl
begun_not_end depth (End ∷ code) rest = absurd (let e : true ≡ false = rest.0 in cc)
begun_not_end depth (Done ∷ code) rest = refl

-- something stands where a rest does
pub inside_code : (depth : ℕ) (begun : Bool) (code : List Instr) (at : ℕ) → IsRest depth begun (drop at code) → at < length code
inside_code depth begun [] zero rest = absurd rest
inside_code depth begun [] (suc at) rest = absurd rest
inside_code depth begun (i ∷ code) zero rest = omega arith
inside_code depth begun (i ∷ code) (suc at) rest =
    let within : at < length code = inside_code depth begun code at rest in omega arith
