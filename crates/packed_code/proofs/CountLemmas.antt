-- The count is the number of cycles: the fold over numbers is the length of the fold over lists, and
-- capping it at each step caps it as a whole.
use Rattle.std.proofs.Common.{◌≡◌, ℕ, zero, suc, ◌+◌, ◌-◌, ◌*◌, ◌^◌, ◌<◌, ◌≤◌, Bool, true, false, List, [], ◌∷◌, length, drop, get_or, set, map, replicate, refl, sym, ap, subst, ◌∙◌, arith, inl, inr}
use Rattle.std.proofs.lemmas.List.{drop_more, length-append, length-replicate, length-map, get_or-set_same, get_or-set_other}
use Rattle.std.proofs.lemmas.Bool.{cases_lt}
use Rattle.packed_code.specs.declared.instr.Entry.{Entry}
use Rattle.packed_code.specs.declared.instr.Instr.{Instr}
use Rattle.packed_code.specs.declared.instr.Instr.TheVariants.{Run, Loop, End, Done}
use Rattle.packed_code.specs.Meaning.{repeated, top, on_top, closed, bodies, Means, count_top, count_on_top, count_closed, body_counts, cycle_count}
use Rattle.packed_code.specs.Whole.{IsRest}
use Rattle.packed_code.specs.Count.{HasRoom, capped, capped_on_top, capped_closed, stack}
use Rattle.packed_code.proofs.BodyLemmas.{length-bodies}

-- ---- the numbers are lengths

pub length-repeated : (times : ℕ) (entries : List Entry) → length (repeated times entries) ≡ times * length entries
unfolding repeated
length-repeated zero entries = omega arith
length-repeated (suc times) entries =
    length-append entries (repeated times entries) ∙ omega (arith, length-repeated times entries)

on_top_counts : (entries : List Entry) (bs : List (List Entry))
    → count_on_top (length entries) (map length bs) ≡ map length (on_top entries bs)
on_top_counts entries [] = refl
on_top_counts entries (body ∷ more) = ap (λ (n : ℕ). n ∷ map length more) (sym (length-append entries body))

closed_counts : (times : ℕ) (bs : List (List Entry)) → count_closed times (map length bs) ≡ map length (closed times bs)
closed_counts times [] = refl
closed_counts times (body ∷ []) = refl
closed_counts times (body ∷ after ∷ more) =
    ap (λ (n : ℕ). n ∷ map length more)
    (sym (length-append (repeated times body) after ∙ ap (λ (n : ℕ). n + length after) (length-repeated times body)))

pub body_counts-bodies : (code : List Instr) → body_counts code ≡ map length (bodies code)
unfolding bodies body_counts
body_counts-bodies [] = refl
body_counts-bodies (Run table row mark times ∷ code) =
    (let entries : List Entry = replicate times (record { table = table; row = row; mark = mark }) in
    ap (count_on_top times) (body_counts-bodies code)
    ∙ ap (λ (n : ℕ). count_on_top n (map length (bodies code))) (sym (length-replicate times (record { table = table; row = row; mark = mark })))
    ∙ on_top_counts entries (bodies code))
body_counts-bodies (Loop times ∷ code) = ap (count_closed times) (body_counts-bodies code) ∙ closed_counts times (bodies code)
body_counts-bodies (End ∷ code) = ap (λ (ns : List ℕ). 0 ∷ ns) (body_counts-bodies code)
body_counts-bodies (Done ∷ code) = refl

top_counts : (bs : List (List Entry)) → count_top (map length bs) ≡ length (top bs)
top_counts [] = refl
top_counts (body ∷ more) = refl

-- how many cycles instructions run is how long their list of cycles is
pub cycle_count-length : (code : List Instr) → cycle_count code ≡ length (Means code)
cycle_count-length code = ap count_top (body_counts-bodies code) ∙ top_counts (bodies code)

-- ---- capping

pub capped-add : (n m : ℕ) → capped (n + capped m) ≡ capped (n + m)
capped-add n m = omega arith

-- a product with at least one pass is no less than its body
product_grows : (times body : ℕ) → 0 < times → body ≤ times * body
product_grows zero body some = absurd (omega arith)
product_grows (suc times) body some = omega (arith, product_grows_by times body)
  where
    product_grows_by : (times body : ℕ) → body ≤ suc times * body
    product_grows_by times body = omega arith

pub capped-closed : (times body after : ℕ) → 0 < times
    → capped (times * capped body + capped after) ≡ capped (times * body + after)
capped-closed times body after some =
    elim (cases_lt body (2 ^ 48 + 1)) [
      | inl low ↦ (let e : capped body ≡ body = omega arith in rw e (omega arith))
      | inr high ↦
          (let e : capped body ≡ 2 ^ 48 + 1 = omega arith in
          let few : 2 ^ 48 + 1 ≤ times * (2 ^ 48 + 1) = product_grows times (2 ^ 48 + 1) some in
          let many : body ≤ times * body = product_grows times body some in
          rw e (omega arith))
    ]

-- ---- the stack of numbers

pub length-stack : (height : ℕ) (sums : List ℕ) → length (stack height sums) ≡ height
length-stack zero sums = refl
length-stack (suc height) sums = ap suc (length-stack height sums)

pub stack-set : (height place : ℕ) (sums : List ℕ) (n : ℕ) → height ≤ place → stack height (set sums place n) ≡ stack height sums
stack-set zero place sums n low = refl
stack-set (suc height) place sums n low =
    let other : height ≡ place → ⊥ = λ e. omega arith in
    let inner : stack height (set sums place n) ≡ stack height sums = stack-set height place sums n (omega arith) in
    rw (get_or-set_other sums place height n 0 other, inner) refl

pub stack_one : (height : ℕ) (sums : List ℕ) → 0 < height → stack height sums ≡ get_or sums (height - 1) 0 ∷ stack (height - 1) sums
stack_one zero sums some = absurd (omega arith)
stack_one (suc height) sums some = let e : suc height - 1 ≡ height = omega arith in rw e refl

pub stack_more : (height : ℕ) (sums : List ℕ) (n : ℕ) → height < length sums → stack (height + 1) (set sums height n) ≡ n ∷ stack height sums
stack_more height sums n room =
    let e : height + 1 ≡ suc height = omega arith in
    rw (e, get_or-set_same sums height n 0 room, stack-set height height sums n (omega arith)) refl

-- the number on top is changed
pub stack_top : (height : ℕ) (sums : List ℕ) (n : ℕ) → 0 < height → height ≤ length sums
    → stack height (set sums (height - 1) n) ≡ n ∷ stack (height - 1) sums
stack_top height sums n some room =
    let e : height ≡ (height - 1) + 1 = omega arith in
    ap (λ (k : ℕ). stack k (set sums (height - 1) n)) e ∙ stack_more (height - 1) sums n (omega arith)

-- ---- one instruction in front

run_step : (n : ℕ) (counts : List ℕ) → capped_on_top n (map capped counts) ≡ map capped (count_on_top n counts)
run_step n [] = refl
run_step n (body ∷ more) = ap (λ (k : ℕ). k ∷ map capped more) (capped-add n body)

loop_step : (times : ℕ) (counts : List ℕ) → 0 < times → capped_closed times (map capped counts) ≡ map capped (count_closed times counts)
loop_step times [] some = refl
loop_step times (body ∷ []) some = refl
loop_step times (body ∷ after ∷ more) some = ap (λ (k : ℕ). k ∷ map capped more) (capped-closed times body after some)

pub run_put : (code : List Instr) (table row mark times : ℕ) (old : List ℕ) → old ≡ map capped (body_counts code)
    → capped_on_top times old ≡ map capped (body_counts (Run table row mark times ∷ code))
unfolding body_counts
run_put code table row mark times old is = ap (capped_on_top times) is ∙ run_step times (body_counts code)

pub loop_put : (code : List Instr) (times : ℕ) (old : List ℕ) → 0 < times → old ≡ map capped (body_counts code)
    → capped_closed times old ≡ map capped (body_counts (Loop times ∷ code))
unfolding body_counts
loop_put code times old some is = ap (capped_closed times) is ∙ loop_step times (body_counts code) some

pub end_put : (code : List Instr) (old : List ℕ) → old ≡ map capped (body_counts code)
    → 0 ∷ old ≡ map capped (body_counts (End ∷ code))
unfolding body_counts
end_put code old is = ap (λ (ns : List ℕ). 0 ∷ ns) is

pub done_put : (code : List Instr) → 0 ∷ [] ≡ map capped (body_counts (Done ∷ code))
unfolding body_counts
done_put code = refl

pub none_put : 0 ∷ [] ≡ map capped (body_counts [])
unfolding body_counts
none_put = refl

-- ---- the room for them

-- what stands at a place, seen from there
pub record IsThere (code : List Instr) (at : ℕ) : Type 0 where
  pub depth : ℕ
  pub deep : depth ≤ 64
  pub begun : Bool
  pub rest : IsRest depth begun (drop at code)

pub there : (code : List Instr) (depth : ℕ) (begun : Bool) (at : ℕ) → IsRest depth begun code → depth ≤ 64 → at < length code → IsThere code at
there code depth begun zero rest deep inside = record { depth = depth; deep = deep; begun = begun; rest = rest }
there [] depth begun (suc at) rest deep inside = absurd rest
there (Run table row mark times ∷ code) depth begun (suc at) rest deep inside =
    let next = there code depth false at rest.2 deep (omega arith) in
    record { depth = next.depth; deep = next.deep; begun = next.begun; rest = next.rest }
there (Loop times ∷ code) depth begun (suc at) rest deep inside =
    let lower : depth < 64 = rest.2 in
    let next = there code (suc depth) true at rest.3 (omega arith) (omega arith) in
    record { depth = next.depth; deep = next.deep; begun = next.begun; rest = next.rest }
there (End ∷ code) depth begun (suc at) rest deep inside =
    let next = there code (depth - 1) false at rest.2 (omega arith) (omega arith) in
    record { depth = next.depth; deep = next.deep; begun = next.begun; rest = next.rest }
there (Done ∷ code) depth begun (suc at) rest deep inside =
    absurd (let none : length code ≡ 0 = ap length rest.1 in omega arith)

counts_high : (code : List Instr) (depth : ℕ) (begun : Bool) → IsRest depth begun code → length (map capped (body_counts code)) ≡ suc depth
counts_high code depth begun rest =
    length-map (body_counts code) capped ∙ ap length (body_counts-bodies code) ∙ length-map (bodies code) length ∙ length-bodies depth begun code rest

room_in : (code : List Instr) (i : Instr) (depth : ℕ) (begun : Bool) → IsRest depth begun (i ∷ code) → depth ≤ 64
    → HasRoom i (length (map capped (body_counts code)))
room_in code (Run table row mark times) depth begun rest deep = omega (arith, counts_high code depth false rest.2)
room_in code (Loop times) depth begun rest deep = (omega (arith, counts_high code (suc depth) true rest.3), rest.0)
room_in code End depth begun rest deep =
    let some : 0 < depth = rest.1 in omega (arith, counts_high code (depth - 1) false rest.2)
room_in code Done depth begun rest deep = tt

-- the instruction in front of a place that the count has reached has room
pub has_room : (code : List Instr) (at : ℕ) (old : List ℕ) → IsRest 0 false code → at < length code
    → old ≡ map capped (body_counts (drop (at + 1) code)) → HasRoom (get_or code at (Run 0 0 0 0)) (length old)
has_room code at old rest inside is =
    let here = there code 0 false at rest (omega arith) inside in
    let front : IsRest here.depth here.begun (get_or code at (Run 0 0 0 0) ∷ drop (at + 1) code) =
    subst (λ (xs : List Instr). IsRest here.depth here.begun xs) (drop_more code at (Run 0 0 0 0) inside) here.rest in
    subst (λ (ns : List ℕ). HasRoom (get_or code at (Run 0 0 0 0)) (length ns)) (sym is)
    (room_in (drop (at + 1) code) (get_or code at (Run 0 0 0 0)) here.depth here.begun front here.deep)

pub put_more : (code : List Instr) (at : ℕ) (new : List ℕ) → at < length code
    → new ≡ map capped (body_counts (get_or code at (Run 0 0 0 0) ∷ drop (at + 1) code)) → new ≡ map capped (body_counts (drop at code))
put_more code at new inside is = is ∙ ap (λ (xs : List Instr). map capped (body_counts xs)) (sym (drop_more code at (Run 0 0 0 0) inside))

-- the whole count stands on top
pub is_counted : (code : List Instr) (sums : List ℕ) → IsRest 0 false code → sums ≡ map capped (body_counts code)
    → (0 < length sums) × (get_or sums 0 0 ≡ capped (cycle_count code))
is_counted code sums rest is =
    (omega (arith, ap length is ∙ counts_high code 0 false rest), ap (λ (ns : List ℕ). get_or ns 0 0) is ∙ first (body_counts code))
  where
    first : (ns : List ℕ) → get_or (map capped ns) 0 0 ≡ capped (count_top ns)
    first [] = refl
    first (n ∷ ns) = refl

-- ---- the moves of the stack

-- how high a stack is that is seen as a list
pub height_is : (height : ℕ) (sums seen : List ℕ) → stack height sums ≡ seen → height ≡ length seen
height_is height sums seen is = sym (length-stack height sums) ∙ ap length is

pub opens : (height : ℕ) (sums seen : List ℕ) → stack height sums ≡ seen → length seen < 65 → length sums ≡ 65
    → stack (height + 1) (set sums height 0) ≡ 0 ∷ seen
opens height sums seen is room wide =
    let high = height_is height sums seen is in
    stack_more height sums 0 (omega arith) ∙ ap (λ (ns : List ℕ). 0 ∷ ns) is

pub runs : (height : ℕ) (sums seen : List ℕ) (times n : ℕ) → stack height sums ≡ seen → 0 < length seen → height ≤ 65 → length sums ≡ 65
    → n ≡ capped (times + get_or sums (height - 1) 0) → stack height (set sums (height - 1) n) ≡ capped_on_top times seen
runs height sums seen times n is some low wide value =
    let high = height_is height sums seen is in
    stack_top height sums n (omega arith) (omega arith)
    ∙ ap (λ (k : ℕ). k ∷ stack (height - 1) sums) value
    ∙ ap (capped_on_top times) (sym (stack_one height sums (omega arith)) ∙ is)

pub closes : (height : ℕ) (sums seen : List ℕ) (times n : ℕ) → stack height sums ≡ seen → 1 < length seen → height ≤ 65 → length sums ≡ 65
    → n ≡ capped (times * get_or sums (height - 1) 0 + get_or sums (height - 1 - 1) 0)
    → stack (height - 1) (set sums (height - 1 - 1) n) ≡ capped_closed times seen
closes height sums seen times n is some low wide value =
    let high = height_is height sums seen is in
    stack_top (height - 1) sums n (omega arith) (omega arith)
    ∙ ap (λ (k : ℕ). k ∷ stack (height - 1 - 1) sums) value
    ∙ ap (λ (ns : List ℕ). capped_closed times (get_or sums (height - 1) 0 ∷ ns)) (sym (stack_one (height - 1) sums (omega arith)))
    ∙ ap (capped_closed times) (sym (stack_one height sums (omega arith)) ∙ is)
