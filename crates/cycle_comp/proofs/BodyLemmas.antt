-- What instructions without an open loop put in front of the cycles behind them.
use Rattle.std.proofs.Common.{◌≡◌, ℕ, zero, suc, ◌+◌, List, [], ◌∷◌, ◌++◌, replicate, refl, sym, ap, ◌∙◌, append_assoc}
use Rattle.std.proofs.lemmas.List.{append-nil}
use Rattle.packed_code.proofs.NestingLemmas.{on_top-none}
use Rattle.text_bytes.proofs.ListLemmas.{suc-plus}
use Rattle.packed_code.specs.declared.instr.Entry.{Entry}
use Rattle.packed_code.specs.declared.instr.Instr.{Instr}
use Rattle.packed_code.specs.declared.instr.Instr.TheVariants.{Run, Loop, End, Done}
use Rattle.packed_code.specs.Meaning.{repeated, top, on_top, closed, bodies, Means}
use Rattle.cycle_comp.specs.Writing.{Puts, looped}

-- some cycles run first, and behind them others
on_top-append : (some more : List Entry) (bs : List (List Entry)) → on_top (some ++ more) bs ≡ on_top some (on_top more bs)
on_top-append some more [] = refl
on_top-append some more (body ∷ bs) = ap (λ (b : List Entry). b ∷ bs) (append_assoc some more body)

-- what is put behind more instructions depends on what those behind them mean
bodies_same : (code x y : List Instr) → bodies x ≡ bodies y → bodies (code ++ x) ≡ bodies (code ++ y)
unfolding bodies
bodies_same [] x y e = e
bodies_same (Run table row mark times ∷ code) x y e =
    ap (on_top (replicate times (record { table = table; row = row; mark = mark }))) (bodies_same code x y e)
bodies_same (Loop times ∷ code) x y e = ap (closed times) (bodies_same code x y e)
bodies_same (End ∷ code) x y e = ap (λ (bs : List (List Entry)). [] ∷ bs) (bodies_same code x y e)
bodies_same (Done ∷ code) x y e = refl

pub puts-nothing : Puts [] []
puts-nothing rest = sym (on_top-none (bodies rest))

-- closed instructions behind others
pub puts-append : (old more : List Instr) (cycles pass : List Entry) → Puts old cycles → Puts more pass
    → Puts (old ++ more) (cycles ++ pass)
puts-append old more cycles pass p q rest =
    ap bodies (append_assoc old more rest)
    ∙ (p (more ++ rest) ∙ (ap (on_top cycles) (q rest) ∙ sym (on_top-append cycles pass (bodies rest))))

-- a Run
puts-one : (table row mark : ℕ) → Puts (Run table row mark 1 ∷ []) (record { table = table; row = row; mark = mark } ∷ [])
unfolding bodies
puts-one table row mark rest = refl

pub puts-run : (e : Entry) (old : List Instr) (cycles : List Entry) → Puts old cycles
    → Puts (old ++ Run e.table e.row e.mark 1 ∷ []) (cycles ++ e ∷ [])
puts-run e old cycles p =
    puts-append old (Run e.table e.row e.mark 1 ∷ []) cycles (e ∷ []) p (puts-one e.table e.row e.mark)

-- one more of the same, behind them
replicate-more : {A : Type 0} (n : ℕ) (x : A) → replicate (suc n) x ≡ replicate n x ++ x ∷ []
replicate-more zero x = refl
replicate-more (suc n) x = ap (λ xs. x ∷ xs) (replicate-more n x)

-- a Run that runs once more is that Run and another one
bodies_more : (table row mark times : ℕ) (rest : List Instr)
    → bodies (Run table row mark (times + 1) ∷ rest) ≡ bodies (Run table row mark times ∷ Run table row mark 1 ∷ rest)
unfolding bodies
bodies_more table row mark times rest =
    let e : Entry = record { table = table; row = row; mark = mark } in
    ap (λ (es : List Entry). on_top es (bodies rest)) (ap (λ (k : ℕ). replicate k e) (sym (suc-plus times)) ∙ replicate-more times e)
    ∙ on_top-append (replicate times e) (e ∷ []) (bodies rest)

pub puts-more : (e : Entry) (times : ℕ) (front : List Instr) (cycles : List Entry)
    → Puts (front ++ Run e.table e.row e.mark times ∷ []) cycles
    → Puts (front ++ Run e.table e.row e.mark (times + 1) ∷ []) (cycles ++ e ∷ [])
puts-more e times front cycles p rest =
    let one = Run e.table e.row e.mark 1 in
    let last = Run e.table e.row e.mark times in
    let longer = Run e.table e.row e.mark (times + 1) in
    ap bodies (append_assoc front (longer ∷ []) rest)
    ∙ (bodies_same front (longer ∷ rest) (last ∷ one ∷ rest) (bodies_more e.table e.row e.mark times rest)
    ∙ (ap bodies (sym (append_assoc front (last ∷ []) (one ∷ rest)))
    ∙ (p (one ∷ rest)
    ∙ (ap (on_top cycles) (puts-one e.table e.row e.mark rest)
    ∙ sym (on_top-append cycles (e ∷ []) (bodies rest))))))

-- a loop over a body, and what stands behind its End
closed_body : (times : ℕ) (pass : List Entry) (bs : List (List Entry))
    → closed times (on_top pass ([] ∷ bs)) ≡ on_top (repeated times pass) bs
closed_body times pass [] = refl
closed_body times pass (body ∷ more) =
    ap (λ (p : List Entry). (repeated times p ++ body) ∷ more) (append-nil pass)

puts-looped : (times : ℕ) (body : List Instr) (pass : List Entry) → Puts body pass
    → Puts (looped times body) (repeated times pass)
unfolding bodies
puts-looped times body pass p rest =
    ap (λ (code : List Instr). closed times (bodies code)) (append_assoc body (End ∷ []) rest)
    ∙ (ap (closed times) (p (End ∷ rest)) ∙ closed_body times pass (bodies rest))

pub puts-loop : (times : ℕ) (old body : List Instr) (cycles pass : List Entry) → Puts old cycles → Puts body pass
    → Puts (old ++ looped times body) (cycles ++ repeated times pass)
puts-loop times old body cycles pass p q =
    puts-append old (looped times body) cycles (repeated times pass) p (puts-looped times body pass q)

-- no instructions put nothing
pub nothing_puts : (cycles : List Entry) → Puts [] cycles → cycles ≡ []
unfolding bodies
nothing_puts cycles p = sym (append-nil cycles) ∙ sym (ap top (p []))

-- instructions in front of a Done mean what they put
pub puts_means : (code : List Instr) (cycles : List Entry) → Puts code cycles → Means (code ++ Done ∷ []) ≡ cycles
unfolding bodies
puts_means code cycles p = ap top (p (Done ∷ [])) ∙ append-nil cycles
