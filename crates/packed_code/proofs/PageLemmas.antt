-- Which page an instruction stands on, and where on it.
use Rattle.std.proofs.Common.{◌≡◌, ℕ, zero, suc, ◌+◌, ◌-◌, ◌*◌, ◌/◌, ◌%◌, ◌<◌, ◌≤◌, List, [], ◌∷◌, ◌++◌, length, get_or, take, drop, min, slice_get, Some, refl, sym, ap, subst, ◌∙◌, arith}
use Rattle.std.specs.List.{flat_map}
use Rattle.std.proofs.lemmas.List.{take_more, take_rest, take_min, flat_map_more, drop-drop, length-append, length-drop, length-take, get_or-take, get_or-drop, take-append-drop, drop_more}
use Rattle.std.proofs.lemmas.Option.{slice_get-get_or, slice_get_within}
use Rattle.std.proofs.lemmas.Grind.{flat_map-append}
use Rattle.packed_code.specs.declared.instr.Instr.{Instr}
use Rattle.packed_code.specs.declared.instr.Instr.TheVariants.{Done}
use Rattle.packed_code.specs.Program.{Exec, Program}
use Rattle.packed_code.specs.Conditions.{IsExec, IsProgram}
use Rattle.packed_code.proofs.Lists.{each_at}
use Rattle.packed_code.specs.Cycles.{exec_of, pieces, page_count, pages_of_exec, pages_of, page_of, offset_of}

-- ---- the pages of an executive

length-pieces : (n : ℕ) (instrs : List Instr) → length (pieces n instrs) ≡ n
length-pieces zero instrs = refl
length-pieces (suc n) instrs = ap suc (length-pieces n (drop 256 instrs))

piece_at : (n k : ℕ) (instrs : List Instr) → k < n → slice_get (pieces n instrs) k ≡ Some (take 256 (drop (256 * k) instrs))
piece_at zero k instrs lt = absurd (omega arith)
piece_at (suc n) zero instrs lt = refl
piece_at (suc n) (suc k) instrs lt =
    let place : 256 * k + 256 ≡ 256 * suc k = omega arith in
    piece_at n k (drop 256 instrs) (omega arith)
    ∙ ap (λ (xs : List Instr). Some (take 256 xs)) (drop-drop (256 * k) 256 instrs ∙ ap (λ (i : ℕ). drop i instrs) (omega arith))

-- a page as it is cut out of the instructions
pub cut_page : (instrs : List Instr) (page size : ℕ) → size ≡ min (length instrs - page * 256) 256
    → take size (take (length instrs - page * 256) (drop (page * 256) instrs)) ≡ take 256 (drop (256 * page) instrs)
cut_page instrs page size is =
    let place : page * 256 ≡ 256 * page = omega arith in
    let rest = drop (page * 256) instrs in
    let short : size ≡ min 256 (length rest) = omega (arith, is, length-drop (page * 256) instrs) in
    ap (take size) (take_rest instrs (page * 256))
    ∙ ap (λ (n : ℕ). take n rest) short ∙ take_min 256 rest
    ∙ ap (λ (n : ℕ). take 256 (drop n instrs)) place

-- ---- the pages of a code

pub slice_get_right : {A : Type 0} (xs ys : List A) (k : ℕ) → slice_get (xs ++ ys) (length xs + k) ≡ slice_get ys k
slice_get_right [] ys k = let none : 0 + k ≡ k = omega arith in ap (slice_get ys) none
slice_get_right (x ∷ xs) ys k =
    let next : suc (length xs) + k ≡ suc (length xs + k) = omega arith in
    ap (slice_get (x ∷ xs ++ ys)) next ∙ slice_get_right xs ys k

pub slice_get_left : {A : Type 0} (xs ys : List A) (k : ℕ) → k < length xs → slice_get (xs ++ ys) k ≡ slice_get xs k
slice_get_left [] ys k lt = absurd (omega arith)
slice_get_left (x ∷ xs) ys zero lt = refl
slice_get_left (x ∷ xs) ys (suc k) lt = slice_get_left xs ys k (omega arith)

-- one executive more
pub pages_more : (execs : List Exec) (i : ℕ) (exec : Exec) → i < length execs → exec ≡ get_or execs i exec
    → length (flat_map pages_of_exec (take (i + 1) execs)) ≡ length (flat_map pages_of_exec (take i execs)) + page_count (length exec.instrs)
pages_more execs i exec lt is =
    ap (λ (xs : List Exec). length (flat_map pages_of_exec xs)) (take_more execs i exec lt)
    ∙ ap (λ (e : Exec). length (flat_map pages_of_exec (take i execs ++ e ∷ []))) (sym is)
    ∙ ap length (sym (flat_map_more pages_of_exec [] (take i execs) exec))
    ∙ length-append (flat_map pages_of_exec (take i execs)) (pages_of_exec exec)
    ∙ ap (λ (n : ℕ). length (flat_map pages_of_exec (take i execs)) + n) (length-pieces (page_count (length exec.instrs)) exec.instrs)

-- an executive of a code has few instructions
pub few_instrs_at : (code : Program) (execs : List Exec) (i : ℕ) (exec : Exec) → IsProgram code → execs ≡ code.execs → i < length code.execs
    → exec ≡ get_or execs i exec → length exec.instrs ≤ 4194305
few_instrs_at code execs i exec is same lt at =
    let Fits = IsExec (length code.signals) code.tables code.rows in
    let fits = each_at Fits code.execs i exec is.execs lt in
    let here : exec ≡ get_or code.execs i exec = at ∙ ap (λ (xs : List Exec). get_or xs i exec) same in
    subst (λ (e : Exec). length e.instrs ≤ 4194305) (sym here) fits.few_instrs

-- the pages of one executive more, where their number is that of its instructions
pub counted_more : (all execs : List Exec) (i pages filled : ℕ) (exec : Exec) (instrs : List Instr) → execs ≡ all
    → i < length all → exec ≡ get_or execs i exec → instrs ≡ exec.instrs → filled ≡ page_count (length instrs)
    → pages ≡ length (flat_map pages_of_exec (take i all))
    → pages + filled ≡ length (flat_map pages_of_exec (take (i + 1) all))
counted_more all execs i pages filled exec instrs same lt at are fills so_far =
    let here : exec ≡ get_or all i exec = at ∙ ap (λ (xs : List Exec). get_or xs i exec) same in
    let more = pages_more all i exec lt here in
    let count : filled ≡ page_count (length exec.instrs) = fills ∙ ap (λ (is : List Instr). page_count (length is)) are in
    omega (arith, more, count, so_far)

-- a page of an executive among those of all
pub page_among : (execs : List Exec) (i k : ℕ) (d : Exec) → i < length execs → k < page_count (length (get_or execs i d).instrs)
    → slice_get (flat_map pages_of_exec execs) (length (flat_map pages_of_exec (take i execs)) + k)
    ≡ Some (take 256 (drop (256 * k) (get_or execs i d).instrs))
page_among execs i k d inside few =
    let exec = get_or execs i d in
    let before = flat_map pages_of_exec (take i execs) in
    let rest = flat_map pages_of_exec (drop (i + 1) execs) in
    let split : flat_map pages_of_exec execs ≡ before ++ (pages_of_exec exec ++ rest) =
    ap (flat_map pages_of_exec) (sym (take-append-drop i execs)) ∙ flat_map-append pages_of_exec (take i execs) (drop i execs)
    ∙ ap (λ (xs : List Exec). before ++ flat_map pages_of_exec xs) (drop_more execs i d inside) in
    ap (λ (xs : List (List Instr)). slice_get xs (length before + k)) split
    ∙ slice_get_right before (pages_of_exec exec ++ rest) k
    ∙ slice_get_left (pages_of_exec exec) rest k (omega (arith, length-pieces (page_count (length exec.instrs)) exec.instrs))
    ∙ piece_at (page_count (length exec.instrs)) k exec.instrs few

-- the page that is cut out of an executive is that of its number
pub page_here : (code : Program) (execs : List Exec) (i left page filled : ℕ) (exec : Exec) (instrs others cut : List Instr)
    → execs ≡ code.execs → i < length execs → exec ≡ get_or execs i exec → instrs ≡ exec.instrs → others ≡ exec.instrs
    → filled ≡ page_count (length instrs) → left < filled → page ≡ length (flat_map pages_of_exec (take i execs)) + left
    → cut ≡ take 256 (drop (256 * left) others) → slice_get (pages_of code) page ≡ Some cut
page_here code execs i left page filled exec instrs others cut same lt at are are_too fills low place is =
    let few : left < page_count (length (get_or execs i exec).instrs) =
    omega (arith, low, fills, ap (λ (xs : List Instr). page_count (length xs)) (are ∙ ap (λ (e : Exec). e.instrs) at)) in
    ap (λ (xs : List Exec). slice_get (flat_map pages_of_exec xs) page) (sym same)
    ∙ ap (slice_get (flat_map pages_of_exec execs)) place
    ∙ page_among execs i left exec lt few
    ∙ ap Some (sym (is ∙ ap (λ (xs : List Instr). take 256 (drop (256 * left) xs)) (are_too ∙ ap (λ (e : Exec). e.instrs) at)))

-- a page is one of them
pub within_pages : (code : Program) (number place : ℕ) (page : List Instr) → slice_get (pages_of code) (page_of code number place) ≡ Some page
    → page_of code number place < length (pages_of code)
within_pages code number place page is = slice_get_within (pages_of code) (page_of code number place) page is

-- the instruction at a place stands on its page
pub on_its_page : (code : Program) (number place : ℕ) → number < length code.execs → place < length (exec_of code number).instrs
    → (page : List Instr) × (slice_get (pages_of code) (page_of code number place) ≡ Some page)
    × (slice_get page (offset_of place) ≡ slice_get (exec_of code number).instrs place)
on_its_page code number place inside here =
    let instrs = (exec_of code number).instrs in
    let start = 256 * (place / 256) in
    let page = take 256 (drop start instrs) in
    let whole : start + place % 256 ≡ place = omega arith in
    let low : place % 256 < 256 = omega arith in
    let size : place % 256 < length page = omega (arith, length-take 256 (drop start instrs), length-drop start instrs) in (
      page,
      page_among code.execs number (place / 256) (record { name = []; chains = []; instrs = [] }) inside (omega arith),
      slice_get-get_or page (place % 256) Done size
          ∙ ap Some (get_or-take 256 (drop start instrs) (place % 256) Done low ∙ get_or-drop start instrs (place % 256) Done
          ∙ ap (λ (i : ℕ). get_or instrs i Done) whole)
          ∙ sym (slice_get-get_or instrs place Done here),
    )
