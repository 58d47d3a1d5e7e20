-- Where a cursor's instruction stands among the pages of its code, and how large pages and their numbers are.
use Rattle.std.proofs.Common.{◌≡◌, ℕ, zero, suc, ◌*◌, ◌%◌, ◌<◌, ◌≤◌, true, List, [], ◌∷◌, ◌++◌, length, get_or, take, drop, slice_get, nat_eq, Option, Some, None, refl, sym, ap, subst, ◌∙◌, arith, add-one, eqb-true}
use Rattle.std.specs.List.{flat_map}
use Rattle.std.specs.Map.{lookup}
use Rattle.std.proofs.lemmas.List.{length-take}
use Rattle.std.proofs.lemmas.Option.{slice_get-get_or, slice_get_within, get_or_from_slice_get}
use Rattle.packed_code.specs.declared.instr.Instr.{Instr}
use Rattle.packed_code.specs.declared.instr.Instr.TheVariants.{Done}
use Rattle.packed_code.specs.Program.{Exec, Program}
use Rattle.packed_code.specs.Conditions.{IsProgram}
use Rattle.packed_code.specs.Cycles.{exec_of, first_page, pieces, page_count, pages_of_exec, pages_of, page_of}
use Rattle.packed_code.proofs.PageLemmas.{few_instrs_at, pages_more, on_its_page, within_pages}
use Rattle.pattern_mem.specs.Pool.{page_at, is_of, shown}
use Rattle.pattern_mem.specs.Cursor.{instrs_of, ShowsPage}

-- ---- sizes

-- each of these pages has at most 256 instructions
abbrev AreSmall : List (List Instr) → Type 0
AreSmall pages = (k : ℕ) → length (get_or pages k []) ≤ 256

append_small : (xs ys : List (List Instr)) → AreSmall xs → AreSmall ys → AreSmall (xs ++ ys)
append_small [] ys few more k = more k
append_small (x ∷ xs) ys few more zero = few zero
append_small (x ∷ xs) ys few more (suc k) = append_small xs ys (λ j. few (suc j)) more k

pieces_small : (n : ℕ) (instrs : List Instr) → AreSmall (pieces n instrs)
pieces_small zero instrs k = omega arith
pieces_small (suc n) instrs zero = omega (arith, length-take 256 instrs)
pieces_small (suc n) instrs (suc k) = pieces_small n (drop 256 instrs) k

execs_small : (execs : List Exec) → AreSmall (flat_map pages_of_exec execs)
execs_small [] k = omega arith
execs_small (e ∷ es) k =
    append_small (pages_of_exec e) (flat_map pages_of_exec es) (pieces_small (page_count (length e.instrs)) e.instrs) (execs_small es) k

-- a page has at most 256 instructions
pub length-page_at : (code : Program) (number : ℕ) → length (page_at code number) ≤ 256
length-page_at code number = execs_small code.execs number

-- an item that is there doesn't depend on the one that stands for none
get_or_same : (xs : List Exec) (k : ℕ) (d : Exec) → k < length xs → get_or xs k d ≡ get_or xs k (get_or xs k d)
get_or_same [] k d lt = absurd (omega arith)
get_or_same (x ∷ xs) zero d lt = refl
get_or_same (x ∷ xs) (suc k) d lt = get_or_same xs k d (omega arith)

-- so many executives fill at most so many pages
few_before : (code : Program) → IsProgram code → (i : ℕ) → i ≤ length code.execs
    → length (flat_map pages_of_exec (take i code.execs)) ≤ 16385 * i
few_before code is zero fits = omega arith
few_before code is (suc i) fits =
    let none : Exec = record { name = []; chains = []; instrs = [] } in
    let exec = get_or code.execs i none in
    let here : exec ≡ get_or code.execs i exec = get_or_same code.execs i none (omega arith) in
    let few = few_instrs_at code code.execs i exec is refl (omega arith) here in
    let more = pages_more code.execs i exec (omega arith) here in
    subst (λ (n : ℕ). length (flat_map pages_of_exec (take n code.execs)) ≤ 16385 * suc i) (add-one i)
    (omega (arith, more, few, few_before code is i (omega arith)))

-- the number of the first page of an executive is small
pub first_page-le : (code : Program) (exec : ℕ) → IsProgram code → exec < length code.execs → first_page code exec ≤ 1048640
first_page-le code exec is inside = omega (arith, few_before code is exec (omega arith), is.few_execs)

-- the instructions of an executive are few
pub few_instrs : (code : Program) (exec : ℕ) → IsProgram code → exec < length code.execs → length (instrs_of code exec) ≤ 4194305
few_instrs code exec is inside =
    few_instrs_at code code.execs exec (exec_of code exec) is refl inside (get_or_same code.execs exec _ inside)

-- ---- an instruction on its page

-- what stands at a place of an executive stands at its place on its page
pub record StandsOn (code : Program) (exec place : ℕ) : Type 0 where
  pub instr : Instr
  pub here : slice_get (instrs_of code exec) place ≡ Some instr
  pub there : slice_get (page_at code (page_of code exec place)) (place % 256) ≡ Some instr
  pub inside : place % 256 < length (page_at code (page_of code exec place))
  pub page : page_of code exec place < length (pages_of code)

pub stands_on : (code : Program) (exec place : ℕ) → exec < length code.execs → place < length (instrs_of code exec) → StandsOn code exec place
stands_on code exec place inside here =
    let on = on_its_page code exec place inside here in
    let number = page_of code exec place in
    let instr = get_or (instrs_of code exec) place Done in
    let is : slice_get (instrs_of code exec) place ≡ Some instr = slice_get-get_or (instrs_of code exec) place Done here in
    let page : page_at code number ≡ on.0 = get_or_from_slice_get (pages_of code) number on.0 [] on.1 in
    let there : slice_get (page_at code number) (place % 256) ≡ Some instr =
    ap (λ (p : List Instr). slice_get p (place % 256)) page ∙ on.2 ∙ is in
    record {
      instr = instr;
      here = is;
      there = there;
      inside = slice_get_within (page_at code number) (place % 256) instr there;
      page = within_pages code exec place on.0 on.1;
    }

-- a window that has the page of a number shows the code's page
pub shown_is : (code : Program) (window : Option (ℕ × List Instr)) (number : ℕ) → ShowsPage code window → is_of number window ≡ true
    → shown window ≡ page_at code number
shown_is code None number shows has = absurd cc
shown_is code (Some page) number shows has = shows ∙ ap (page_at code) (eqb-true page.0 number has)

-- an entry with the code's page is small
pub small_entry : (code : Program) (page : ℕ) (entries : List (ℕ × List Instr)) (instrs items : List Instr)
    → Some instrs ≡ lookup (nat_eq page) entries → lookup (nat_eq page) entries ≡ Some (page_at code page) → items ≡ instrs
    → length items ≤ 256
small_entry code page entries instrs items found holds are =
    let same : Some instrs ≡ Some (page_at code page) = found ∙ holds in
    let is : instrs ≡ page_at code page = cc in
    subst (λ (xs : List Instr). length xs ≤ 256) (sym (are ∙ is)) (length-page_at code page)
