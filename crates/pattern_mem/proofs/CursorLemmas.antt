-- A cursor stays over its code.
use Rattle.std.proofs.Common.{◌≡◌, ℕ, ◌+◌, ◌/◌, ◌^◌, ◌<◌, List, [], ◌∷◌, length, slice_get, false, Option, Some, None, sym, subst, ap, ◌∙◌, arith}
use Rattle.packed_code.specs.declared.instr.Instr.{Instr}
use Rattle.packed_code.specs.declared.course.Course.{Course}
use Rattle.packed_code.specs.Meaning.{Means}
use Rattle.packed_code.specs.Whole.{IsRest}
use Rattle.packed_code.specs.Course.{coming, IsOn, StandsAt}
use Rattle.packed_code.specs.Program.{Program}
use Rattle.packed_code.specs.Conditions.{IsProgram}
use Rattle.packed_code.specs.Cycles.{page_of}
use Rattle.packed_code.proofs.WalkLemmas.{begins_over, exec_is}
use Rattle.pattern_mem.specs.Cursor.{instrs_of, ShowsPage, IsPlaced, IsCursorOf, IsSameBut}
use Rattle.pattern_mem.specs.declared.cursor.Cursor.{Cursor}
use Rattle.pattern_mem.proofs.PageLemmas.{StandsOn, stands_on, first_page-le, few_instrs}

-- ---- the page of its place

-- where its place stands on the pages of its code
pub stands_here : (code : Program) (cursor : Cursor) (place : ℕ) → IsPlaced code cursor → place ≡ cursor.course.at
    → StandsOn code cursor.exec place
stands_here code cursor place placed here = stands_on code cursor.exec place placed.exec (omega (arith, here, placed.on.inside))

-- its page as it is reckoned
pub page_is : (code : Program) (cursor : Cursor) (place : ℕ) → IsPlaced code cursor → cursor.first + place / 256 ≡ page_of code cursor.exec place
page_is code cursor place placed = ap (λ (n : ℕ). n + place / 256) placed.first

-- the numbers of pages are small
pub few_pages : (code : Program) (cursor : Cursor) (place : ℕ) → IsPlaced code cursor → place ≡ cursor.course.at
    → cursor.first + place / 256 < 2 ^ 32
few_pages code cursor place placed here =
    omega (
      arith,
      placed.first,
      first_page-le code cursor.exec placed.program placed.exec,
      few_instrs code cursor.exec placed.program placed.exec,
      placed.on.inside,
    )

-- ---- another course or window

-- a cursor that took a step
pub placed_on : (code : Program) (old : Cursor) (course : Course) → IsPlaced code old → IsOn (instrs_of code old.exec) course
    → IsPlaced code (record { exec = old.exec; first = old.first; start = old.start; course = course; window = old.window })
placed_on code old course placed on =
    record { program = placed.program; exec = placed.exec; on = on; first = placed.first; window = placed.window }

-- a cursor stands at the instruction that was read at its place
pub stands_at : (code : Program) (old new : Cursor) (instr : Instr) → IsPlaced code new → IsSameBut old new → new.course ≡ old.course
    → slice_get (instrs_of code old.exec) old.course.at ≡ Some instr → StandsAt (instrs_of code old.exec) new.course instr
stands_at code old new instr placed same course here = record {
  on = subst (λ (e : ℕ). IsOn (instrs_of code e) new.course) same.exec placed.on;
  here = ap (λ (c : Course). slice_get (instrs_of code old.exec) c.at) course ∙ here;
  short =
      let few = few_instrs code new.exec placed.program placed.exec in
      omega (arith, few, ap (λ (e : ℕ). length (instrs_of code e)) same.exec);
}

-- ---- what comes

-- an executive has an instruction
pub some_instr : (code : Program) (exec : ℕ) → IsProgram code → exec < length code.execs → 0 < length (instrs_of code exec)
some_instr code exec is inside = by (instrs_of code exec) (exec_is code exec is inside).whole.rest
  where
    by : (instrs : List Instr) → IsRest 0 false instrs → 0 < length instrs
    by [] rest = absurd rest
    by (i ∷ is) rest = omega arith

-- a cursor begins over its code
pub begins : (code : Program) (exec first : ℕ) (course : Course) (window : Option (ℕ × List Instr)) → IsProgram code
    → exec < length code.execs → first ≡ page_of code exec 0
    → ((instrs : List Instr) → IsRest 0 false instrs → IsOn instrs course)
    → ((instrs : List Instr) → coming instrs course ≡ Means instrs) → window ≡ None
    → IsCursorOf code (record { exec = exec; first = first; start = 0; course = course; window = window })
begins code exec first course window is inside number on comes none =
    let instrs = instrs_of code exec in
    let here = on instrs (exec_is code exec is inside).whole.rest in
    record {
      over = begins_over code exec course is inside here (comes instrs);
      placed = record {
        program = is;
        exec = inside;
        on = here;
        first = omega (arith, number);
        window = subst (λ (w : Option (ℕ × List Instr)). ShowsPage code w) (sym none) tt;
      };
    }
