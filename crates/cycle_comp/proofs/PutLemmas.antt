-- One cycle more.
use Rattle.std.proofs.Common.{ℕ, ◌+◌, ◌^◌, ◌<◌, List, [], ◌∷◌, ◌++◌, sym, subst, length-append, arith}
use Rattle.packed_code.specs.declared.instr.Entry.{Entry}
use Rattle.packed_code.specs.declared.instr.Instr.{Instr}
use Rattle.packed_code.specs.declared.instr.Instr.TheVariants.{Run}
use Rattle.cycle_comp.specs.Writing.{IsOnceMore, IsPut}
use Rattle.cycle_comp.proofs.BodyLemmas.{puts-run, puts-more}
use Rattle.cycle_comp.proofs.StandLemmas.{stands-run, stands-more}

-- in a Run of its own
pub put-once : (e : Entry) (old : List Instr) → IsPut e old (old ++ Run e.table e.row e.mark 1 ∷ [])
put-once e old =
    let long = length-append old (Run e.table e.row e.mark 1 ∷ []) in
    record {
      puts = λ cycles p. puts-run e old cycles p;
      stands = λ nest s. stands-run nest e.table e.row e.mark old s;
      size = omega (arith, long);
    }

-- in the Run that stands last
put-again : (e : Entry) (times : ℕ) (front : List Instr) → times + 1 < 2 ^ 32
    → IsPut e (front ++ Run e.table e.row e.mark times ∷ []) (front ++ Run e.table e.row e.mark (times + 1) ∷ [])
put-again e times front room =
    let before = length-append front (Run e.table e.row e.mark times ∷ []) in
    let after = length-append front (Run e.table e.row e.mark (times + 1) ∷ []) in
    record {
      puts = λ cycles p. puts-more e times front cycles p;
      stands = λ nest s. stands-more nest e.table e.row e.mark times front room s;
      size = omega (arith, before, after);
    }

pub put-more : (e : Entry) (last run : Instr) (front : List Instr) → IsOnceMore e last run
    → IsPut e (front ++ last ∷ []) (front ++ run ∷ [])
put-more e last run front m =
    subst (λ (i : Instr). IsPut e (front ++ i ∷ []) (front ++ run ∷ [])) (sym m.was)
    (subst (λ (i : Instr). IsPut e (front ++ Run e.table e.row e.mark m.times ∷ []) (front ++ i ∷ [])) (sym m.is)
    (put-again e m.times front m.room))
