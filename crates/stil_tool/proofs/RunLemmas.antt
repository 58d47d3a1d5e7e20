-- What the run of a lot gives is sound, and its text is that of the lot.
use Rattle.std.proofs.Common.{◌≡◌, ◌<◌, ◌≤◌, List, [], ◌∷◌, length, sym, ap, ◌∙◌, subst, arith}
use Rattle.tester_types.specs.Records.{SiteRecords, records_of}
use Rattle.packed_code.specs.Program.{Program}
use Rattle.plan_rows.specs.Rows.{sites_of}
use Rattle.die_sim.specs.Socket.{Told}
use Rattle.lot_plan.specs.Bound.{Bound}
use Rattle.datalog.specs.DatalogText.{lot_text}
use Rattle.datalog.specs.Printable.{AreSound}
use Rattle.stil_tool.specs.Lot.{Floor, IsBook, usable}

-- an item of a list that has some
pub some_item : {S : Type 0} (xs : List S) → 0 < length xs → S
some_item [] some = absurd (omega (arith, some))
some_item (x ∷ xs) some = x

-- its records are sound
pub sound_so : {S : Type 0} (tells : S → Told) (bound : Bound) (old new : Floor S) (book : List SiteRecords) (plan : Bound)
    → IsBook tells bound old new book → plan ≡ bound → sites_of bound.rows ≤ usable (length old.sockets) → AreSound plan book
sound_so tells bound old new book plan is same enough =
    subst (λ (p : Bound). AreSound p book) (sym same) (record {
      sites = is.all;
      each = λ site there. (is.records site (some_item old.sockets (omega (arith, there, enough))) there).records_are.each;
    })

-- and its text is the lot's
pub written_so : (bound : Bound) (book : List SiteRecords) (code : Program) (plan : Bound) → plan ≡ bound → code ≡ bound.program
    → lot_text code plan (records_of book) ≡ lot_text bound.program bound (records_of book)
written_so bound book code plan same coded =
    ap (λ (c : Program). lot_text c plan (records_of book)) coded
    ∙ ap (λ (p : Bound). lot_text bound.program p (records_of book)) same
