-- What is wanted where the plan of a part is put.
use Rattle.std.proofs.Common.{◌≡◌, ℕ, List, Option, refl, sym, subst}
use Rattle.tester_types.specs.Outside.{Files}
use Rattle.plan_rows.specs.declared.row.Row.{Row}
use Rattle.tool_inputs.specs.declared.status.Status.TheVariants.{Done}
use Rattle.tool_inputs.specs.Endings.{IsFile}
use Rattle.plan_parts.specs.PartText.{IsPartText}
use Rattle.lot_parts.specs.Parts.{CutWants}
use Rattle.lot_parts.specs.Parts.CutWants.{is_cut}

-- the text of a part of what a file has
pub cut_so : (told : Option Files) (before now : ℕ) (plan : List ℕ) (parts part : ℕ) (bytes seen text put : List ℕ)
    → IsFile told plan bytes → seen ≡ bytes → put ≡ text → (rows : List Row) × IsPartText parts part seen rows text
    → CutWants told before now plan parts part Done put
cut_so told before now plan parts part bytes seen text put file same is found =
    is_cut refl bytes file found.0
    (subst (λ (b : List ℕ). IsPartText parts part b found.0 put) same
    (subst (λ (t : List ℕ). IsPartText parts part seen found.0 t) (sym is) found.1))
