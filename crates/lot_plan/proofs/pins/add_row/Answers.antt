use Rattle.std.proofs.Common.{◌∙◌, List, ℕ}
use Rattle.std.specs.Borrow.{Bor}
use Rattle.std.specs.Str.{bytes_eq}
use Rattle.text_bytes.proofs.OptionLemmas.{none-from}
use Rattle.indexmap.specs.IndexMap.{get_by}
use Rattle.indexmap.proofs.CallerLemmas.{insert_entry-new}
use Rattle.lot_plan.proofs.PinLemmas.{row-added}
use Rattle.lot_plan.proofs.pins.add_row.Goals as goal

pub returns : goal.returns
returns c = λ name.
    row-added c.args.rows.now c.insert.new.self c.as_slice-name.result c.args.row c.args.row.now.signal name
    c.as_slice-name.ensures
    (c.in_ok-insert.ensures.entries
    ∙ insert_entry-new (λ (x : Bor (List ℕ)) (y : Bor (List ℕ)). bytes_eq x.now y.now) c.args.rows.now c.as_slice-name.result
    c.args.row
    (none-from (get_by (λ (k : Bor (List ℕ)). bytes_eq c.as_slice-name.result.now k.now) c.args.rows.now)
    c.if-contains_key.ensures))
