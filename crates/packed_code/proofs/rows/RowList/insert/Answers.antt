use Rattle.std.proofs.Common.{not, ap, ◌∙◌, sym, nat_eq, List, ℕ}
use Rattle.std.specs.Cmp.Lexicographic.{pointwise}
use Rattle.packed_code.specs.Rows.{is_row_of, row_items}
use Rattle.text_bytes.proofs.ListLemmas.{list_any-map}
use Rattle.packed_code.proofs.rows.RowList.insert.Goals as goal

pub returns-clause-put : goal.returns-clause-put
returns-clause-put c =
    c.in_ok-fresh.ensures.added
    ∙ ap not (sym (list_any-map row_items (pointwise nat_eq c.args.row.items) c.self.inside.rows.keys)
    ∙ ap (λ (rows : List (List ℕ)). is_row_of rows c.args.row.items) c.self.view_is)
