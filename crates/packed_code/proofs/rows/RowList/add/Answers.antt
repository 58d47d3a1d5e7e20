use Rattle.std.proofs.Common.{◌≡◌, ℕ, Bool, true, false, cond, List, [], ◌∷◌, ◌++◌, map, Vec, nat_eq, Some, refl, sym, ap, ◌∙◌}
use Rattle.std.specs.Prelude.{option_map}
use Rattle.std.specs.List.{list_any}
use Rattle.std.specs.Cmp.Lexicographic.{pointwise, bytes_decides}
use Rattle.std.specs.declared.alloc.Global.{Global}
use Rattle.std.proofs.lemmas.List.{map-append}
use Rattle.std.proofs.lemmas.Option.{slice_get-map}
use Rattle.packed_code.specs.Rows.{is_row_of, row_items}
use Rattle.text_bytes.proofs.ListLemmas.{list_any-map}
use Rattle.packed_code.proofs.rows.RowList.add.Goals as goal

map-cond : (b : Bool) (keys : List (Vec ℕ Global)) (row : Vec ℕ Global)
    → map row_items (cond b keys (keys ++ row ∷ [])) ≡ cond b (map row_items keys) (map row_items keys ++ row.items ∷ [])
map-cond true keys row = refl
map-cond false keys row = map-append row_items keys (row ∷ [])

-- rows with one more, where it is not there
rows_more : (keys : List (Vec ℕ Global)) (row : Vec ℕ Global) (rows : List (List ℕ)) → map row_items keys ≡ rows
    → map row_items (cond (list_any (λ key. pointwise nat_eq row.items (row_items key)) keys) keys (keys ++ row ∷ []))
    ≡ cond (is_row_of rows row.items) rows (rows ++ row.items ∷ [])
rows_more keys row rows are =
    map-cond (list_any (λ key. pointwise nat_eq row.items (row_items key)) keys) keys row
    ∙ ap (λ (b : Bool). cond b (map row_items keys) (map row_items keys ++ row.items ∷ []))
    (sym (list_any-map row_items (pointwise nat_eq row.items) keys))
    ∙ ap (λ (rs : List (List ℕ)). cond (is_row_of rs row.items) rs (rs ++ row.items ∷ [])) are

pub returns-clause-number : goal.returns-clause-number
returns-clause-number c =
    let stored = c.in_ok-number.ensures.stored in
    slice_get-map row_items c.insert_full.new.self.keys c.in_ok-number.number ∙ ap (option_map row_items) stored.1
    ∙ ap Some (sym ((bytes_decides c.args.row.items stored.0.items).0 stored.2))

pub returns-clause-rows : goal.returns-clause-rows
returns-clause-rows c =
    ap (map row_items) c.in_ok-number.ensures.keys ∙ rows_more c.self.inside.rows.keys c.args.row c.args.self.now c.self.view_is
