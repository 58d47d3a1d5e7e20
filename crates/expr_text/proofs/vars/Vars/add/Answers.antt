use Rattle.std.proofs.Common.{ap, ◌∙◌, List, ℕ, Vec, None, ◌≡◌, map}
use Rattle.std.specs.Str.{bytes_eq}
use Rattle.std.specs.declared.alloc.Global.{Global}
use Rattle.text_bytes.proofs.OptionLemmas.{none-from}
use Rattle.indexmap.specs.IndexMap.{get_by}
use Rattle.indexmap.proofs.CallerLemmas.{insert_entry-new}
use Rattle.expr_text.specs.Vars.{named_value}
use Rattle.expr_text.proofs.VarsLemmas.{with_value-known, with_value-new}
use Rattle.expr_text.proofs.vars.Vars.add.Goals as goal

pub returns-then-contains_key-clause-added : goal.returns-then-contains_key-clause-added
returns-then-contains_key-clause-added c =
    with_value-known c.args.name.now c.args.value c.args.self.now c.self.inside.values.entries c.self.view_is c.if-contains_key.ensures

pub returns-clause-added : goal.returns-clause-added
returns-clause-added c =
    let is = c.in_ok-name.ensures.items in
    let new : get_by (λ (k : Vec ℕ Global). bytes_eq c.args.name.now k.items) c.self.inside.values ≡ None =
    none-from (get_by (λ (k : Vec ℕ Global). bytes_eq c.args.name.now k.items) c.self.inside.values) c.if-contains_key.ensures in
    ap (map named_value) (c.in_ok-insert.ensures.entries
    ∙ insert_entry-new (λ (x y : Vec ℕ Global). bytes_eq x.items y.items) c.self.inside.values c.in_ok-name.name c.args.value
    (ap (λ (n : List ℕ). get_by (λ (k : Vec ℕ Global). bytes_eq n k.items) c.self.inside.values) is ∙ new))
    ∙ with_value-new c.args.name.now c.args.value c.args.self.now c.self.inside.values.entries c.in_ok-name.name is c.self.view_is new
