use Rattle.std.proofs.Common.{◌∙◌, List, ℕ}
use Rattle.std.specs.Borrow.{Bor}
use Rattle.std.specs.Str.{bytes_eq}
use Rattle.text_bytes.proofs.OptionLemmas.{none-from}
use Rattle.indexmap.specs.IndexMap.{get_by}
use Rattle.indexmap.proofs.CallerLemmas.{insert_entry-new}
use Rattle.time_expr.proofs.SelectedLemmas.{choice-added}
use Rattle.time_expr.proofs.selected.add_choice.Goals as goal

pub returns : goal.returns
returns c = λ other.
    choice-added c.args.choices.now c.insert.new.self c.args.name c.args.choice other
    (c.in_ok-insert.ensures.entries
    ∙ insert_entry-new (λ (x : Bor (List ℕ)) (y : Bor (List ℕ)). bytes_eq x.now y.now) c.args.choices.now c.args.name c.args.choice
    (none-from (get_by (λ (k : Bor (List ℕ)). bytes_eq c.args.name.now k.now) c.args.choices.now) c.if-contains_key.ensures))
