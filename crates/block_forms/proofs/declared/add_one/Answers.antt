use Rattle.std.proofs.Common.{◌∙◌, ap, unwrap_or, ℕ, List}
use Rattle.std.specs.Borrow.{Bor}
use Rattle.std.specs.Str.{bytes_eq}
use Rattle.indexmap.specs.IndexMap.{get_by}
use Rattle.block_forms.proofs.DeclaredLemmas.{count_more}
use Rattle.block_forms.proofs.declared.add_one.Goals as goal

pub returns : goal.returns
returns c = λ other.
    ap (λ o. unwrap_or o 0) (c.in_ok-insert.ensures.updates.0 (record c.args.title { now = other }))
    ∙ count_more c.args.title.now other c.count_in-count.result
    (λ (t : List ℕ). get_by (λ (k : Bor (List ℕ)). bytes_eq t k.now) c.args.counts.now) c.count_in-count.ensures
