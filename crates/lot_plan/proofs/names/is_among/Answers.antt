use Rattle.std.proofs.Common.{sym, ◌∙◌}
use Rattle.std.specs.Str.{bytes_eq}
use Rattle.text_bytes.proofs.ListLemmas.{list_any-map}
use Rattle.lot_plan.proofs.names.is_among.Goals as goal

pub returns : goal.returns
returns c = c.contains.ensures ∙ sym (list_any-map (λ k. k.now) (bytes_eq c.args.name.now) c.args.names.now.keys)
