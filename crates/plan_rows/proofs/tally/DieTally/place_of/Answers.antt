use Rattle.std.proofs.Common.{List, ℕ, sym, ap, ◌∙◌}
use Rattle.std.specs.List.{position}
use Rattle.std.specs.Str.{bytes_eq}
use Rattle.text_bytes.specs.Texts.{key_texts}
use Rattle.plan_rows.proofs.TallyLemmas.{kept_at, position-map}
use Rattle.plan_rows.proofs.tally.DieTally.place_of.Goals as goal

pub returns : goal.returns
returns c = c.get_index_of.ensures.index
    ∙ sym (position-map (λ k. k.items) (bytes_eq c.args.name.now) c.index.result.now.keys)
    ∙ ap (λ (names : List (List ℕ)). position (bytes_eq c.args.name.now) names)
    (sym (kept_at (λ s. key_texts s.keys) c.args.self.now.names.items c.args.site c.index.result.now c.requires c.index.ensures))
