use Rattle.std.proofs.Common.{ap, ◌∙◌}
use Rattle.text_bytes.specs.Texts.{key_texts, added}
use Rattle.plan_rows.proofs.TallyLemmas.{kept_set_at}
use Rattle.plan_rows.proofs.tally.DieTally.add_die.Goals as goal

pub returns-clause-names : goal.returns-clause-names
returns-clause-names c = kept_set_at (λ s. key_texts s.keys) c.args.self.now.names.items c.args.die.now.site c.from.result c.index_mut.result.now c.put_name.new.names
    c.args.die.now.name c.from.ensures c.requires.site c.index_mut.ensures.value
    (c.in_ok-put_name.ensures ∙ ap (added (key_texts c.index_mut.result.now.keys)) c.as_slice.ensures)
