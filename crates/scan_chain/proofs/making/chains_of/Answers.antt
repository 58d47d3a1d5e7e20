use Rattle.std.proofs.Common.{◌≡◌}
use Rattle.text_bytes.specs.Texts.{behind}
use Rattle.signal_groups.specs.Table.{table_of}
use Rattle.scan_chain.specs.Held.{chains_in}
use Rattle.scan_chain.proofs.WorkingLemmas.{made_behind}
use Rattle.scan_chain.proofs.making.chains_of.Goals as goal

-- chains one behind another are those of the definition
pub returns : goal.returns
returns c =
    made_behind (λ v. chains_in v.items) c.chains_behind.result (λ names. c.args.signals.now ≡ table_of names)
    (behind c.args.decls.now) c.chains_behind.ensures
