use Rattle.std.proofs.Common.{◌∙◌, List, ap, length}
use Rattle.std.specs.Prelude.{Option, None, slice_index_or}
use Rattle.std.proofs.lemmas.List.{length-replicate}
use Rattle.tester_types.specs.declared.wave.Look.{Look}
use Rattle.word_run.proofs.LookLemmas.{none_at}
use Rattle.word_run.proofs.BoardLemmas.{if_ok}
use Rattle.word_run.proofs.CycleLemmas.{windows_closed}
use Rattle.word_run.proofs.cycle.play_scheduled.Goals as goal

pub play_moments-requires-clause-closed : goal.play_moments-requires-clause-closed
play_moments-requires-clause-closed c =
    let n = length c.args.board.now.windows.items in
    windows_closed (length c.args.image.now.binds) c.close_all.new.windows.items
    (ap (λ (l : List (Option Look)). length l) c.close_all.ensures ∙ length-replicate n None ∙ c.requires.of.windows)
    (λ s. ap (λ (l : List (Option Look)). slice_index_or l s None) c.close_all.ensures ∙ none_at n s)

pub returns-clause-plays : goal.returns-clause-plays
returns-clause-plays c =
    if_ok c.play_moments.result
    (λ left p. record {
      lanes = λ k device along start within h. p.lanes k device along start within (record { die = h.die; priors = h.priors });
      clear = λ k device whose along start within h.
          p.clear k device whose along start within (record { die = h.die; priors = h.priors });
    })
    c.play_moments.ensures.plays
