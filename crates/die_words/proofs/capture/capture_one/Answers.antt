use Rattle.std.proofs.Common.{◌≡◌, get_or, sym, subst}
use Rattle.std.proofs.lemmas.List.{get_or_read, get_or-set_same}
use Rattle.die_words.specs.declared.word.Word.{Word}
use Rattle.die_words.specs.Lane.{nothing, Shows}
use Rattle.die_words.specs.Capture.{kept_after}
use Rattle.die_words.proofs.capture.capture_one.Goals as goal

pub returns-clause-here : goal.returns-clause-here
returns-clause-here c = λ k x d own source.
    let held = c.args.held.now.items in
    let n = c.args.n in
    let read : c.index-own.result.now ≡ get_or held n nothing = get_or_read held n c.index-own.result.now c.requires.net c.index-own.ensures nothing in
    subst (λ (w : Word). Shows w k (kept_after c.args.rise x d)) (sym (get_or-set_same held n c.kept_word.result nothing c.requires.net))
    (c.kept_word.ensures k x d (subst (λ (w : Word). Shows w k x) (sym read) own) source)
