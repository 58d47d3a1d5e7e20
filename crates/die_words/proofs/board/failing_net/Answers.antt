use Rattle.std.proofs.Common.{◌≡◌, false, get_or, sym, ◌∙◌, subst}
use Rattle.std.proofs.lemmas.List.{get_or_read}
use Rattle.die_words.specs.declared.word.Word.{Word}
use Rattle.die_words.specs.Lane.{nothing, Shows, ShowsFault}
use Rattle.die_words.proofs.board.failing_net.Goals as goal

pub returns : goal.returns
returns c = λ k x own f within shows fault off is.
    let nets = c.args.nets.now in
    let n = c.args.n in
    let force : c.index.result.now ≡ get_or nets.forces.items n nothing = get_or_read nets.forces.items n c.index.result.now c.requires.forces c.index.ensures nothing in
    let driven : c.index-2.result.now ≡ get_or nets.offs.items n false = get_or_read nets.offs.items n c.index-2.result.now c.requires.offs c.index-2.ensures false in
    let word : c.index-3.result.now ≡ get_or nets.words.items n nothing = get_or_read nets.words.items n c.index-3.result.now c.requires.words c.index-3.ensures nothing in
    c.failing_at.ensures k x own f within (subst (λ (w : Word). Shows w k x) (sym word) shows)
    (subst (λ (w : Word). ShowsFault w k f) (sym force) fault) (off ∙ sym driven) is
