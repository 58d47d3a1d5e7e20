use Rattle.std.proofs.Common.{arith, zero, suc, ap, ◌≡◌, ◌<◌, ◌+◌, ◌∙◌, sym, length, take, ℕ, List, ◌++◌, ◌∷◌, [], length-set, add-one}
use Rattle.std.proofs.lemmas.List.{take_more_set, take_all}
use Rattle.std.specs.Slots.{slots_items}
use Rattle.text_bytes.specs.Limits.{most_sites}
use mathlib.Core.Option.{some, some-injective, some-ne-none}
use lib.ListN.{get_elem?}
use Rattle.stop_board.proofs.board.first_words.Goals as goal

-- one more item of a front
take-suc-there : (l : List ℕ) (i x : ℕ) → get_elem? l i ≡ some x → take (i + 1) l ≡ take i l ++ x ∷ []
take-suc-there [] i x e = absurd (some-ne-none x (sym e))
take-suc-there (y ∷ ys) zero x e = ap (λ z. z ∷ []) (some-injective y x e)
take-suc-there (y ∷ ys) (suc i) x e =
    ap (λ k. take k (y ∷ ys)) (add-one (suc i))
    ∙ ap (λ zs. y ∷ zs) (ap (λ k. take k ys) (sym (add-one i)) ∙ take-suc-there ys i x e)

pub loop-site-preserved : goal.loop-site-preserved
loop-site-preserved c =
    let inv = c.loop-site.invariant in
    let words = c.loop-site.words in
    let site = c.loop-site.site in
    let here : site < length words = omega arith in
    record {
      each_site = length-set words site c.word.result ∙ inv.each_site;
      same = take_more_set words site c.word.result here ∙ ap (λ front. front ++ c.word.result ∷ []) inv.same
          ∙ sym (take-suc-there (slots_items c.args.closed.now.words) site c.word.result c.word.ensures);
    }

pub returns : goal.returns
returns c =
    let inv = c.loop-site.invariant in
    let all : c.loop-site.site ≡ most_sites = omega arith in
    sym (take_all most_sites c.loop-site.words (omega arith)) ∙ ap (λ k. take k c.loop-site.words) (sym all) ∙ inv.same
    ∙ ap (λ k. take k (slots_items c.args.closed.now.words)) all
