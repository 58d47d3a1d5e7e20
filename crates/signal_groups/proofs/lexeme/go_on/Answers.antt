use Rattle.std.proofs.Common.{◌≡◌, ◌+◌, ◌++◌, ◌∷◌, [], List, map, sym, ap, ◌∙◌, subst, slice_index, append_assoc}
use Rattle.std.specs.Prelude.{OnOk, IfOk, slice_range}
use Rattle.std.proofs.lemmas.List.{map-append}
use Rattle.stil_ast.specs.Meaning.GroupText.{Lexeme, word}
use Rattle.stil_ast.specs.Meaning.GroupReading.{Kind, Within, in_word, of_word, kind_of, begun_by, ended_by, behind_kind}
use Rattle.signal_groups.specs.Lexed.{lexeme_of, place_at}
use Rattle.signal_groups.proofs.LexedLemmas.{piece-more, kind_in-word, ended_by-other, behind_kind-other}
use Rattle.signal_groups.proofs.lexeme.go_on.Goals as goal

pub returns-in-Word-clause-next : goal.returns-in-Word-clause-next
returns-in-Word-clause-next c =
    ap in_word (piece-more c.args.text.now c.args.start c.args.at 0 c.requires.start c.requires.at)
    ∙ ap (λ (k : Kind). behind_kind (slice_range c.args.text.now c.args.start c.args.at) k (slice_index c.args.text.now c.args.at)) c.in-Word.ensures

pub returns-in_ok-push-in_default : goal.returns-in_ok-push-in_default
returns-in_ok-push-in_default c =
    let byte = slice_index c.args.text.now c.args.at in
    let piece = slice_range c.args.text.now c.args.start c.args.at in
    let kind = kind_of byte in
    let other : kind ≡ of_word → ⊥ = λ q. c.in_default.not-Word (kind_in-word c.kind_of.result (c.kind_of.ensures ∙ q)) in
    let found : map lexeme_of c.push.new.self.items ++ begun_by kind byte ≡ map lexeme_of c.args.found.now.items ++ ended_by piece kind byte =
    ap (λ xs. map lexeme_of xs ++ begun_by kind byte) c.in_ok-push-in_default.ensures.items
    ∙ ap (λ ls. ls ++ begun_by kind byte) (map-append lexeme_of c.args.found.now.items _)
    ∙ append_assoc (map lexeme_of c.args.found.now.items) (word piece ∷ []) (begun_by kind byte)
    ∙ ap (λ ls. map lexeme_of c.args.found.now.items ++ ls) (sym (ended_by-other piece kind byte other)) in
    record {
      found = subst (λ (ls : List Lexeme). OnOk c.begin.result (map lexeme_of c.begin.new.found.items ≡ ls)) found c.begin.ensures.found;
      next = subst (λ (w : Within). IfOk c.begin.result (λ next. place_at c.args.text.now (c.args.at + 1) next ≡ w))
          (behind_kind-other piece kind byte other) c.begin.ensures.next;
      behind = c.begin.ensures.behind;
    }
