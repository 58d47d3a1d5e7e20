-- What the statements of a text are taken into: no words, no blocks, and then what stands behind them.
use Rattle.std.proofs.Common.{◌≡◌, ℕ, List, [], Result, ap, subst, ◌∙◌}
use Rattle.answers.specs.Reading.{stepping}
use Rattle.stil_lex.specs.declared.token.Token.{Token}
use Rattle.stil_tree.specs.Trees.{Entry}
use Rattle.stil_form.specs.declared.fault.FormFault.{FormFault}
use Rattle.stil_form.specs.Reading.{AnswersBy}
use Rattle.stil_ast.specs.declared.blocks.Blocks.{Blocks}
use Rattle.stil_read.specs.declared.read.Lists.{Lists}
use Rattle.stil_read.specs.Top.{Top, no_blocks, with_blocks, top_step, start}
use Rattle.stil_read.specs.Reads.{blocks_by, top_by}

-- where no words and no blocks are, nothing stands
starts_from : (words : List (List ℕ)) (lists : Lists) → words ≡ [] → blocks_by lists ≡ no_blocks → top_by words lists ≡ start
starts_from words lists none empty =
    ap (λ (w : List (List ℕ)). top_by w lists) none
    ∙ ap (λ (b : Blocks). with_blocks start b) empty

-- what is answered from there on is answered of the text
pub all_taken : {X : Type 0} (bytes : List ℕ) (tokens : List Token) (es : List Entry) (before words : List (List ℕ))
    (lists after : Lists) (result : Result X FormFault) → before ≡ [] → blocks_by lists ≡ no_blocks
    → AnswersBy {X = X} (λ _. top_by words after) result (stepping (top_step bytes tokens) (top_by before lists) es)
    → AnswersBy {X = X} (λ _. top_by words after) result (stepping (top_step bytes tokens) start es)
all_taken bytes tokens es before words lists after result none empty answer =
    subst (λ (t : Top). AnswersBy (λ _. top_by words after) result (stepping (top_step bytes tokens) t es))
    (starts_from before lists none empty) answer
