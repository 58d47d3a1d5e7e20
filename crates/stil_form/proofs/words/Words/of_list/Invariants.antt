use Rattle.std.proofs.Common.{◌≡◌, ◌++◌, drop}
use Rattle.stil_form.proofs.words.Words.of_list.Given as goal

-- the words so far, and the rest, are the whole
abbrev pub invariant-loop-word : goal.invariant-loop-word
invariant-loop-word l = l.words ++ drop l.word-index l.list ≡ l.list
