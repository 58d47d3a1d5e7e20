-- What the words of a board are while the rule holds, and after one of them changed.
use Rattle.std.proofs.Common.{◌≡◌, ℕ, ◌+◌, ◌<◌, ◌≤◌, List, [], ◌∷◌, ◌++◌, length, get_or, set, slice_index, ap, ◌∙◌, arith, length-set, get_or-set_other}
use Rattle.std.proofs.lemmas.List.{get_or_append_left, get_or-append_right, set-append_left, set-append_right, set-get_or}
use Rattle.std.proofs.lemmas.Grind.{get_or-set_at}
use Rattle.text_bytes.specs.Limits.{most_sites}
use mathlib.Core.Logic.{dite}
use native.Mathlib.Decide.{ℕ_discrete}
use Rattle.atomic_table.specs.Table.{State}
use Rattle.stop_board.specs.Rule.{IsKept}
use Rattle.stop_board.specs.Steps.{asked_once_more}
use Rattle.stop_board.specs.declared.view.View.{View}
use Rattle.stop_board.proofs.SumLemmas.{finished-le-all}
use Rattle.stop_board.proofs.RuleLemmas.{finished}

-- one more stop at a site lowers no site's number
pub grows-asked_once_more : (asked : List ℕ) (site i : ℕ) → site < length asked
    → slice_index asked i ≤ slice_index (asked_once_more asked site) i
grows-asked_once_more asked site i here =
    dite (ℕ_discrete i site)
    (λ e. omega (arith, get_or-set_at asked site i (slice_index asked site + 1) 0 e here, ap (λ k. slice_index asked k) e))
    (λ ne. omega (arith, get_or-set_other asked site i (slice_index asked site + 1) 0 ne))

-- as many numbers as before
pub length-asked_once_more : (asked : List ℕ) (site : ℕ) → length (asked_once_more asked site) ≡ length asked
length-asked_once_more asked site = length-set asked site (slice_index asked site + 1)

module _ {S : Type 0} (s : State S View) (kept : IsKept s) where
  -- a site's word is the desk's number of it
  pub word_of_site : (site : ℕ) → site < most_sites → slice_index s.words site ≡ slice_index kept.desk.asked site
  word_of_site site small =
      let here : site < length kept.desk.asked = omega (arith, kept.each_site) in
      ap (λ ws. get_or ws site 0) kept.words ∙ get_or_append_left kept.desk.asked (finished s kept ∷ []) 0 site here

  -- word 16 is the number of seats that have finished
  pub last_word : slice_index s.words most_sites ≡ finished s kept
  last_word =
      ap (λ ws. get_or ws most_sites 0) kept.words
      ∙ get_or-append_right kept.desk.asked (finished s kept ∷ []) most_sites most_sites 0 kept.each_site (omega arith)

  -- no more seats have finished than were made
  pub finished-le-made : finished s kept ≤ kept.desk.made
  finished-le-made = omega (arith, finished-le-all kept.desk kept.seats, kept.all)

  -- a load leaves the words as they are
  pub loaded : (word : ℕ) → set s.words word (slice_index s.words word) ≡ kept.desk.asked ++ finished s kept ∷ []
  loaded word = set-get_or s.words word 0 ∙ kept.words

  -- a site's word after an ask
  pub asked_once : (site n : ℕ) → site < most_sites → n ≡ slice_index kept.desk.asked site + 1
      → set s.words site n ≡ asked_once_more kept.desk.asked site ++ finished s kept ∷ []
  asked_once site n small e =
      let asked = kept.desk.asked in
      let here : site < length asked = omega (arith, kept.each_site) in
      ap (λ ws. set ws site n) kept.words ∙ set-append_left asked (finished s kept ∷ []) site n here
      ∙ ap (λ m. set asked site m ++ finished s kept ∷ []) e

  -- word 16 after a finish
  pub finished_once : (n : ℕ) → n ≡ finished s kept + 1 → set s.words most_sites n ≡ kept.desk.asked ++ (finished s kept + 1) ∷ []
  finished_once n e =
      ap (λ ws. set ws most_sites n) kept.words
      ∙ set-append_right kept.desk.asked (finished s kept ∷ []) most_sites most_sites n kept.each_site (omega arith)
      ∙ ap (λ m. kept.desk.asked ++ m ∷ []) e
