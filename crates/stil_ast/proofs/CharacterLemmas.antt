-- Data without `#` and `%` give the same whatever the arguments are.
use Rattle.std.proofs.Common.{◌≡◌, ℕ, true, List, [], ◌∷◌, ◌++◌, refl, ap, sym, ◌∙◌}
use Rattle.std.specs.List.{list_all}
use Rattle.std.proofs.lemmas.Bool.{and_parts}
use Rattle.stil_ast.specs.Meaning.Statements.{Item, a_character, hash, percent, Assign}
use Rattle.stil_ast.specs.Meaning.Arguments.{Argument, given}
use Rattle.stil_ast.specs.Meaning.Dealing.{Dealt, behind_gifts, then_deal, gift_of, spread, deal_pairs, deal, hashed, takers, mark_of, is_character}
use Rattle.stil_ast.specs.Meaning.Laws.{all_characters}
use Rattle.std.specs.Prelude.{Some}

-- the same gifts, with other arguments
abbrev pub put_dealt : List Argument → Dealt → Dealt
put_dealt args d = record { gifts = d.gifts; args = args }

pub spread-characters : (signals : List ℕ) (items : List Item) → list_all is_character items ≡ true
    → spread signals items ≡ items
spread-characters signals [] e = refl
spread-characters signals (a_character c ∷ items) e = refl
spread-characters signals (hash ∷ items) e = cc
spread-characters signals (percent ∷ items) e = cc

deal_pairs-characters : (signals : List ℕ) (items : List Item) (args : List Argument)
    → list_all is_character items ≡ true
    → deal_pairs signals items args ≡ put_dealt args (deal_pairs signals items [])
deal_pairs-characters [] items args e = refl
deal_pairs-characters (signal ∷ signals) [] args e = refl
deal_pairs-characters (signal ∷ signals) (a_character c ∷ items) args e =
    ap (behind_gifts (gift_of signal (Some (given c)))) (deal_pairs-characters signals items args e)
deal_pairs-characters (signal ∷ signals) (hash ∷ items) args e = cc
deal_pairs-characters (signal ∷ signals) (percent ∷ items) args e = cc

deal_spread-characters : (a : Assign) (args : List Argument) → list_all is_character a.items ≡ true
    → deal_pairs a.signals (spread a.signals a.items) args
    ≡ put_dealt args (deal_pairs a.signals (spread a.signals a.items) [])
deal_spread-characters a args e =
    rw (spread-characters a.signals a.items e) (deal_pairs-characters a.signals a.items args e)

pub deal-characters : (assigns : List Assign) (args : List Argument) → all_characters assigns ≡ true
    → deal assigns args ≡ put_dealt args (deal assigns [])
deal-characters [] args e = refl
deal-characters (a ∷ assigns) args e =
    let parts = and_parts (list_all is_character a.items) (all_characters assigns) e in
    let first = deal_pairs a.signals (spread a.signals a.items) [] in
    ap (λ (d : Dealt). then_deal d (deal assigns)) (deal_spread-characters a args parts.0)
    ∙ (ap (behind_gifts first.gifts) (deal-characters assigns args parts.1)
    ∙ ap (λ (d : Dealt). behind_gifts first.gifts (put_dealt args d)) (sym (deal-characters assigns first.args parts.1)))

hashed-characters : (signals : List ℕ) (items : List Item) → list_all is_character items ≡ true
    → hashed signals items ≡ []
hashed-characters [] items e = refl
hashed-characters (signal ∷ signals) [] e = refl
hashed-characters (signal ∷ signals) (a_character c ∷ items) e = hashed-characters signals items e
hashed-characters (signal ∷ signals) (hash ∷ items) e = cc
hashed-characters (signal ∷ signals) (percent ∷ items) e = cc

hashed_spread-characters : (a : Assign) → list_all is_character a.items ≡ true
    → hashed a.signals (spread a.signals a.items) ≡ []
hashed_spread-characters a e =
    rw (spread-characters a.signals a.items e) (hashed-characters a.signals a.items e)

pub takers-characters : (assigns : List Assign) → all_characters assigns ≡ true → takers assigns ≡ []
takers-characters [] e = refl
takers-characters (a ∷ assigns) e =
    let parts = and_parts (list_all is_character a.items) (all_characters assigns) e in
    ap (λ (signals : List ℕ). signals ++ takers assigns) (hashed_spread-characters a parts.0) ∙ takers-characters assigns parts.1

pub mark_of-none : (outs : List ℕ) (args : List Argument) → mark_of outs [] args ≡ 0
mark_of-none [] args = refl
mark_of-none (out ∷ outs) args = mark_of-none outs args
