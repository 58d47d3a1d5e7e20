-- The signals of an assignment, each with its item of data.
use Rattle.std.specs.Prelude.{ℕ, ◌==◌, Bool, true, ◌||◌, ◌&&◌, not, is_some, List, [], ◌∷◌, map, Option, Some, None}
use Rattle.stil_ast.specs.Data.Items.{item_of}
use Rattle.stil_ast.specs.Meaning.Statements.{Item, a_character, hash, percent}
use Rattle.stil_ast.specs.Meaning.Arguments.{Argument, next_entry}
use Rattle.stil_ast.specs.Meaning.Dealing.{Dealt, then_deal, deal_item, is_character, is_hash}
use Rattle.stil_ast.specs.declared.data.ItemRun.{ItemRun}
use Rattle.macro_expand.specs.declared.pairing.Pair.{Pair}

-- a signal and its item
pub record Taker : Type 0 where
  pub signal : ℕ
  pub item : Item

-- a pair as a contract sees it
abbrev pub taker_of : Pair → Taker
taker_of p = record { signal = p.signal; item = item_of p.item }

-- signals with their items, as far as there are both
abbrev pub paired : List ℕ → List Item → List Taker
paired [] items = []
paired (signal ∷ signals) [] = []
paired (signal ∷ signals) (item ∷ items) = record { signal = signal; item = item } ∷ paired signals items

-- one `#` or `%` alone stands for all signals
abbrev pub spread_by : List ℕ → List Item → Option Item → List Item
spread_by signals items None = items
spread_by signals items (Some (a_character c)) = items
spread_by signals items (Some hash) = map (λ (_ : ℕ). hash) signals
spread_by signals items (Some percent) = map (λ (_ : ℕ). percent) signals

-- whether a run has a `#`
abbrev pub has_take : ItemRun → Bool
has_take run = not (run.times == 0) && is_hash (item_of run.item)

-- what is put in front where an item is `#`
abbrev pub hash_front : ℕ → Item → List ℕ → List ℕ
hash_front signal (a_character c) rest = rest
hash_front signal hash rest = signal ∷ rest
hash_front signal percent rest = rest

-- the signals that get a `#`
abbrev pub hashed_in : List Taker → List ℕ
hashed_in [] = []
hashed_in (t ∷ takers) = hash_front t.signal t.item (hashed_in takers)

-- whether an item needs a character of the argument and finds none
abbrev pub finds : List Argument → Taker → Bool
finds args t = is_character t.item || is_some (next_entry args t.signal)

-- whether each finds its character
abbrev pub all_find : List Argument → List Taker → Bool
all_find args [] = true
all_find args (t ∷ takers) = finds args t && all_find args takers

-- what they get, one after another
abbrev pub dealt_to : List Taker → List Argument → Dealt
dealt_to [] args = record { gifts = []; args = args }
dealt_to (t ∷ takers) args = then_deal (deal_item t.item t.signal args) (dealt_to takers)
