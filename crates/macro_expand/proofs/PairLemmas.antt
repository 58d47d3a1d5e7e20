-- Signals with their items: what is known of an assignment's data is known of its pairs.
use Rattle.std.proofs.Common.{◌≡◌, ℕ, zero, suc, ◌+◌, ◌-◌, ◌<◌, ◌≤◌, ◌||◌, ◌&&◌, not, Bool, true, false, List, [], ◌∷◌, ◌++◌, refl, ap, sym, ◌∙◌, arith, map, length, drop, append-nil, replicate, option_map, is_some, get_or}
use Rattle.macro_expand.specs.declared.pairing.Pair.{Pair}
use Rattle.std.specs.Prelude.{◌==◌}
use Rattle.std.specs.List.{list_any}
use Rattle.std.proofs.lemmas.Bool.{eq-eqb, ne_eqb}
use Rattle.stil_ast.specs.Meaning.Statements.{Item, a_character, hash, percent}
use Rattle.stil_ast.specs.Meaning.Arguments.{Argument, next_entry}
use Rattle.stil_ast.specs.Meaning.Dealing.{Dealt, Gift, deal_item, deal_pairs, spread, hashed, takers, deal, is_character, is_hash}
use Rattle.stil_ast.specs.Data.Items.{item_of, items_of, lone_item, run_length}
use Rattle.stil_ast.specs.declared.data.ItemRun.{ItemRun}
use Rattle.stil_ast.specs.Faults.AssignmentFaults.{all_there}
use Rattle.stil_ast.proofs.ItemLemmas.{only_of, lone_item-is, length-items_of}
use Rattle.macro_expand.specs.Pairs.{taker_of, paired, spread_by, has_take, hash_front, hashed_in, all_find, dealt_to}

-- signals that are left without items are no pairs
pub paired_nil : (signals : List ℕ) → paired signals [] ≡ []
paired_nil [] = refl
paired_nil (signal ∷ signals) = refl

-- behind the last signal there are none
pub paired-none : (signals : List ℕ) (n : ℕ) (items : List Item) → length signals ≤ n → paired (drop n signals) items ≡ []
paired-none [] zero items e = refl
paired-none [] (suc n) items e = refl
paired-none (signal ∷ signals) zero items e = absurd (omega (arith, e))
paired-none (signal ∷ signals) (suc n) items e = paired-none signals n items (omega (arith, e))

-- behind the last run there are none
pub paired_end : (signals : List ℕ) (k : ℕ) (runs : List ItemRun) (n : ℕ) → length runs ≤ n
    → paired (drop k signals) (items_of (drop n runs)) ≡ []
paired_end signals k [] zero e = paired_nil (drop k signals)
paired_end signals k [] (suc n) e = paired_nil (drop k signals)
paired_end signals k (run ∷ runs) zero e = absurd (omega (arith, e))
paired_end signals k (run ∷ runs) (suc n) e = paired_end signals k runs n (omega (arith, e))

-- data by the one item that they are, if they are one
pub spread-only : (signals : List ℕ) (items : List Item) → spread signals items ≡ spread_by signals items (only_of items)
spread-only signals [] = refl
spread-only signals (a_character c ∷ []) = refl
spread-only signals (a_character c ∷ item ∷ items) = refl
spread-only signals (hash ∷ []) = refl
spread-only signals (hash ∷ item ∷ items) = refl
spread-only signals (percent ∷ []) = refl
spread-only signals (percent ∷ item ∷ items) = refl

-- what runs stand for, by their lone item
pub spread_lone : (signals : List ℕ) (runs : List ItemRun)
    → spread signals (items_of runs) ≡ spread_by signals (items_of runs) (option_map item_of (lone_item runs))
spread_lone signals runs =
    spread-only signals (items_of runs) ∙ ap (spread_by signals (items_of runs)) (sym (lone_item-is runs))

length-map_const : (item : Item) (signals : List ℕ) → length (map (λ (_ : ℕ). item) signals) ≡ length signals
length-map_const item [] = refl
length-map_const item (signal ∷ signals) = ap (λ n. suc n) (length-map_const item signals)

-- an item alone has the width of its signals
pub fits_lone : (item : Item) (signals : List ℕ) → (length (map (λ (_ : ℕ). item) signals) == length signals) ≡ true
fits_lone item signals = ap (λ n. n == length signals) (length-map_const item signals) ∙ eq-eqb (length signals) (length signals) refl

-- other data have it where they are as many
pub fits_runs : (signals : List ℕ) (runs : List ItemRun)
    → (length (items_of runs) == length signals) ≡ (run_length runs == length signals)
fits_runs signals runs = ap (λ n. n == length signals) (length-items_of runs)

-- one item of many
pub replicate-less : {A : Type 0} (x : A) (n k : ℕ) → k < n → replicate (n - k) x ≡ x ∷ replicate (n - (k + 1)) x
replicate-less x n k e = let same : n - k ≡ suc (n - (k + 1)) = omega (arith, e) in ap (λ m. replicate m x) same

-- a pair more takes a signal and an item
pub pair_more : (signals : List ℕ) (before : List Pair) (p : Pair) (rest : List Item)
    → length before < length signals → p.signal ≡ get_or signals (length before) p.signal
    → map taker_of (before ++ p ∷ []) ++ paired (drop (length (before ++ p ∷ [])) signals) rest
    ≡ map taker_of before ++ paired (drop (length before) signals) (item_of p.item ∷ rest)
pair_more [] [] p rest few e = absurd (omega (arith, few))
pair_more (signal ∷ signals) [] p rest few e =
    ap (λ (s : ℕ). record { signal = s; item = item_of p.item } ∷ paired signals rest) e
pair_more [] (q ∷ before) p rest few e = absurd (omega (arith, few))
pair_more (signal ∷ signals) (q ∷ before) p rest few e =
    ap (λ more. taker_of q ∷ more) (pair_more signals before p rest (omega (arith, few)) e)

-- the signals that get a `#`
pub hashed-paired : (signals : List ℕ) (items : List Item) → hashed signals items ≡ hashed_in (paired signals items)
hashed-paired [] items = refl
hashed-paired (signal ∷ signals) [] = refl
hashed-paired (signal ∷ signals) (a_character c ∷ items) = hashed-paired signals items
hashed-paired (signal ∷ signals) (hash ∷ items) = ap (λ rest. signal ∷ rest) (hashed-paired signals items)
hashed-paired (signal ∷ signals) (percent ∷ items) = hashed-paired signals items

pub takers_paired : (signals : List ℕ) (items : List Item)
    → takers (record { signals = signals; items = items } ∷ []) ≡ hashed_in (paired signals (spread signals items))
takers_paired signals items =
    append-nil (hashed signals (spread signals items)) ∙ hashed-paired signals (spread signals items)

-- whether each finds its character
pub all_there_paired : (signals : List ℕ) (items : List Item) (args : List Argument)
    → all_there signals items args ≡ all_find args (paired signals items)
all_there_paired [] items args = refl
all_there_paired (signal ∷ signals) [] args = refl
all_there_paired (signal ∷ signals) (item ∷ items) args =
    ap (λ b. (is_character item || is_some (next_entry args signal)) && b) (all_there_paired signals items args)

-- what they get
pub deal_pairs-paired : (signals : List ℕ) (items : List Item) (args : List Argument)
    → deal_pairs signals items args ≡ dealt_to (paired signals items) args
deal_pairs-paired [] items args = refl
deal_pairs-paired (signal ∷ signals) [] args = refl
deal_pairs-paired (signal ∷ signals) (item ∷ items) args =
    ap (λ (d : Dealt). record { gifts = (deal_item item signal args).gifts ++ d.gifts; args = d.args })
    (deal_pairs-paired signals items (deal_item item signal args).args)

pub deal_paired : (signals : List ℕ) (items : List Item) (args : List Argument)
    → deal (record { signals = signals; items = items } ∷ []) args ≡ dealt_to (paired signals (spread signals items)) args
deal_paired signals items args =
    ap (λ (gifts : List Gift). record { gifts = gifts; args = (deal_pairs signals (spread signals items) args).args })
    (append-nil (deal_pairs signals (spread signals items) args).gifts)
    ∙ deal_pairs-paired signals (spread signals items) args

-- items that don't pass leave the answer to the rest
any_none : (p : Item → Bool) (n : ℕ) (item : Item) (rest : List Item) → p item ≡ false
    → list_any p (replicate n item ++ rest) ≡ list_any p rest
any_none p zero item rest e = refl
any_none p (suc n) item rest e = ap (λ b. b || list_any p (replicate n item ++ rest)) e ∙ any_none p n item rest e

any_suc : (b x y z : Bool) → z ≡ true → (b ≡ false → x ≡ y) → (b || x) ≡ ((z && b) || y)
any_suc true x y true e h = refl
any_suc false x y true e h = h refl
any_suc true x y false e h = cc
any_suc false x y false e h = cc

any_replicate : (p : Item → Bool) (n : ℕ) (item : Item) (rest : List Item)
    → list_any p (replicate n item ++ rest) ≡ ((not (n == 0) && p item) || list_any p rest)
any_replicate p zero item rest = refl
any_replicate p (suc n) item rest =
    any_suc (p item) (list_any p (replicate n item ++ rest)) (list_any p rest) (not (suc n == 0))
    (ap not (ne_eqb (suc n) 0 (λ same. omega (arith, same)))) (any_none p n item rest)

-- whether there is a `#` among the items of runs
pub any_hash_runs : (runs : List ItemRun) → list_any is_hash (items_of runs) ≡ list_any has_take runs
any_hash_runs [] = refl
any_hash_runs (run ∷ runs) =
    any_replicate is_hash run.times (item_of run.item) (items_of runs) ∙ ap (λ b. has_take run || b) (any_hash_runs runs)

-- whether a signal that gets a `#` passes, or one behind it
pub any_hash_front : (p : ℕ → Bool) (signal : ℕ) (item : Item) (rest : List ℕ)
    → list_any p (hash_front signal item rest) ≡ ((is_hash item && p signal) || list_any p rest)
any_hash_front p signal (a_character c) rest = refl
any_hash_front p signal hash rest = refl
any_hash_front p signal percent rest = refl

-- those that get a `#` in front of others
pub hash_front_append : (signal : ℕ) (item : Item) (rest : List ℕ) → hash_front signal item [] ++ rest ≡ hash_front signal item rest
hash_front_append signal (a_character c) rest = refl
hash_front_append signal hash rest = refl
hash_front_append signal percent rest = refl
