-- What is met on a walk is what is mentioned, and where nothing leads back it plays the patterns of the burst.
use Rattle.std.proofs.Common.{◌≡◌, ℕ, zero, suc, Bool, true, false, List, [], ◌∷◌, ◌++◌, Option, Some, None, map, refl, sym, ap, ◌∙◌, append_assoc}
use Rattle.std.specs.Prelude.{not, is_some, if◌then◌else◌}
use Rattle.std.specs.List.{flat_map}
use Rattle.std.proofs.lemmas.List.{map-append}
use Rattle.std.proofs.lemmas.List.Concat.{flat_map-append}
use Rattle.stil_ast.specs.Meaning.Bursts.{Played, pattern_named, burst_named, entry_played, item_played, macros_name, procedures_name, played_within}
use Rattle.stil_ast.specs.Faults.Found.{first_in}
use Rattle.stil_ast.specs.Faults.BurstFaults.{Mention, burst_for, is_round, walked_through, mentions_at, mentions_within, cyclic_fault}
use Rattle.stil_ast.specs.declared.blocks.Blocks.{Blocks}
use Rattle.stil_ast.specs.declared.blocks.Pattern.{Pattern}
use Rattle.stil_ast.specs.declared.executive.Burst.{Burst}
use Rattle.stil_ast.specs.declared.executive.BurstItem.{BurstItem}
use Rattle.stil_ast.specs.declared.executive.BurstWord.{BurstWord}
use Rattle.stil_ast.specs.declared.executive.BurstWord.TheVariants.{SignalGroups, MacroDefs, Procedures, ScanStructures, Entry}
use Rattle.stil_ast.specs.declared.fault.StilFault.{StilFault}
use Rattle.stil_ast.proofs.FoundLemmas.{or_else-none, first_in-append}
use Rattle.pattern_order.specs.Walk.{Met, met_inside, met_at, met_within, mention_of, pattern_played, played_at}

-- lists one after another
joined : {X : Type 0} (a b c d e : List X) → a ≡ b ++ c → d ≡ e → a ++ d ≡ b ++ (c ++ e)
joined a b c d e h k = rw h (rw k (append_assoc b c e))

module _ (blocks : Blocks) where
  module _ (inner : Burst → List Mention) (inside : Burst → List Met)
      (agree : (b : Burst) → inner b ≡ map (mention_of blocks) (inside b)) where
    inside-met : (back : Bool) (o : Option Burst)
        → walked_through inner back o ≡ map (mention_of blocks) (met_inside inside back o)
    inside-met back None = refl
    inside-met true (Some b) = refl
    inside-met false (Some b) = agree b

    items-met : (round : List (List ℕ)) (macros procedures : List ℕ) (b : Burst) (items : List BurstItem)
        → flat_map (mentions_at blocks inner round b) items
        ≡ map (mention_of blocks) (flat_map (met_at blocks inside round macros procedures b) items)
    items-met round macros procedures b [] = refl
    items-met round macros procedures b (i ∷ items) =
        let here = is_round round (burst_for blocks i) in
        rw (map-append (mention_of blocks) (met_at blocks inside round macros procedures b i)
        (flat_map (met_at blocks inside round macros procedures b) items))
        (rw (items-met round macros procedures b items) (rw (inside-met here (burst_for blocks i)) refl))

  -- what is met is what is mentioned
  pub mentions-met : (depth : ℕ) (round : List (List ℕ)) (macros procedures : List ℕ) (b : Burst)
      → mentions_within blocks depth round b
      ≡ map (mention_of blocks) (met_within blocks depth round macros procedures b)
  mentions-met zero round macros procedures b = refl
  mentions-met (suc depth) round macros procedures b =
      items-met (mentions_within blocks depth (b.name ∷ round))
      (met_within blocks depth (b.name ∷ round) (macros_name b.items macros) (procedures_name b.items procedures))
      (mentions-met depth (b.name ∷ round) (macros_name b.items macros) (procedures_name b.items procedures))
      (b.name ∷ round) (macros_name b.items macros) (procedures_name b.items procedures) b b.items

  -- nothing in a list leads back
  abbrev pub NoneBack : List Met → Type 0
  NoneBack ms = first_in cyclic_fault (map (mention_of blocks) ms) ≡ None

  pub none-parts : (xs ys : List Met) → NoneBack (xs ++ ys) → NoneBack xs × NoneBack ys
  none-parts xs ys h =
      or_else-none (first_in cyclic_fault (map (mention_of blocks) xs)) (first_in cyclic_fault (map (mention_of blocks) ys))
      (sym (ap (first_in cyclic_fault) (map-append (mention_of blocks) xs ys)
      ∙ first_in-append cyclic_fault (map (mention_of blocks) xs) (map (mention_of blocks) ys)) ∙ h)

  module _ (macros procedures : List ℕ) (inner : Burst → List Played) (inside : Burst → List Met)
      (agree : (b : Burst) → NoneBack (inside b) → inner b ≡ flat_map (played_at blocks) (inside b)) where
    entry-played : (p : Option Pattern) (b : Option Burst)
        → NoneBack (met_inside inside false (if not (is_some p) then b else None))
        → entry_played macros procedures inner p b
        ≡ pattern_played macros procedures p
        ++ flat_map (played_at blocks) (met_inside inside false (if not (is_some p) then b else None))
    entry-played (Some p) b h = refl
    entry-played None None h = refl
    entry-played None (Some b) h = agree b h

    item-played : (b : Burst) (w : BurstWord) (name : List ℕ) (line : ℕ)
        → let i : BurstItem = record { word = w; name = name; line = line } in
        (back : Bool) → back ≡ false → NoneBack (met_inside inside back (burst_for blocks i))
        → item_played blocks macros procedures inner i
        ≡ played_at blocks (record { burst = b; item = i; macros = macros; procedures = procedures; leads_back = back })
        ++ flat_map (played_at blocks) (met_inside inside back (burst_for blocks i))
    item-played b SignalGroups name line back none h = refl
    item-played b MacroDefs name line back none h = refl
    item-played b Procedures name line back none h = refl
    item-played b ScanStructures name line back none h = refl
    item-played b Entry name line back none h =
        rw none (entry-played (pattern_named blocks name) (burst_named blocks name) (rw none at h))

    forward : (back : Bool) (m : Met) → m.leads_back ≡ back → cyclic_fault (mention_of blocks m) ≡ None → back ≡ false
    forward false m is h = refl
    forward true m is h = absurd (some (rw is at h))
      where
        some : {f : StilFault} → ◌≡◌ {A = Option StilFault} (Some f) None → ⊥
        some h = cc

    items-played : (round : List (List ℕ)) (b : Burst) (items : List BurstItem)
        → NoneBack (flat_map (met_at blocks inside round macros procedures b) items)
        → flat_map (item_played blocks macros procedures inner) items
        ≡ flat_map (played_at blocks) (flat_map (met_at blocks inside round macros procedures b) items)
    items-played round b [] h = refl
    items-played round b (i ∷ items) h =
        let o = burst_for blocks i in
        let back = is_round round o in
        let rest = flat_map (met_at blocks inside round macros procedures b) items in
        let m : Met = record { burst = b; item = i; macros = macros; procedures = procedures; leads_back = back } in
        let parts = or_else-none (cyclic_fault (mention_of blocks m))
        (first_in cyclic_fault (map (mention_of blocks) (met_inside inside back o ++ rest))) h in
        let rests = none-parts (met_inside inside back o) rest parts.1 in
        joined (item_played blocks macros procedures inner i) (played_at blocks m)
        (flat_map (played_at blocks) (met_inside inside back o))
        (flat_map (item_played blocks macros procedures inner) items) (flat_map (played_at blocks) rest)
        (item-played b i.word i.name i.line back (forward back m refl parts.0) rests.0)
        (items-played round b items rests.1)
        ∙ ap (λ xs. played_at blocks m ++ xs) (sym (flat_map-append (played_at blocks) (met_inside inside back o) rest))

  -- where nothing leads back, what is met plays the patterns of the burst
  pub played-met : (depth : ℕ) (round : List (List ℕ)) (macros procedures : List ℕ) (b : Burst)
      → NoneBack (met_within blocks depth round macros procedures b)
      → played_within blocks depth macros procedures b
      ≡ flat_map (played_at blocks) (met_within blocks depth round macros procedures b)
  played-met zero round macros procedures b h = refl
  played-met (suc depth) round macros procedures b h =
      items-played (macros_name b.items macros) (procedures_name b.items procedures)
      (played_within blocks depth (macros_name b.items macros) (procedures_name b.items procedures))
      (met_within blocks depth (b.name ∷ round) (macros_name b.items macros) (procedures_name b.items procedures))
      (played-met depth (b.name ∷ round) (macros_name b.items macros) (procedures_name b.items procedures))
      (b.name ∷ round) b b.items h
