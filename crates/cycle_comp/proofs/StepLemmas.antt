-- The steps of the code's loops: one chain, table, signal or executive more.
use Rattle.std.proofs.Common.{◌≡◌, ℕ, zero, suc, ◌+◌, ◌≤◌, true, List, [], ◌∷◌, ◌++◌, length, map, take, Option, Some, refl, sym, ap, ◌∙◌, arith}
use Rattle.std.specs.Prelude.{slice_get}
use Rattle.std.specs.List.{list_all}
use Rattle.std.proofs.lemmas.Bool.{and_parts}
use Rattle.std.proofs.lemmas.List.{map-append, length-append}
use Rattle.stil_ast.specs.Meaning.ExecutiveData.{Executive, tables_of}
use Rattle.stil_ast.specs.Meaning.Signals.{Signal}
use Rattle.tester_types.specs.declared.signal.Direction.{Direction}
use Rattle.scan_chain.specs.Held.{chain_in, chains_in}
use Rattle.scan_chain.specs.Short.{is_short}
use Rattle.scan_chain.specs.declared.chain.ScanChain.{ScanChain}
use Rattle.wave_tables.proofs.TakenLemmas.{front_found}
use Rattle.packed_code.specs.declared.parts.CodeSignal.{CodeSignal}
use Rattle.packed_code.specs.declared.parts.CodeChain.{CodeChain}
use Rattle.cycle_comp.specs.Compiled.{signal_of, chain_of}

-- the first of short chains is short
pub short-front : (c : ScanChain) (rest all : List ScanChain) → all ≡ c ∷ rest
    → list_all is_short (chains_in all) ≡ true → is_short (chain_in c) ≡ true
short-front c rest all is short =
    (and_parts (is_short (chain_in c)) (list_all is_short (chains_in rest))
    (ap (λ (cs : List ScanChain). list_all is_short (chains_in cs)) (sym is) ∙ short)).0

-- and so are those behind it
pub short-rest : (c : ScanChain) (rest all : List ScanChain) → all ≡ c ∷ rest
    → list_all is_short (chains_in all) ≡ true → list_all is_short (chains_in rest) ≡ true
short-rest c rest all is short =
    (and_parts (is_short (chain_in c)) (list_all is_short (chains_in rest))
    (ap (λ (cs : List ScanChain). list_all is_short (chains_in cs)) (sym is) ∙ short)).1

-- one chain more
pub chains-push : (made : List CodeChain) (chains : List ScanChain) (c : ScanChain) (m : CodeChain)
    → made ≡ map chain_of (chains_in chains) → m ≡ chain_of (chain_in c)
    → made ++ m ∷ [] ≡ map chain_of (chains_in (chains ++ c ∷ []))
chains-push made chains c m were is =
    ap (λ (ms : List CodeChain). ms ++ m ∷ []) were
    ∙ (ap (λ (x : CodeChain). map chain_of (chains_in chains) ++ x ∷ []) is
    ∙ (sym (map-append chain_of (chains_in chains) (chain_in c ∷ []))
    ∙ ap (map chain_of) (sym (map-append chain_in chains (c ∷ [])))))

-- what is found among items that are mapped
got_map : {A B : Type 0} (f : A → B) (xs : List A) (i : ℕ) (y : B) → slice_get (map f xs) i ≡ Some y
    → (x : A) × (slice_get xs i ≡ Some x) × (f x ≡ y)
got_map f [] i y at = cc
got_map f (x ∷ xs) zero y at = (x, refl, cc)
got_map f (x ∷ xs) (suc i) y at = got_map f xs i y at

-- one signal more
pub signal-next : (signals : List Signal) (i : ℕ) (text : List ℕ) (dir : Direction)
    → slice_get (map (λ (s : Signal). s.text) signals) i ≡ Some text
    → slice_get (map (λ (s : Signal). s.direction) signals) i ≡ Some dir
    → map signal_of (take (i + 1) signals) ≡ map signal_of (take i signals) ++ record { name = text; direction = dir } ∷ []
signal-next signals i text dir named directed =
    let a = got_map (λ (s : Signal). s.text) signals i text named in
    let b = got_map (λ (s : Signal). s.direction) signals i dir directed in
    let one : b.0 ≡ a.0 = same b.0 a.0 (sym b.1 ∙ a.1) in
    let code : signal_of a.0 ≡ record { name = text; direction = dir } =
    ap (λ (t : List ℕ). record { name = t; direction = a.0.direction }) a.2
    ∙ ap (λ (d : Direction). record { name = text; direction = d }) (ap (λ (s : Signal). s.direction) (sym one) ∙ b.2) in
    ap (map signal_of) (front_found signals i a.0 a.1)
    ∙ (map-append signal_of (take i signals) (a.0 ∷ [])
    ∙ ap (λ (s : CodeSignal). map signal_of (take i signals) ++ s ∷ []) code)
  where
    same : (x y : Signal) → ◌≡◌ {A = Option Signal} (Some x) (Some y) → x ≡ y
    same x y e = cc

-- the tables of the first executives are not more than all
pub tables-front : (front rest : List Executive) → length (tables_of front) ≤ length (tables_of (front ++ rest))
tables-front [] rest = omega arith
tables-front (e ∷ front) rest =
    omega (
      arith,
      length-append e.tables (tables_of front),
      length-append e.tables (tables_of (front ++ rest)),
      tables-front front rest,
    )
