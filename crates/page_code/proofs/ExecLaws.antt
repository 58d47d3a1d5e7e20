-- What is read is spelled so, and what is spelled so is read: for instructions, executives and whole codes.
use Rattle.std.proofs.Common.{◌≡◌, ℕ, ◌+◌, ◌^◌, ◌<◌, ◌≤◌, Bool, true, false, eqb, ltb, leb, ◌&&◌, List, [], ◌∷◌, ◌++◌, length, get_or, drop, replicate, Some, None, Ok, refl, sym, ap, subst, ◌∙◌, arith, inl, inr}
use Rattle.std.specs.Int.{w16, w32, w64, from_le_bytes}
use Rattle.std.specs.List.{flat_map}
use Rattle.std.proofs.lemmas.Bool.{and_parts, and_from, ltb-true, leb-true, eqb-true, lt-ltb, le-leb}
use Rattle.std.proofs.lemmas.List.{append-nil, length-take, length-drop, take-append-drop, drop-drop, drop_all}
use Rattle.std.proofs.lemmas.Option.{same_Some}
use Rattle.tester_types.specs.declared.wave.Table.{Table}
use Rattle.packed_code.specs.declared.instr.Instr.{Instr}
use Rattle.packed_code.specs.declared.instr.Instr.TheVariants.{Run, Loop}
use Rattle.packed_code.specs.Whole.{IsRest}
use Rattle.packed_code.specs.declared.parts.CodeChain.{CodeChain}
use Rattle.packed_code.specs.Program.{Exec}
use Rattle.packed_code.specs.Conditions.{IsChain, IsInstr, IsNarrow, IsExec}
use Rattle.page_code.specs.Fields.{◌>>=◌, piece_at, number_at, checked, known, meant, items_at}
use Rattle.packed_code.specs.Packed.{number, instr}
use Rattle.page_code.specs.Spelling.{text, chain, exec}
use Rattle.page_code.specs.Reading.{text_at, chain_at, may_follow, instr_with, instr_at, exec_at}
use Rattle.packed_code.specs.Packed.{are_zero, part, instr_of}
use Rattle.packed_code.proofs.Lists.{all_each, each_all}
use Rattle.packed_code.proofs.PackedLemmas.{instr_again, instr_size}
use Rattle.page_code.proofs.NestLemmas.{IsReadInstr, read_whole, whole_read}
use Rattle.page_code.proofs.ReaderLaws.{IsBytes, IsBytes-take, IsBytes-drop, IsReader, adapted, done_reader, then_reader, checked_reader, wide16, wide32, wide64, number_reader, piece_reader, piece_again, known_takes, items_reader}
use Rattle.text_bytes.proofs.BoolLemmas.{chosen}
use Rattle.page_code.proofs.PartLaws.{IsBelow, IsNumber, AreItems, IsTextWith, text_reader, chain_reader}

-- ---- the 16 bytes of an instruction

zeros_are : (bytes : List ℕ) → are_zero bytes ≡ true → bytes ≡ replicate (length bytes) 0
zeros_are [] e = refl
zeros_are (b ∷ bytes) e =
    let p = and_parts (eqb b 0) (are_zero bytes) e in
    let first : b ≡ 0 = eqb-true b 0 p.0 in
    ap (λ (x : ℕ). x ∷ bytes) first ∙ ap (λ (xs : List ℕ). 0 ∷ xs) (zeros_are bytes p.1)

length-part : (place size : ℕ) (bytes : List ℕ) → place + size ≤ length bytes → length (part place size bytes) ≡ size
length-part place size bytes fits = omega (arith, length-take size (drop place bytes), length-drop place bytes)

IsBytes-part : (place size : ℕ) (bytes : List ℕ) → IsBytes bytes → IsBytes (part place size bytes)
IsBytes-part place size bytes fits = IsBytes-take size (drop place bytes) (IsBytes-drop place bytes fits)

-- bytes from a place on: so many, and the rest
parted : (place size : ℕ) (bytes : List ℕ) → drop place bytes ≡ part place size bytes ++ drop (place + size) bytes
parted place size bytes = sym (take-append-drop size (drop place bytes)) ∙ ap (λ (x : List ℕ). part place size bytes ++ x) (drop-drop size place bytes)

ends_at : (place size : ℕ) (bytes : List ℕ) → length bytes ≡ place + size → drop place bytes ≡ part place size bytes
ends_at place size bytes is =
    parted place size bytes ∙ ap (λ (x : List ℕ). part place size bytes ++ x) (drop_all (place + size) bytes (omega arith)) ∙ append-nil (part place size bytes)

first_is : (bytes : List ℕ) → 0 < length bytes → bytes ≡ get_or bytes 0 0 ∷ drop 1 bytes
first_is [] some = absurd (omega arith)
first_is (b ∷ bytes) some = refl

second_is : (bytes : List ℕ) → 1 < length bytes → drop 1 bytes ≡ get_or bytes 1 0 ∷ drop 2 bytes
second_is [] some = absurd (omega arith)
second_is (b ∷ []) some = absurd (omega arith)
second_is (b ∷ c ∷ bytes) some = refl

-- ---- an instruction

-- what 16 bytes that stand for an instruction are
abbrev Stands : List ℕ → Instr → Type 0
Stands raw i = (raw ≡ instr i) × IsNarrow i

run_stands : (raw : List ℕ) → length raw ≡ 16 → IsBytes raw → get_or raw 0 0 ≡ 1 → get_or raw 1 0 ≡ 0
    → Stands raw (Run (from_le_bytes w16 (part 2 2 raw)) (from_le_bytes w32 (part 4 4 raw)) (from_le_bytes w32 (part 8 4 raw))
    (from_le_bytes w32 (part 12 4 raw)))
run_stands raw size fits first second =
    let t = wide16.back (part 2 2 raw) (length-part 2 2 raw (omega arith)) (IsBytes-part 2 2 raw fits) in
    let r = wide32.back (part 4 4 raw) (length-part 4 4 raw (omega arith)) (IsBytes-part 4 4 raw fits) in
    let m = wide32.back (part 8 4 raw) (length-part 8 4 raw (omega arith)) (IsBytes-part 8 4 raw fits) in
    let n = wide32.back (part 12 4 raw) (length-part 12 4 raw (omega arith)) (IsBytes-part 12 4 raw fits) in (
      first_is raw (omega arith) ∙ ap (λ (x : List ℕ). get_or raw 0 0 ∷ x) (second_is raw (omega arith))
          ∙ ap (λ (x : ℕ). x ∷ get_or raw 1 0 ∷ drop 2 raw) first ∙ ap (λ (x : ℕ). 1 ∷ x ∷ drop 2 raw) second
          ∙ ap (λ (x : List ℕ). 1 ∷ 0 ∷ x)
          (parted 2 2 raw ∙ ap (λ (x : List ℕ). part 2 2 raw ++ x) (parted 4 4 raw ∙ ap (λ (x : List ℕ). part 4 4 raw ++ x) (parted 8 4 raw ∙ ap (λ (x : List ℕ). part 8 4 raw ++ x) (ends_at 12 4 raw size)))
          ∙ rw (t, r, m, n) refl),
      (wide16.below (part 2 2 raw) (IsBytes-part 2 2 raw fits), wide32.below (part 4 4 raw) (IsBytes-part 4 4 raw fits), wide32.below (part 8 4 raw) (IsBytes-part 8 4 raw fits), wide32.below (part 12 4 raw) (IsBytes-part 12 4 raw fits)),
    )

loop_stands : (raw : List ℕ) → length raw ≡ 16 → IsBytes raw → get_or raw 0 0 ≡ 2 → are_zero (part 1 7 raw) ≡ true
    → Stands raw (Loop (from_le_bytes w64 (part 8 8 raw)))
loop_stands raw size fits first zeros =
    let n = wide64.back (part 8 8 raw) (length-part 8 8 raw (omega arith)) (IsBytes-part 8 8 raw fits) in
    let z : part 1 7 raw ≡ replicate 7 0 = zeros_are (part 1 7 raw) zeros ∙ ap (λ (k : ℕ). replicate k 0) (length-part 1 7 raw (omega arith)) in (
      first_is raw (omega arith) ∙ ap (λ (x : ℕ). x ∷ drop 1 raw) first
          ∙ ap (λ (x : List ℕ). 2 ∷ x) (parted 1 7 raw ∙ ap (λ (x : List ℕ). x ++ drop 8 raw) z ∙ ap (λ (x : List ℕ). replicate 7 0 ++ x) (ends_at 8 8 raw size ∙ sym n)),
      wide64.below (part 8 8 raw) (IsBytes-part 8 8 raw fits),
    )

zero_stands : (raw : List ℕ) (op : ℕ) → length raw ≡ 16 → get_or raw 0 0 ≡ op → are_zero (part 1 15 raw) ≡ true → raw ≡ op ∷ replicate 15 0
zero_stands raw op size first zeros =
    let z : part 1 15 raw ≡ replicate 15 0 = zeros_are (part 1 15 raw) zeros ∙ ap (λ (k : ℕ). replicate k 0) (length-part 1 15 raw (omega arith)) in
    first_is raw (omega arith) ∙ ap (λ (x : ℕ). x ∷ drop 1 raw) first ∙ ap (λ (x : List ℕ). op ∷ x) (ends_at 1 15 raw size ∙ z)

-- 16 bytes that stand for an instruction spell it
instr_is : (raw : List ℕ) (i : Instr) → length raw ≡ 16 → IsBytes raw → instr_of raw ≡ Some i → Stands raw i
unfolding instr_of
instr_is raw i size fits e =
    elim (chosen (eqb (get_or raw 0 0) 1 && eqb (get_or raw 1 0) 0) _ _ (Some i) e) [
      | inl run ↦
          (let p = and_parts (eqb (get_or raw 0 0) 1) (eqb (get_or raw 1 0) 0) run.0 in
          subst (Stands raw) (same_Some _ i run.1) (run_stands raw size fits (eqb-true (get_or raw 0 0) 1 p.0) (eqb-true (get_or raw 1 0) 0 p.1)))
      | inr e1 ↦ elim (chosen (eqb (get_or raw 0 0) 2 && are_zero (part 1 7 raw)) _ _ (Some i) e1.1) [
        | inl loop ↦
            (let p = and_parts (eqb (get_or raw 0 0) 2) (are_zero (part 1 7 raw)) loop.0 in
            subst (Stands raw) (same_Some _ i loop.1) (loop_stands raw size fits (eqb-true (get_or raw 0 0) 2 p.0) p.1))
        | inr e2 ↦ elim (chosen (eqb (get_or raw 0 0) 3 && are_zero (part 1 15 raw)) _ _ (Some i) e2.1) [
          | inl end ↦
              (let p = and_parts (eqb (get_or raw 0 0) 3) (are_zero (part 1 15 raw)) end.0 in
              subst (Stands raw) (same_Some _ i end.1) (zero_stands raw 3 size (eqb-true (get_or raw 0 0) 3 p.0) p.1, tt))
          | inr e3 ↦ elim (chosen (eqb (get_or raw 0 0) 4 && are_zero (part 1 15 raw)) _ _ (Some i) e3.1) [
            | inl done ↦
                (let p = and_parts (eqb (get_or raw 0 0) 4) (are_zero (part 1 15 raw)) done.0 in
                subst (Stands raw) (same_Some _ i done.1) (zero_stands raw 4 size (eqb-true (get_or raw 0 0) 4 p.0) p.1, tt))
            | inr none ↦ absurd (none_some i none.1)
          ]
        ]
      ]
    ]
  where
    none_some : (i : Instr) → None ≡ Some i → ⊥
    none_some i e = cc

raw_instr_reader : IsReader (known (piece_at 16) instr_of) instr IsNarrow
raw_instr_reader = record {
  takes = λ bytes i rest fits e.
      let t = known_takes (piece_at 16) (λ p. p) (λ p. (length p ≡ 16) × IsBytes p) instr_of (piece_reader 16) bytes i rest fits e in
      let stands = instr_is t.0 i t.3.0 t.3.1 t.4 in
      (t.1 ∙ ap (λ (x : List ℕ). x ++ rest) stands.0, t.2, stands.1);
  again = λ i rest narrow.
      ap (λ r. r >>= λ x. meant (length (instr i ++ rest)) (instr_of x.0) x.1) (piece_again 16 (instr i) rest (instr_size i))
      ∙ ap (λ o. meant (length (instr i ++ rest)) o rest) (instr_again i narrow);
}

pub instr_reader : (tables : List Table) (rows : List (List ℕ)) (count : ℕ) (before : List Instr)
    → IsReader (instr_at tables rows count before) instr (IsReadInstr tables rows count before)
unfolding instr_with
instr_reader tables rows count before =
    checked_reader (known (piece_at 16) instr_of) instr IsNarrow (may_follow tables rows (eqb (length before + 1) count) before) raw_instr_reader

-- ---- executives

exec_raw : (signals : ℕ) (tables : List Table) (rows : List (List ℕ)) (few : signals ≤ 1024) → IsReader (exec_at signals tables rows)
    (λ (b : Exec). text b.name ++ ((number w16) (length b.chains) ++ ((flat_map chain) b.chains ++ ((number w32) (length b.instrs)
    ++ ((flat_map instr) b.instrs ++ ([]))))))
    (λ (b : Exec). (IsTextWith (λ text. true)) b.name × ((IsNumber (2 ^ 16) (λ count. leb count 256)) (length b.chains) × ((AreItems
    (λ (before : List CodeChain) (c : CodeChain). IsChain signals c) (length b.chains)) b.chains × ((IsNumber (2 ^ 32)
    (λ count. ltb 0 count && leb count 4194305)) (length b.instrs)
    × ((AreItems (IsReadInstr tables rows (length b.instrs)) (length b.instrs)) b.instrs
    × (b ≡ record { name = b.name; chains = b.chains; instrs = b.instrs }))))))
unfolding exec_at
exec_raw signals tables rows few =
    then_reader (text_at (λ text. true)) text (IsTextWith (λ text. true))
    (λ x0. checked (number_at w16) (λ count. leb count 256) x0.1 >>= λ x1. items_at (λ before. chain_at signals) x1.0 [] x1.1 >>= λ x2. checked (number_at w32) (λ count. ltb 0 count && leb count 4194305) x2.1 >>= λ x3. items_at (instr_at tables rows (x3.0)) x3.0 [] x3.1 >>= λ x4. Ok (record { name = x0.0; chains = x2.0; instrs = x4.0 }, x4.1))
    (λ (b : Exec). (number w16) (length b.chains) ++ ((flat_map chain) b.chains ++ ((number w32) (length b.instrs) ++ ((flat_map instr) b.instrs ++ ([])))))
    (λ (n : List ℕ) (b : Exec). (IsNumber (2 ^ 16) (λ count. leb count 256)) (length b.chains) × ((AreItems (λ (before : List CodeChain) (c : CodeChain). IsChain signals c) (length b.chains)) b.chains × ((IsNumber (2 ^ 32) (λ count. ltb 0 count && leb count 4194305)) (length b.instrs) × ((AreItems (IsReadInstr tables rows (length b.instrs)) (length b.instrs)) b.instrs × (b ≡ record { name = n; chains = b.chains; instrs = b.instrs })))))
    (λ (b : Exec). b.name) (text_reader (λ text. true))
    (λ n h0. then_reader (checked (number_at w16) (λ count. leb count 256)) (number w16) (IsNumber (2 ^ 16) (λ count. leb count 256))
    (λ x1. items_at (λ before. chain_at signals) x1.0 [] x1.1 >>= λ x2. checked (number_at w32) (λ count. ltb 0 count && leb count 4194305) x2.1 >>= λ x3. items_at (instr_at tables rows (x3.0)) x3.0 [] x3.1 >>= λ x4. Ok (record { name = n; chains = x2.0; instrs = x4.0 }, x4.1))
    (λ (b : Exec). (flat_map chain) b.chains ++ ((number w32) (length b.instrs) ++ ((flat_map instr) b.instrs ++ ([]))))
    (λ (c : ℕ) (b : Exec). (AreItems (λ (before : List CodeChain) (c : CodeChain). IsChain signals c) (c)) b.chains × ((IsNumber (2 ^ 32) (λ count. ltb 0 count && leb count 4194305)) (length b.instrs) × ((AreItems (IsReadInstr tables rows (length b.instrs)) (length b.instrs)) b.instrs × (b ≡ record { name = n; chains = b.chains; instrs = b.instrs }))))
    (λ (b : Exec). length b.chains) (checked_reader (number_at w16) (number w16) (IsBelow (2 ^ 16)) (λ count. leb count 256) (number_reader w16 (2 ^ 16) wide16))
    (λ c h1. then_reader (items_at (λ before. chain_at signals) c []) (flat_map chain) (AreItems (λ (before : List CodeChain) (c : CodeChain). IsChain signals c) (c))
    (λ x2. checked (number_at w32) (λ count. ltb 0 count && leb count 4194305) x2.1 >>= λ x3. items_at (instr_at tables rows (x3.0)) x3.0 [] x3.1 >>= λ x4. Ok (record { name = n; chains = x2.0; instrs = x4.0 }, x4.1))
    (λ (b : Exec). (number w32) (length b.instrs) ++ ((flat_map instr) b.instrs ++ ([])))
    (λ (h : List CodeChain) (b : Exec). (IsNumber (2 ^ 32) (λ count. ltb 0 count && leb count 4194305)) (length b.instrs) × ((AreItems (IsReadInstr tables rows (length b.instrs)) (length b.instrs)) b.instrs × (b ≡ record { name = n; chains = h; instrs = b.instrs })))
    (λ (b : Exec). b.chains) (items_reader (λ before. chain_at signals) chain (λ (before : List CodeChain) (c : CodeChain). IsChain signals c) (λ before. chain_reader signals few) (c))
    (λ h h2. then_reader (checked (number_at w32) (λ count. ltb 0 count && leb count 4194305)) (number w32) (IsNumber (2 ^ 32) (λ count. ltb 0 count && leb count 4194305))
    (λ x3. items_at (instr_at tables rows (x3.0)) x3.0 [] x3.1 >>= λ x4. Ok (record { name = n; chains = h; instrs = x4.0 }, x4.1))
    (λ (b : Exec). (flat_map instr) b.instrs ++ ([]))
    (λ (k : ℕ) (b : Exec). (AreItems (IsReadInstr tables rows (k)) (k)) b.instrs × (b ≡ record { name = n; chains = h; instrs = b.instrs }))
    (λ (b : Exec). length b.instrs) (checked_reader (number_at w32) (number w32) (IsBelow (2 ^ 32)) (λ count. ltb 0 count && leb count 4194305) (number_reader w32 (2 ^ 32) wide32))
    (λ k h3. then_reader (items_at (instr_at tables rows (k)) k []) (flat_map instr) (AreItems (IsReadInstr tables rows (k)) (k))
    (λ x4. Ok (record { name = n; chains = h; instrs = x4.0 }, x4.1))
    (λ (b : Exec). [])
    (λ (i : List Instr) (b : Exec). b ≡ record { name = n; chains = h; instrs = i })
    (λ (b : Exec). b.instrs) (items_reader (instr_at tables rows (k)) instr (IsReadInstr tables rows (k)) (instr_reader tables rows (k)) (k))
    (λ i h4. done_reader (record { name = n; chains = h; instrs = i }))
    (λ (i : List Instr) (b : Exec) g. ap (λ (m : Exec). m.instrs) g))
    (λ k b g. g.0.0))
    (λ (h : List CodeChain) (b : Exec) g. ap (λ (m : Exec). m.chains) g.1.1))
    (λ c b g. g.0.0))
    (λ (n : List ℕ) (b : Exec) g. ap (λ (m : Exec). m.name) g.1.1.1.1)

pub exec_reader : (signals : ℕ) (tables : List Table) (rows : List (List ℕ)) → signals ≤ 1024 → length tables ≤ 4096 → length rows < 2 ^ 32
    → IsReader (exec_at signals tables rows) exec (IsExec signals tables rows)
exec_reader signals tables rows few few_tables few_rows =
    adapted (exec_at signals tables rows) _ exec _ (IsExec signals tables rows) (exec_raw signals tables rows few)
    (λ e f.
    let p = and_parts (ltb 0 (length e.instrs)) (leb (length e.instrs) 4194305) f.1.1.1.0.1 in
    let whole = read_whole tables rows (length e.instrs) [] e.instrs refl (ltb-true 0 (length e.instrs) p.0) f.1.1.1.1.0.1 in
    record {
      name = f.0.0;
      few_chains = leb-true (length e.chains) 256 f.1.0.1;
      chains = f.1.1.0.1;
      few_instrs = leb-true (length e.instrs) 4194305 p.1;
      instrs = all_each (IsInstr tables rows) [] e.instrs whole.named;
      whole = record { rest = whole.closed; cycles = whole.bounded };
    })
    (λ e f.
    let few_chains : length e.chains ≤ 256 = f.few_chains in
    let few_instrs : length e.instrs ≤ 4194305 = f.few_instrs in
    let some : 0 < length e.instrs = some_rest 0 false e.instrs f.whole.rest in
    let each = whole_read tables rows (length e.instrs) [] e.instrs refl few_tables few_rows
    (record { closed = f.whole.rest; named = each_all (IsInstr tables rows) [] e.instrs f.instrs; bounded = f.whole.cycles }) in (
      (f.name, refl),
      (
        (omega arith, le-leb (length e.chains) 256 few_chains),
        (
          (refl, f.chains),
          (
            (omega arith, and_from (ltb 0 (length e.instrs)) (leb (length e.instrs) 4194305) (lt-ltb 0 (length e.instrs) some) (le-leb (length e.instrs) 4194305 few_instrs)),
            ((refl, each), refl),
          ),
        ),
      ),
    ))
    (λ e f. ap (λ (x : List ℕ). text e.name ++ (number w16 (length e.chains) ++ (flat_map chain e.chains ++ (number w32 (length e.instrs) ++ x)))) (append-nil (flat_map instr e.instrs)))
  where
    some_rest : (depth : ℕ) (begun : Bool) (is : List Instr) → IsRest depth begun is → 0 < length is
    some_rest depth begun [] rest = absurd rest
    some_rest depth begun (i ∷ is) rest = omega arith
