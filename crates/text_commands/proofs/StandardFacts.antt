-- A text whose only executive runs forty equal vectors in a row meets the bounds of `save` and of `flat`.
use Rattle.std.proofs.Common.{◌≡◌, ℕ, zero, suc, ◌+◌, ◌*◌, ◌^◌, true, List, [], ◌∷◌, refl, ap, ◌∙◌, codes, map, arith, inl}
use Rattle.tester_types.specs.declared.signal.Direction.TheVariants.{In}
use Rattle.stil_ast.specs.Data.Written.{Written, no_more, single}
use Rattle.stil_ast.specs.Meaning.Statements.{a_character}
use Rattle.stil_ast.specs.Meaning.Executive.{executive_of}
use Rattle.stil_ast.specs.Meaning.ExecutiveData.{measure_of}
use Rattle.stil_ast.specs.declared.body.Step.TheVariants.{Wave, Vector}
use Rattle.stil_ast.specs.declared.blocks.Blocks.{Blocks}
use Rattle.stil_ast.specs.declared.executive.ExecDecl.{ExecDecl}
use Rattle.stil_ast.proofs.StandardFacts.Texts.{signal, by_name, driven, table, assign, text_of}
use Rattle.text_bytes.specs.Bytes.{is_blank, is_digit}
use Rattle.expr_text.specs.Front.{lexed, front_of, number_front, unit_front}
use Rattle.expr_text.specs.Range.{divisor_of, remainders}
use Rattle.expr_text.specs.Ratio.{lowest}
use Rattle.time_expr.specs.TimesOf.{times_of}
use Rattle.text_commands.specs.Numbers.{signal_bytes, numbers_of, has_plain_texts, IsSavable, IsFlattable}

-- so many equal vectors in a row
abbrev vectors : ℕ → Written
vectors zero = no_more
vectors (suc n) = single 11 (Vector (assign 11 (codes "a") (a_character 49 ∷ []) ∷ [])) (vectors n)

-- one signal, one table, and a pattern of forty of them
abbrev forty : Blocks
forty = text_of (signal (codes "a") In ∷ []) [] (table (codes "w") (codes "100ns")
    (driven (by_name (codes "a")) ∷ []) ∷ []) [] []
    (single 10 (Wave (codes "w")) (vectors 40))

forty_signals : (numbers_of forty).signals ≡ 1
forty_signals = refl

forty_executives : (numbers_of forty).executives ≡ 1
forty_executives = refl

forty_tables : (numbers_of forty).tables ≡ 1
forty_tables = refl

forty_waves : (numbers_of forty).waves ≡ 2
forty_waves = refl

forty_events : (numbers_of forty).events ≡ 2
unfolding lexed is_blank front_of is_digit number_front unit_front lowest divisor_of remainders
forty_events = refl

forty_rows : (numbers_of forty).rows ≡ 1
forty_rows = refl

forty_instructions : (numbers_of forty).instructions ≡ 41
forty_instructions = refl

forty_chains : (numbers_of forty).chains ≡ 0
forty_chains = refl

forty_cells : (numbers_of forty).cells ≡ 0
forty_cells = refl

forty_names : (numbers_of forty).names ≡ 2
forty_names = refl

forty_measures : map (λ (e : ExecDecl). measure_of (executive_of times_of forty e)) forty.executives ≡ 40 ∷ []
forty_measures = refl

forty_plain : has_plain_texts forty ≡ true
forty_plain = refl

-- it is saved
forty_is_savable : IsSavable forty
forty_is_savable =
    omega (
      arith,
      forty_signals,
      forty_executives,
      forty_tables,
      forty_waves,
      forty_events,
      product,
      forty_rows,
      forty_instructions,
      forty_chains,
      forty_cells,
      forty_names,
    )
  where
    product : (numbers_of forty).rows * (numbers_of forty).signals ≡ 1
    product = refl

-- the first of numbers
first : List ℕ → ℕ
first [] = 0
first (n ∷ ns) = n

-- and its flat text is written, in which no Loop is but that of its vectors
forty_is_flattable : IsFlattable forty 4 1
forty_is_flattable = record {
  plain = forty_plain;
  names = (omega arith, tt);
  levels = omega arith;
  measures =
      (let measured = ap first forty_measures in let room : 2 ^ suc (suc 4) ≡ 64 = refl in omega (arith, measured, room), tt);
  tables = omega (arith, forty_tables);
  waves =
      let product : (numbers_of forty).executives * (numbers_of forty).waves ≡ 2 = refl in omega (arith, product);
  walked =
      let product : (numbers_of forty).instructions * (4 + (numbers_of forty).signals) ≡ 205 =
      ap (λ (n : ℕ). n * (4 + (numbers_of forty).signals)) forty_instructions ∙ ap (λ (n : ℕ). 41 * (4 + n)) forty_signals in
      omega (arith, product);
  measured =
      let product : 2 * (2 ^ suc 4 * (numbers_of forty).instructions) ≡ 2624 =
      ap (λ (n : ℕ). 2 * (2 ^ suc 4 * n)) forty_instructions in
      inl (omega (arith, product));
  short =
      let rows : (numbers_of forty).rows * (36 + 6 * (numbers_of forty).signals + signal_bytes forty) ≡ 43 = refl in
      let tables : (numbers_of forty).executives *
      (90 * (numbers_of forty).tables + (numbers_of forty).waves * 15 + 32 * (numbers_of forty).events) ≡ 184 =
      ap (λ (n : ℕ). 1 * (90 * 1 + 2 * 15 + 32 * n)) forty_events in
      omega (arith, forty_names, forty_signals, forty_executives, forty_instructions, rows, tables);
}
