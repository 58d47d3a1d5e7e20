-- Known executives.
use Rattle.std.proofs.Common.{◌≡◌, [], ◌∷◌, Some, None, Ok, Err, refl}
use Rattle.std.specs.Prelude.{codes}
use Rattle.text_bytes.specs.Bytes.{is_digit, begins_name, is_printable}
use Rattle.stil_tree.specs.Trees.{Entry, end, plain, block}
use Rattle.stil_form.specs.declared.fault.FormFault.TheVariants.{Refused}
use Rattle.stil_form.specs.declared.fault.FormKind.TheVariants.{Shape, LeftOut, Twice}
use Rattle.stil_form.specs.Setting.{Setting}
use Rattle.block_forms.proofs.StandardFacts.Signs.{word, name, mark}
use Rattle.block_forms.proofs.StandardFacts.Lines.{on}
use Rattle.stil_ast.specs.declared.name.Named.{Named}
use Rattle.std.proofs.Common.{ℕ, List}
use Rattle.pattern_blocks.specs.Executives.{exec_block}

-- a name on a line
abbrev named : ℕ → List ℕ → Named
named line called = record { name = called; line = line }

-- `PatternExec "" { Category fast; note x; Category slow; Timing ""; PatternBurst b; }`
abbrev go_text : Setting
go_text = record {
  bytes = codes "PatternExec \"\" { Category fast; note x; Category slow;|Timing \"\"; PatternBurst b; }";
  tokens =
      word 0 11 ∷ name 12 14 ∷ mark 123 15 ∷ word 17 25 ∷ word 26 30 ∷ mark 59 30 ∷ word 32 36 ∷
      word 37 38 ∷ mark 59 38 ∷ word 40 48 ∷ word 49 53 ∷ mark 59 53 ∷ on 2 (word 55 61) ∷
      on 2 (name 62 64) ∷ on 2 (mark 59 64) ∷ on 2 (word 66 78) ∷ on 2 (word 79 80) ∷ on 2 (mark 59 80) ∷
      on 2 (mark 125 82) ∷ [];
  words = codes "note" ∷ [];
}

abbrev go : Entry
go = record {
  first = 0;
  count = 2;
  body = Some (plain 3 2 (plain 6 2 (plain 9 2 (plain 12 2 (plain 15 2 end)))));
}

-- any number of Categories; a Timing may be the unnamed one; the name of the executive may be empty
pub go_is : exec_block go_text go ≡ Ok (record {
  name = [];
  categories = named 1 (codes "fast") ∷ named 1 (codes "slow") ∷ [];
  selector = None;
  timing = Some (named 2 []);
  burst = named 2 (codes "b");
  line = 1;
})
unfolding is_digit begins_name is_printable
go_is = refl

-- `PatternExec { Selector s; }`
abbrev no_burst_text : Setting
no_burst_text = record {
  bytes = codes "PatternExec { Selector s; }";
  tokens =
      word 0 11 ∷ mark 123 12 ∷ word 14 22 ∷ word 23 24 ∷ mark 59 24 ∷ mark 125 26 ∷ [];
  words = [];
}

abbrev no_burst : Entry
no_burst = record { first = 0; count = 1; body = Some (plain 2 2 end) }

-- an executive without a PatternBurst has no form, at its own statement
pub no_burst_refused : exec_block no_burst_text no_burst ≡ Err (Refused Shape 0)
unfolding is_digit begins_name is_printable
no_burst_refused = refl

-- `PatternExec { Selector s; Selector t; PatternBurst b; }`
abbrev twice_text : Setting
twice_text = record {
  bytes = codes "PatternExec { Selector s; Selector t; PatternBurst b; }";
  tokens =
      word 0 11 ∷ mark 123 12 ∷ word 14 22 ∷ word 23 24 ∷ mark 59 24 ∷ word 26 34 ∷ word 35 36 ∷
      mark 59 36 ∷ word 38 50 ∷ word 51 52 ∷ mark 59 52 ∷ mark 125 54 ∷ [];
  words = [];
}

abbrev twice : Entry
twice = record { first = 0; count = 1; body = Some (plain 2 2 (plain 5 2 (plain 8 2 end))) }

-- a second Selector
pub twice_refused : exec_block twice_text twice ≡ Err (Refused Twice 5)
unfolding is_digit begins_name is_printable
twice_refused = refl

-- `PatternExec { Timing s; Timing ""; PatternBurst b; }`
abbrev timing_twice_text : Setting
timing_twice_text = record {
  bytes = codes "PatternExec { Timing s; Timing \"\"; PatternBurst b; }";
  tokens =
      word 0 11 ∷ mark 123 12 ∷ word 14 20 ∷ word 21 22 ∷ mark 59 22 ∷ word 24 30 ∷ name 31 33 ∷
      mark 59 33 ∷ word 35 47 ∷ word 48 49 ∷ mark 59 49 ∷ mark 125 51 ∷ [];
  words = [];
}

abbrev timing_twice : Entry
timing_twice = record { first = 0; count = 1; body = Some (plain 2 2 (plain 5 2 (plain 8 2 end))) }

-- a second Timing
pub timing_twice_refused : exec_block timing_twice_text timing_twice ≡ Err (Refused Twice 5)
unfolding is_digit begins_name is_printable
timing_twice_refused = refl

-- `PatternExec { PatternBurst b; PatternBurst b; }`
abbrev burst_twice_text : Setting
burst_twice_text = record {
  bytes = codes "PatternExec { PatternBurst b; PatternBurst b; }";
  tokens =
      word 0 11 ∷ mark 123 12 ∷ word 14 26 ∷ word 27 28 ∷ mark 59 28 ∷ word 30 42 ∷ word 43 44 ∷
      mark 59 44 ∷ mark 125 46 ∷ [];
  words = [];
}

abbrev burst_twice : Entry
burst_twice = record { first = 0; count = 1; body = Some (plain 2 2 (plain 5 2 end)) }

-- a second PatternBurst
pub burst_twice_refused : exec_block burst_twice_text burst_twice ≡ Err (Refused Twice 5)
unfolding is_digit begins_name is_printable
burst_twice_refused = refl

-- `PatternExec { Category ""; PatternBurst b; }`
abbrev unnamed_text : Setting
unnamed_text = record {
  bytes = codes "PatternExec { Category \"\"; PatternBurst b; }";
  tokens =
      word 0 11 ∷ mark 123 12 ∷ word 14 22 ∷ name 23 25 ∷ mark 59 25 ∷ word 27 39 ∷ word 40 41 ∷
      mark 59 41 ∷ mark 125 43 ∷ [];
  words = [];
}

abbrev unnamed : Entry
unnamed = record { first = 0; count = 1; body = Some (plain 2 2 (plain 5 2 end)) }

-- a Category has a name
pub unnamed_refused : exec_block unnamed_text unnamed ≡ Err (Refused Shape 2)
unfolding is_digit begins_name is_printable
unnamed_refused = refl

-- `PatternExec a b { }`
abbrev two_names_text : Setting
two_names_text = record {
  bytes = codes "PatternExec a b { }";
  tokens =
      word 0 11 ∷ word 12 13 ∷ word 14 15 ∷ mark 123 16 ∷ mark 125 18 ∷ [];
  words = [];
}

abbrev two_names : Entry
two_names = record { first = 0; count = 3; body = Some end }

-- an executive has one name
pub two_names_refused : exec_block two_names_text two_names ≡ Err (Refused Shape 0)
unfolding is_digit begins_name is_printable
two_names_refused = refl

-- `PatternExec { Speed x; PatternBurst b; }`
abbrev left_out_text : Setting
left_out_text = record {
  bytes = codes "PatternExec { Speed x; PatternBurst b; }";
  tokens =
      word 0 11 ∷ mark 123 12 ∷ word 14 19 ∷ word 20 21 ∷ mark 59 21 ∷ word 23 35 ∷ word 36 37 ∷
      mark 59 37 ∷ mark 125 39 ∷ [];
  words = [];
}

abbrev left_out : Entry
left_out = record { first = 0; count = 1; body = Some (plain 2 2 (plain 5 2 end)) }

-- another keyword is left out
pub left_out_refused : exec_block left_out_text left_out ≡ Err (Refused LeftOut 2)
unfolding is_digit begins_name is_printable
left_out_refused = refl

-- `PatternExec { PatternBurst b { } }`
abbrev blocked_text : Setting
blocked_text = record {
  bytes = codes "PatternExec { PatternBurst b { } }";
  tokens =
      word 0 11 ∷ mark 123 12 ∷ word 14 26 ∷ word 27 28 ∷ mark 123 29 ∷ mark 125 31 ∷ mark 125 33 ∷ [];
  words = [];
}

abbrev blocked : Entry
blocked = record { first = 0; count = 1; body = Some (block 2 2 end end) }

-- a name has no block
pub blocked_refused : exec_block blocked_text blocked ≡ Err (Refused Shape 2)
unfolding is_digit begins_name is_printable
blocked_refused = refl
