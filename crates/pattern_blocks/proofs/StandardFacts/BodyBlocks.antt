-- Known patterns, macros and procedures.
use Rattle.std.proofs.Common.{◌≡◌, [], ◌∷◌, Some, Ok, Err, refl}
use Rattle.std.specs.Prelude.{codes}
use Rattle.text_bytes.specs.Bytes.{is_digit, begins_name, is_printable}
use Rattle.stil_tree.specs.Trees.{Entry, end, plain, block}
use Rattle.stil_form.specs.declared.fault.FormFault.TheVariants.{Refused}
use Rattle.stil_form.specs.declared.fault.FormKind.TheVariants.{Shape, LeftOut, Twice}
use Rattle.stil_form.specs.Setting.{Setting}
use Rattle.block_forms.proofs.StandardFacts.Signs.{word, name, mark}
use Rattle.block_forms.proofs.StandardFacts.Lines.{on}
use Rattle.stil_ast.specs.Data.Written.{no_more, single}
use Rattle.stil_ast.specs.declared.body.Step.TheVariants as step
use Rattle.pat_read.specs.declared.reader.BodyPlace.TheVariants as place
use Rattle.pattern_blocks.specs.Defs.{pattern_block, defs_block}

-- `Pattern run { W fast; note; Stop; }`
abbrev run_text : Setting
run_text = record {
  bytes = codes "Pattern run { W fast; note;|Stop; }";
  tokens =
      word 0 7 ∷ word 8 11 ∷ mark 123 12 ∷ word 14 15 ∷ word 16 20 ∷ mark 59 20 ∷ word 22 26 ∷ mark 59 26 ∷
      on 2 (word 28 32) ∷ on 2 (mark 59 32) ∷ on 2 (mark 125 34) ∷ [];
  words = codes "note" ∷ [];
}

abbrev run : Entry
run = record { first = 0; count = 2; body = Some (plain 3 2 (plain 6 1 (plain 8 1 end))) }

pub run_is : pattern_block run_text run ≡ Ok (record {
  name = codes "run";
  body = single 1 (step.Wave (codes "fast")) (single 2 step.Stop no_more);
})
unfolding is_digit begins_name is_printable
run_is = refl

-- `MacroDefs { go { BreakPoint; } "end" { } }`
abbrev macros_text : Setting
macros_text = record {
  bytes = codes "MacroDefs { go { BreakPoint; } \"end\" { } }";
  tokens =
      word 0 9 ∷ mark 123 10 ∷ word 12 14 ∷ mark 123 15 ∷ word 17 27 ∷ mark 59 27 ∷ mark 125 29 ∷
      name 31 36 ∷ mark 123 37 ∷ mark 125 39 ∷ mark 125 41 ∷ [];
  words = [];
}

abbrev macros : Entry
macros = record { first = 0; count = 1; body = Some (block 2 1 (plain 4 1 end) (block 7 1 end end)) }

-- names that another block of MacroDefs declares are no hindrance
pub macros_are : defs_block macros_text place.Macro ((codes "m", codes "go") ∷ []) macros ≡ Ok (record {
  name = [];
  bodies =
      record { name = codes "go"; body = single 1 step.BreakPoint no_more } ∷
      record { name = codes "end"; body = no_more } ∷ [];
})
unfolding is_digit begins_name is_printable
macros_are = refl

-- `Pattern { }`
abbrev no_name_text : Setting
no_name_text = record {
  bytes = codes "Pattern { }";
  tokens =
      word 0 7 ∷ mark 123 8 ∷ mark 125 10 ∷ [];
  words = [];
}

abbrev no_name : Entry
no_name = record { first = 0; count = 1; body = Some end }

-- a pattern has a name
pub no_name_refused : pattern_block no_name_text no_name ≡ Err (Refused Shape 0)
unfolding is_digit begins_name is_printable
no_name_refused = refl

-- `MacroDefs { a { } a { Stop; } }`
abbrev again_text : Setting
again_text = record {
  bytes = codes "MacroDefs { a { } a { Stop; } }";
  tokens =
      word 0 9 ∷ mark 123 10 ∷ word 12 13 ∷ mark 123 14 ∷ mark 125 16 ∷ word 18 19 ∷ mark 123 20 ∷
      word 22 26 ∷ mark 59 26 ∷ mark 125 28 ∷ mark 125 30 ∷ [];
  words = [];
}

abbrev again : Entry
again = record { first = 0; count = 1; body = Some (block 2 1 end (block 5 1 (plain 7 1 end) end)) }

-- a name twice in a block, before the statements of its body
pub again_refused : defs_block again_text place.Macro ([]) again ≡ Err (Refused Twice 5)
unfolding is_digit begins_name is_printable
again_refused = refl

-- `MacroDefs m { a { } }`
abbrev joined_text : Setting
joined_text = record {
  bytes = codes "MacroDefs m { a { } }";
  tokens =
      word 0 9 ∷ word 10 11 ∷ mark 123 12 ∷ word 14 15 ∷ mark 123 16 ∷ mark 125 18 ∷ mark 125 20 ∷ [];
  words = [];
}

abbrev joined : Entry
joined = record { first = 0; count = 2; body = Some (block 3 1 end end) }

-- a name twice in blocks of one name
pub joined_refused : defs_block joined_text place.Macro ((codes "m", codes "a") ∷ []) joined ≡ Err (Refused Twice 3)
unfolding is_digit begins_name is_printable
joined_refused = refl

-- `MacroDefs { a { Stop; } }`
abbrev stops_text : Setting
stops_text = record {
  bytes = codes "MacroDefs { a { Stop; } }";
  tokens =
      word 0 9 ∷ mark 123 10 ∷ word 12 13 ∷ mark 123 14 ∷ word 16 20 ∷ mark 59 20 ∷ mark 125 22 ∷
      mark 125 24 ∷ [];
  words = [];
}

abbrev stops : Entry
stops = record { first = 0; count = 1; body = Some (block 2 1 (plain 4 1 end) end) }

-- no Stop in a macro
pub stops_refused : defs_block stops_text place.Macro ([]) stops ≡ Err (Refused LeftOut 4)
unfolding is_digit begins_name is_printable
stops_refused = refl

-- `MacroDefs { a; }`
abbrev no_body_text : Setting
no_body_text = record {
  bytes = codes "MacroDefs { a; }";
  tokens =
      word 0 9 ∷ mark 123 10 ∷ word 12 13 ∷ mark 59 13 ∷ mark 125 15 ∷ [];
  words = [];
}

abbrev no_body : Entry
no_body = record { first = 0; count = 1; body = Some (plain 2 1 end) }

-- a macro has a body
pub no_body_refused : defs_block no_body_text place.Macro ([]) no_body ≡ Err (Refused Shape 2)
unfolding is_digit begins_name is_printable
no_body_refused = refl

-- `MacroDefs { a b { } }`
abbrev two_names_text : Setting
two_names_text = record {
  bytes = codes "MacroDefs { a b { } }";
  tokens =
      word 0 9 ∷ mark 123 10 ∷ word 12 13 ∷ word 14 15 ∷ mark 123 16 ∷ mark 125 18 ∷ mark 125 20 ∷ [];
  words = [];
}

abbrev two_names : Entry
two_names = record { first = 0; count = 1; body = Some (block 2 2 end end) }

-- a macro has one name
pub two_names_refused : defs_block two_names_text place.Macro ([]) two_names ≡ Err (Refused Shape 2)
unfolding is_digit begins_name is_printable
two_names_refused = refl

-- `MacroDefs a b { }`
abbrev two_titles_text : Setting
two_titles_text = record {
  bytes = codes "MacroDefs a b { }";
  tokens =
      word 0 9 ∷ word 10 11 ∷ word 12 13 ∷ mark 123 14 ∷ mark 125 16 ∷ [];
  words = [];
}

abbrev two_titles : Entry
two_titles = record { first = 0; count = 3; body = Some end }

-- a block has one name
pub two_titles_refused : defs_block two_titles_text place.Macro ([]) two_titles ≡ Err (Refused Shape 0)
unfolding is_digit begins_name is_printable
two_titles_refused = refl
