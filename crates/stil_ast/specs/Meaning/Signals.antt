-- The signals and the groups that a text declares (IEEE 1450-1999, clauses 14 and 15).
use Rattle.std.specs.Prelude.{ℕ, List, [], ◌∷◌, Option, Some, None, map, flat_map, codes}
use Rattle.stil_ast.specs.Data.Places.{Place}
use Rattle.stil_ast.specs.Data.Texts.{indices, indexed, names_with}
use Rattle.stil_ast.specs.declared.name.IndexRange.{IndexRange}
use Rattle.tester_types.specs.declared.signal.Direction.{Direction}
use Rattle.stil_ast.specs.declared.signal.SignalDecl.{SignalDecl}
use Rattle.stil_ast.specs.declared.signal.GroupDecl.{GroupDecl}
use Rattle.stil_ast.specs.declared.signal.GroupBlock.{GroupBlock}
use Rattle.stil_ast.specs.declared.blocks.Blocks.{Blocks}

-- a signal: its text, the name under which it was declared with brackets, its direction, and where that stands
pub record Signal : Type 0 where
  pub text : List ℕ
  pub base : Option (List ℕ)
  pub direction : Direction
  pub place : Place

-- the place of a statement in a Signals block
abbrev pub signals_place : ℕ → Place
signals_place line = record { block = codes "Signals"; name = []; line = line }

-- one signal, or one for each index
abbrev pub declared_as : SignalDecl → Option IndexRange → List Signal
declared_as d None =
    record { text = d.name; base = None; direction = d.direction; place = signals_place d.line } ∷ []
declared_as d (Some range) =
    map (λ i. record {
      text = indexed d.name i;
      base = Some d.name;
      direction = d.direction;
      place = signals_place d.line;
    }) (indices range)

-- the signals of a declaration
abbrev pub declared : SignalDecl → List Signal
declared d = declared_as d d.range

-- a group: its name, its text, and where they stand
pub record Group : Type 0 where
  pub name : List ℕ
  pub text : List ℕ
  pub place : Place
  pub text_place : Place

-- the place of a line in a SignalGroups block
abbrev pub groups_place : List ℕ → ℕ → Place
groups_place name line = record { block = codes "SignalGroups"; name = name; line = line }

-- a group of a SignalGroups block
abbrev pub grouped : List ℕ → GroupDecl → Group
grouped block g = record {
  name = g.name;
  text = g.text.text;
  place = groups_place block g.line;
  text_place = groups_place block g.text.line;
}

-- what references are resolved in: the signals in declared order, and the groups of all SignalGroups blocks
pub record Names : Type 0 where
  pub signals : List Signal
  pub groups : List Group

-- the signals and groups of a text
abbrev pub names_of : Blocks → Names
names_of blocks = record {
  signals = flat_map declared blocks.signals;
  groups = flat_map (λ (b : GroupBlock). map (grouped b.name) b.groups) blocks.groups;
}

-- the texts of all signals in declared order, without where they were declared
abbrev pub signal_texts : List SignalDecl → List (List ℕ)
signal_texts declarations = flat_map (λ (d : SignalDecl). names_with d.name d.range) declarations
