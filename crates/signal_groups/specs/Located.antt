-- How the code holds the groups of a text.
use Rattle.stil_ast.specs.Meaning.Signals.{Group, grouped}
use Rattle.signal_groups.specs.declared.groups.Located.{Located}

-- a group
abbrev pub group_at : Located → Group
group_at l = grouped l.block.now l.decl.now
