-- Why a text is refused.
use Rattle.answers.specs.declared.short.Short.{Short}
use Rattle.stil_ast.specs.declared.fault.StilFault.{StilFault}

-- want of memory, or a fault of the text
abbrev pub StilRefusal : Type 0
StilRefusal = Short StilFault
