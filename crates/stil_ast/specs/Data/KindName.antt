-- The words by which kinds of faults are printed.
use Rattle.std.specs.Prelude.{ℕ, List, codes}
use Rattle.stil_ast.specs.declared.fault.StilKind.{StilKind}
use Rattle.stil_ast.specs.declared.fault.StilKind.TheVariants.{BadByte, OpenQuote, OpenComment, OpenBlock, OpenStatement, StrayClose, TooDeep, NoHeader, Shape, LeftOut, OutOfRange, Twice, NoExec, UnknownName, Cyclic, BadExpr, ZeroDivisor, NotWhole, NoPeriod, EventOutside, EventOrder, Width, NoData, ShiftForm, NoTable, NoWave, TooLarge, TooManyCycles}

-- the word of a kind
abbrev pub kind_name : StilKind → List ℕ
kind_name BadByte = codes "BadByte"
kind_name OpenQuote = codes "OpenQuote"
kind_name OpenComment = codes "OpenComment"
kind_name OpenBlock = codes "OpenBlock"
kind_name OpenStatement = codes "OpenStatement"
kind_name StrayClose = codes "StrayClose"
kind_name TooDeep = codes "TooDeep"
kind_name NoHeader = codes "NoHeader"
kind_name Shape = codes "Shape"
kind_name LeftOut = codes "LeftOut"
kind_name OutOfRange = codes "OutOfRange"
kind_name Twice = codes "Twice"
kind_name NoExec = codes "NoExec"
kind_name UnknownName = codes "UnknownName"
kind_name Cyclic = codes "Cyclic"
kind_name BadExpr = codes "BadExpr"
kind_name ZeroDivisor = codes "ZeroDivisor"
kind_name NotWhole = codes "NotWhole"
kind_name NoPeriod = codes "NoPeriod"
kind_name EventOutside = codes "EventOutside"
kind_name EventOrder = codes "EventOrder"
kind_name Width = codes "Width"
kind_name NoData = codes "NoData"
kind_name ShiftForm = codes "ShiftForm"
kind_name NoTable = codes "NoTable"
kind_name NoWave = codes "NoWave"
kind_name TooLarge = codes "TooLarge"
kind_name TooManyCycles = codes "TooManyCycles"
