-- The path of an evaluation from variable to variable. No public clause cites this file.
use Rattle.std.specs.Prelude.{◌-◌, List, length, get_or}
use Rattle.time_expr.specs.declared.walk.Visit.{Visit}

-- the last visit, or the first of all
abbrev pub last_of : List Visit → Visit → Visit
last_of visits first = get_or visits (length visits - 1) first
