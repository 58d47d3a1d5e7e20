-- Lots that are done: their words, files, plan and sockets are fine, and no count rises.
use Rattle.std.specs.Prelude.{ℕ, ◌≤◌, List, Option}
use Rattle.tester_types.specs.Outside.{HasRisen, Files}
use Rattle.plan_rows.specs.Rows.{sites_of}
use Rattle.tool_inputs.specs.FineInputs.{AreFine}
use Rattle.stil_tool.specs.Lot.{AreLot, usable}

-- The words are those of a lot whose files are fine, there are sockets enough for its sites, and no count rose.
pub record IsFineLot (words : List (List ℕ)) (told : Option Files) (before now faults faults' sockets : ℕ)
    : Type 0 where
  pub program : List ℕ
  pub plan : List ℕ
  pub are : AreLot words program plan
  pub files : AreFine told before now program plan
  pub enough : sites_of files.rows ≤ usable sockets
  pub puts : HasRisen faults faults' → ⊥
