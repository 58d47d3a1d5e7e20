use Rattle.std.proofs.Common.{◌≡◌, drop}
use Rattle.tester_types.specs.Memory.{files_seen}
use Rattle.tester_types.specs.Outside.{file_of}
use Rattle.tester_types.proofs.mem_shelf.find_file.Given as goal

-- the file is the first of its name in what is left
abbrev pub invariant-loop-file : goal.invariant-loop-file
invariant-loop-file l = file_of (files_seen (drop l.file-index l.files)) l.name ≡ file_of (files_seen l.files) l.name
