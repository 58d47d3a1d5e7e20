use Rattle.std.proofs.Common.{◌≡◌, take, length, map}
use Rattle.code_listing.specs.Text.{character_or_dash}
use Rattle.code_listing.proofs.cycles.show.Given as goal

-- the places so far have their characters
abbrev pub invariant-loop-place : goal.invariant-loop-place
invariant-loop-place l = record {
  long : length l.row ≡ length l.characters;
  put : take l.place l.row ≡ map character_or_dash (take l.place l.characters);
}
