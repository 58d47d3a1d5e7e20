-- Assignments that are kept in two lists: in one the bytes of their references and numbers, in the other the runs of
-- their data (IEEE 1450-1999, clauses 6 and 21).
use Rattle.std.specs.Prelude.{◌≡◌, ◌<◌, ◌^◌, ◌+◌, ◌==◌, ℕ, zero, suc, List, [], ◌∷◌, ◌++◌, length, take, drop, nat_lt, Option, Some, None, if◌then◌else◌, slice_index}
use Rattle.std.specs.Int.{w32, to_le_bytes, from_le_bytes}
use Rattle.std.specs.List.{All, flat_map}
use Rattle.std.specs.Option.{option_map}
use Rattle.stil_ast.specs.Data.Items.{items_of, KeepRepeats}
use Rattle.stil_ast.specs.declared.data.ItemRun.{ItemRun}
use Rattle.stil_ast.specs.declared.name.SigRef.{SigRef}
use Rattle.stil_ast.specs.declared.name.SigRef.TheVariants as ref
use Rattle.stil_ast.specs.declared.assignment_list.RefKind.{RefKind}
use Rattle.stil_ast.specs.declared.assignment_list.RefKind.TheVariants as kind
use Rattle.stil_ast.specs.declared.assignment_list.AssignmentHead.{AssignmentHead}
use Rattle.stil_ast.specs.declared.body.Assignment.{Assignment}

-- the reference of this kind that these bytes are
abbrev pub reference_of : RefKind → List ℕ → SigRef
reference_of kind.Name bytes = ref.Name (record { name = bytes; range = None })
reference_of (kind.Indexed range) bytes = ref.Name (record { name = bytes; range = Some range })
reference_of (kind.Group line) bytes = ref.Group (record { text = bytes; line = line })

-- an assignment by its reference's kind and bytes, its runs and its line
pub record KeptAssignment : Type 0 where
  pub reference : RefKind
  pub bytes : List ℕ
  pub runs : List ItemRun
  pub line : ℕ

-- the assignment that is kept so
abbrev pub kept_said : KeptAssignment → Assignment
kept_said kept =
    record { reference = reference_of kept.reference kept.bytes; items = items_of kept.runs; line = kept.line }

-- the byte that tells the kind of a reference
abbrev pub kind_code : RefKind → ℕ
kind_code kind.Name = 0
kind_code (kind.Indexed range) = 1
kind_code (kind.Group line) = 2

-- a kind's own numbers, four bytes each, the lowest first
abbrev pub kind_numbers : RefKind → List ℕ
kind_numbers kind.Name = []
kind_numbers (kind.Indexed range) = to_le_bytes w32 range.first ++ to_le_bytes w32 range.last
kind_numbers (kind.Group line) = to_le_bytes w32 line

-- the eleven bytes of a head: the kind, how many bytes and runs there are, three bytes each, and the line
abbrev pub head_bytes : AssignmentHead → List ℕ
head_bytes head =
    kind_code head.reference
    ∷ take 3 (to_le_bytes w32 head.bytes) ++ take 3 (to_le_bytes w32 head.runs) ++ to_le_bytes w32 head.line

-- the head of an assignment that is kept
abbrev pub head_of : KeptAssignment → AssignmentHead
head_of kept =
    record { reference = kept.reference; bytes = length kept.bytes; runs = length kept.runs; line = kept.line }

-- all bytes of an assignment that is kept
abbrev pub kept_bytes : KeptAssignment → List ℕ
kept_bytes kept = head_bytes (head_of kept) ++ kind_numbers kept.reference ++ kept.bytes

-- a kind's own numbers have four bytes
abbrev pub KindFits : RefKind → Type 0
KindFits kind.Name = Unit {0}
KindFits (kind.Indexed range) = (range.first < 2 ^ 32) × (range.last < 2 ^ 32)
KindFits (kind.Group line) = line < 2 ^ 32

-- the numbers of an assignment fit into its head, and no run is too long
pub record FitsHead (kept : KeptAssignment) : Type 0 where
  pub reference_fits : KindFits kept.reference
  pub bytes_fit : length kept.bytes < 2 ^ 24
  pub runs_fit : length kept.runs < 2 ^ 24
  pub line_fits : kept.line < 2 ^ 32
  pub repeats : KeepRepeats kept.runs

-- two lists hold assignments, one behind the other
pub record AreKept (texts : List ℕ) (runs : List ItemRun) : Type 0 where
  pub kept : List KeptAssignment
  pub texts_are : texts ≡ flat_map kept_bytes kept
  pub runs_are : runs ≡ flat_map (λ (k : KeptAssignment). k.runs) kept
  pub fit : All FitsHead kept

-- the number of three bytes from a place on
abbrev pub short_number : ℕ → List ℕ → ℕ
short_number at bytes =
    from_le_bytes w32 (slice_index bytes at ∷ slice_index bytes (at + 1) ∷ slice_index bytes (at + 2) ∷ 0 ∷ [])

-- the number of four bytes from a place on
abbrev pub long_number : ℕ → List ℕ → ℕ
long_number at bytes =
    from_le_bytes w32
    (slice_index bytes at ∷ slice_index bytes (at + 1) ∷ slice_index bytes (at + 2) ∷ slice_index bytes (at + 3) ∷ [])

-- two numbers in front as indices, and what stands behind them
abbrev pub range_front : List ℕ → Option (RefKind × List ℕ)
range_front bytes =
    if nat_lt (length bytes) 8 then None
    else Some (kind.Indexed (record { first = long_number 0 bytes; last = long_number 4 bytes }), drop 8 bytes)

-- a number in front as the line of a group, and what stands behind it
abbrev pub group_front : List ℕ → Option (RefKind × List ℕ)
group_front bytes =
    if nat_lt (length bytes) 4 then None else Some (kind.Group (long_number 0 bytes), drop 4 bytes)

-- the kind that a code and the numbers behind a head tell, and what stands behind them
unfoldable pub kind_front : ℕ → List ℕ → Option (RefKind × List ℕ)
kind_front code bytes =
    if code == 0 then Some (kind.Name, bytes) else if code == 1 then range_front bytes else group_front bytes

-- the head of this kind that stands in front
abbrev pub head_with : List ℕ → RefKind × List ℕ → AssignmentHead × List ℕ
head_with bytes found = (
  record { reference = found.0; bytes = short_number 1 bytes; runs = short_number 4 bytes; line = long_number 7 bytes },
  found.1,
)

-- the head that stands in front, and what stands behind it
unfoldable pub head_front : List ℕ → Option (AssignmentHead × List ℕ)
head_front bytes =
    if nat_lt (length bytes) 11 then None
    else option_map (head_with bytes) (kind_front (slice_index bytes 0) (drop 11 bytes))

-- the assignment of a head with its bytes and runs
abbrev pub with_head : AssignmentHead → List ℕ → List ItemRun → Assignment
with_head head bytes runs =
    record { reference = reference_of head.reference bytes; items = items_of runs; line = head.line }

-- the assignment of the head in front, and those that are found behind its bytes and runs
abbrev pub with_front : Option (AssignmentHead × List ℕ) → List ItemRun → (List ℕ → List ItemRun → List Assignment) →
    List Assignment
with_front None runs behind = []
with_front (Some found) runs behind =
    with_head found.0 (take found.0.bytes found.1) (take found.0.runs runs)
    ∷ behind (drop found.0.bytes found.1) (drop found.0.runs runs)

-- the assignments that two lists hold, so many at most
unfoldable pub assignments_in : ℕ → List ℕ → List ItemRun → List Assignment
assignments_in zero texts runs = []
assignments_in (suc most) texts runs = with_front (head_front texts) runs (assignments_in most)

-- the assignments that two lists hold: there are no more than there are bytes
unfoldable pub assignments_kept : List ℕ → List ItemRun → List Assignment
assignments_kept texts runs = assignments_in (length texts) texts runs
