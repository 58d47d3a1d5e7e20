-- Known tokens, read by the definitions alone.
use Rattle.std.proofs.Common.{◌≡◌, [], ◌∷◌, refl, inl, inr, arith}
use Rattle.stil_lex.specs.declared.token.Token.{Token}
use Rattle.stil_lex.specs.declared.token.TokenKind.{TokenKind}
use Rattle.stil_lex.specs.declared.token.TokenKind.TheVariants.{Word, Sign}
use Rattle.stil_tree.specs.Signs.{semicolon, open_brace, close_brace}
use Rattle.stil_tree.specs.Trees.{end, plain, block}
use Rattle.stil_tree.specs.Grammar.{Parses, ParsesAt.nothing, ParsesAt.skipped, ParsesAt.ended, ParsesAt.nested}
use Rattle.stil_tree.specs.Faults.{IsFault, EndsInside}
use Rattle.stil_tree.specs.Blocks.{open_braces, EndsStatement}
use Rattle.stil_tree.specs.declared.fault.TreeFault.TheVariants.{OpenBlock, OpenStatement, StrayClose}

-- a token of a kind
abbrev tok : TokenKind → Token
tok kind = record { kind = kind; start = 0; end = 0; line = 1 }

abbrev word : Token
word = tok Word

abbrev stop : Token
stop = tok (Sign semicolon)

abbrev opening : Token
opening = tok (Sign open_brace)

abbrev closing : Token
closing = tok (Sign close_brace)

-- `a b;; c { d; }` is a statement with two head tokens, and one with a block that holds one more
pub two_statements : Parses (word ∷ word ∷ stop ∷ stop ∷ word ∷ opening ∷ word ∷ stop ∷ closing ∷ []) (plain 0 2 (block 4 1 (plain 6 1 end) end))
two_statements =
    ended 0 0 (block 4 1 (plain 6 1 end) end) (word ∷ word ∷ []) stop (stop ∷ word ∷ opening ∷ word ∷ stop ∷ closing ∷ []) (λ e. cc) refl refl
    (skipped 0 3 (block 4 1 (plain 6 1 end) end) stop (word ∷ opening ∷ word ∷ stop ∷ closing ∷ []) refl
    (nested 0 4 (plain 6 1 end) end (word ∷ []) opening (word ∷ stop ∷ []) closing [] (omega arith) refl refl
    (ended 1 6 end (word ∷ []) stop [] (λ e. cc) refl refl (nothing 1 8)) refl (nothing 0 9)))

-- `{ }` is a block behind an empty head, and begins at its `{`
pub empty_head : Parses (opening ∷ closing ∷ []) (block 0 0 end end)
empty_head = nested 0 0 end end [] opening [] closing [] (omega arith) refl refl (nothing 1 1) refl (nothing 0 2)

-- `a` has a statement without an end
pub open_head : IsFault (word ∷ []) (OpenStatement 0)
open_head = inr (omega arith, (end, record { front = []; head = word ∷ []; spelled = refl; parses = nothing 0 0; are_head = refl; begins = refl }))

-- `a }` has a stray brace, behind the head too
pub stray : IsFault (word ∷ closing ∷ []) (StrayClose 1)
stray = record {
  front = word ∷ [];
  sign = closing;
  back = [];
  spelled = refl;
  is_it = refl;
  is_place = refl;
  before = (0, (end, record { front = []; head = word ∷ []; spelled = refl; parses = nothing 0 0; are_head = refl; begins = refl }));
}

-- `a { b` ends inside the block of the `{` with the index 1, in a head that begins at the index 2
inside_block : EndsInside (1 ∷ []) 2 (word ∷ opening ∷ word ∷ [])
inside_block = (
  omega arith,
  record {
    outer = word ∷ [];
    brace_token = opening;
    inner = word ∷ [];
    spelled = refl;
    opens = refl;
    place = refl;
    outer_first = 0;
    outside = (end, record { front = []; head = word ∷ []; spelled = refl; parses = nothing 0 0; are_head = refl; begins = refl });
    done = end;
    level = record { front = []; head = word ∷ []; spelled = refl; parses = nothing 1 2; are_head = refl; begins = refl };
  },
)

-- so its fault is that block
pub open_block : IsFault (word ∷ opening ∷ word ∷ []) (OpenBlock 1)
open_block = ([], 2, inside_block)

-- and `a { b }` has a statement without an end in the block
pub open_inside : IsFault (word ∷ opening ∷ word ∷ closing ∷ []) (OpenStatement 2)
open_inside = inl (
  3,
  record {
    front = word ∷ opening ∷ word ∷ [];
    sign = closing;
    back = [];
    spelled = refl;
    is_it = refl;
    is_place = refl;
    before = (omega arith, (1, [], inside_block));
  },
)

-- in `} a; b {` the `;` ends a statement outside all braces, and one brace is open at the end
pub stray_opens_nothing : open_braces (closing ∷ word ∷ stop ∷ word ∷ opening ∷ []) ≡ 1
stray_opens_nothing = refl

pub ends_outside : EndsStatement (closing ∷ word ∷ stop ∷ word ∷ opening ∷ []) 2
ends_outside = record { front = closing ∷ word ∷ []; token = stop; back = word ∷ opening ∷ []; spelled = refl; place = refl; ends = inl (refl, refl) }
