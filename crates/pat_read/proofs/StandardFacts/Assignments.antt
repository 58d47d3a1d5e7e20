-- What known assignments say.
use Rattle.std.proofs.Common.{◌≡◌, ℕ, List, [], ◌∷◌, Some, Result, Ok, Err, Bool, true, false, refl}
use Rattle.std.specs.Prelude.{codes}
use Rattle.text_bytes.specs.Bytes.{is_digit, begins_name, is_printable}
use Rattle.stil_lex.specs.declared.token.Token.{Token}
use Rattle.stil_lex.specs.declared.token.TokenKind.TheVariants as kind
use Rattle.stil_form.specs.declared.fault.FormKind.{FormKind}
use Rattle.stil_form.specs.declared.fault.FormKind.TheVariants.{Shape, LeftOut, OutOfRange}
use Rattle.stil_form.specs.Lexeme.{lexemes_of}
use Rattle.stil_ast.specs.Meaning.Statements.{a_character}
use Rattle.stil_ast.specs.declared.name.SigRef.TheVariants as ref
use Rattle.stil_ast.specs.declared.body.Assignment.{Assignment}
use Rattle.pat_read.specs.References.{assignment_of}
use Rattle.pat_read.proofs.StandardFacts.Spelled.{token, word, mark, backslash}

-- an assignment on the first line
abbrev said : List ℕ → Bool → List Token → Result Assignment FormKind
said bytes has_block tokens = assignment_of bytes tokens 1 has_block (lexemes_of bytes tokens)

-- `a[007]=1`: an index is a number
pub indexed : said (codes "a[007]=1") false (word 0 1 ∷ mark 91 1 ∷ word 2 5 ∷ mark 93 5 ∷ mark 61 6 ∷ word 7 8 ∷ [])
    ≡ Ok (record { reference = ref.Name (record { name = codes "a"; range = Some (record { first = 7; last = 7 }) }); items = a_character 49 ∷ []; line = 1 })
unfolding is_digit begins_name is_printable
indexed = refl

-- `'a+b'=` assigns nothing to a group
pub to_group : said (codes "'a+b'=") false (token kind.Text 0 5 ∷ mark 61 5 ∷ [])
    ≡ Ok (record { reference = ref.Group (record { text = codes "a+b"; line = 1 }); items = []; line = 1 })
to_group = refl

-- `a[4294967296]=1` and `a[4294967296]=x_y`: an index is judged behind the form, of which the data are a part
pub index_beyond : said (codes "a[4294967296]=1") false (word 0 1 ∷ mark 91 1 ∷ word 2 12 ∷ mark 93 12 ∷ mark 61 13 ∷ word 14 15 ∷ []) ≡ Err OutOfRange
unfolding is_digit begins_name is_printable
index_beyond = refl

pub data_first : said (codes "a[4294967296]=x_y") false (word 0 1 ∷ mark 91 1 ∷ word 2 12 ∷ mark 93 12 ∷ mark 61 13 ∷ word 14 17 ∷ []) ≡ Err Shape
unfolding is_digit begins_name is_printable
data_first = refl

-- `a=/h0 { }` and `a=x_y { }`, with a `\` for the `/`: a wrong end counts as the last token
pub end_last : said (codes "a=/h0") true (word 0 1 ∷ mark 61 1 ∷ backslash 2 ∷ word 3 5 ∷ []) ≡ Err LeftOut
unfolding is_digit begins_name is_printable
end_last = refl

pub shape_before_end : said (codes "a=x_y") true (word 0 1 ∷ mark 61 1 ∷ word 2 5 ∷ []) ≡ Err Shape
unfolding is_digit begins_name is_printable
shape_before_end = refl

pub wrong_end : said (codes "a=1") true (word 0 1 ∷ mark 61 1 ∷ word 2 3 ∷ []) ≡ Err Shape
unfolding is_digit begins_name is_printable
wrong_end = refl

-- `a /h0`, without a `=`, has no form
pub no_equals : said (codes "a /h0") false (word 0 1 ∷ backslash 2 ∷ word 3 5 ∷ []) ≡ Err Shape
unfolding is_digit begins_name is_printable
no_equals = refl
