-- What known bodies are, and their faults.
use Rattle.std.proofs.Common.{◌≡◌, ℕ, ◌+◌, [], ◌∷◌, None, Ok, Err, refl}
use Rattle.std.specs.Prelude.{codes}
use Rattle.text_bytes.specs.Bytes.{is_digit, begins_name, is_printable}
use Rattle.stil_lex.specs.declared.token.Token.{Token}
use Rattle.stil_lex.specs.declared.token.TokenKind.TheVariants as kind
use Rattle.stil_tree.specs.Trees.{Trees, end, plain, block}
use Rattle.stil_form.specs.declared.fault.FormFault.TheVariants.{Refused}
use Rattle.stil_form.specs.declared.fault.FormKind.TheVariants.{LeftOut}
use Rattle.stil_ast.specs.Meaning.Statements.{a_character}
use Rattle.stil_ast.specs.declared.body.Step.TheVariants as step
use Rattle.stil_ast.specs.declared.name.SigRef.TheVariants as ref
use Rattle.stil_ast.specs.Data.Written.{no_more, single, looped}
use Rattle.pat_read.specs.declared.reader.BodyPlace.TheVariants.{Pattern, Macro}
use Rattle.stil_form.specs.Setting.{Setting}
use Rattle.pat_read.specs.Body.{body_of}

-- a word or a sign on a line
abbrev word_on : ℕ → ℕ → ℕ → Token
word_on line start stop = record { kind = kind.Word; line = line; start = start; end = stop }

abbrev mark_on : ℕ → ℕ → ℕ → Token
mark_on line byte start = record { kind = kind.Sign byte; line = line; start = start; end = start + 1 }

-- `note { V; } Loop 2 { l: V { note; a=1; } } Stop;`, with `l:` on line 2, `V` on line 3 and `note` a word of UserKeywords
abbrev body : Setting
body = record {
  bytes = codes "note { V; } Loop 2 { l:|V { note; a=1; } } Stop;";
  tokens =
      word_on 1 0 4 ∷ mark_on 1 123 5 ∷ word_on 1 7 8 ∷ mark_on 1 59 8 ∷ mark_on 1 125 10 ∷ word_on 1 12 16 ∷
      word_on 1 17 18 ∷ mark_on 1 123 19 ∷ word_on 2 21 22 ∷ mark_on 2 58 22 ∷ word_on 3 24 25 ∷ mark_on 3 123 26 ∷
      word_on 3 28 32 ∷ mark_on 3 59 32 ∷ word_on 3 34 35 ∷ mark_on 3 61 35 ∷ word_on 3 36 37 ∷ mark_on 3 59 37 ∷
      mark_on 3 125 39 ∷ mark_on 3 125 41 ∷ word_on 3 43 47 ∷ mark_on 3 59 47 ∷ [];
  words = codes "note" ∷ [];
}

-- its statements
abbrev statements : Trees
statements = block 0 1 (plain 2 1 end) (block 5 2 (block 8 3 (plain 12 1 (plain 14 3 end)) end) (plain 20 1 end))

-- the statement at `l:` has that line; what begins with `note` is skipped at any place
pub it_is : body_of body Pattern statements
    ≡ Ok (looped 1 2 (single 2 (step.Vector
    (record { reference = ref.Name (record { name = codes "a"; range = None }); items = a_character 49 ∷ []; line = 3 } ∷ [])) no_more)
    (single 3 step.Stop no_more))
unfolding is_digit begins_name is_printable
it_is = refl

-- in a macro its `Stop` is left out
pub no_stop : body_of body Macro statements ≡ Err (Refused LeftOut 20)
unfolding is_digit begins_name is_printable
no_stop = refl

-- without the words the first statement is left out, before the rest
pub first_fault : body_of (record body { words = [] }) Macro statements ≡ Err (Refused LeftOut 0)
first_fault = refl
