-- What is told of a fault is one, and a body has one answer.
use Rattle.std.proofs.Common.{◌≡◌, ◌⊎◌, ℕ, ◌+◌, List, take, Result, Ok, Err, MatchResult, refl, sym, ap, subst, ◌∙◌, inl, inr}
use Rattle.stil_ast.specs.Data.Refusal.{StilRefusal}
use Rattle.answers.specs.declared.short.Short.TheVariants.{NoMemory, Fault}
use Rattle.stil_lex.specs.declared.token.Token.{Token}
use Rattle.stil_tree.specs.Trees.{Trees}
use Rattle.stil_tree.specs.Blocks.{keyword_at}
use Rattle.stil_tree.proofs.Spots.{one_start}
use Rattle.stil_form.specs.declared.fault.FormKind.{FormKind}
use Rattle.stil_form.specs.declared.fault.FormFault.{FormFault}
use Rattle.stil_form.specs.declared.fault.FormFault.TheVariants.{Refused}
use Rattle.stil_ast.specs.declared.fault.StilKind.{StilKind}
use Rattle.stil_ast.specs.declared.fault.StilFault.{StilFault}
use Rattle.stil_ast.specs.Data.Written.{Written}
use Rattle.pat_read.specs.declared.reader.BodyPlace.{BodyPlace}
use Rattle.stil_form.specs.Setting.{Setting}
use Rattle.pat_read.specs.Body.{body_of}
use Rattle.pat_read.specs.Refusal.{IsTold, IsFaultOf, IsBodyFault, BodyAnswers, text_at, name_behind}

-- a fault of these parts
abbrev fault_by : StilKind → List ℕ → List ℕ → ℕ → StilFault
fault_by kind block name line = record { kind = kind; block = block; name = name; line = line }

pub same_fault : (k k' : StilKind) (b b' n n' : List ℕ) (l l' : ℕ) →
    k ≡ k' → b ≡ b' → n ≡ n' → l ≡ l' → fault_by k b n l ≡ fault_by k' b' n' l'
same_fault k k' b b' n n' l l' kind block name line =
    ap (λ v. fault_by v b n l) kind ∙ ap (λ v. fault_by k' v n l) block ∙ ap (λ v. fault_by k' b' v l) name ∙ ap (fault_by k' b' n') line

-- of one fault one thing is told
pub told_once : (bytes : List ℕ) (tokens : List Token) (kind : FormKind) (first : ℕ) (f g : StilFault) →
    IsTold bytes tokens kind first f → IsTold bytes tokens kind first g → f ≡ g
told_once bytes tokens kind first f g p q =
    let start = one_start (take (first + 1) tokens) p.is_block.start q.is_block.start p.is_block.begins q.is_block.begins in
    let found : p.found.0 ≡ q.found.0 = p.is_block.keyword ∙ (ap (keyword_at (take (first + 1) tokens)) start ∙ sym q.is_block.keyword) in
    same_fault f.kind g.kind f.block g.block f.name g.name f.line g.line (p.is_kind ∙ sym q.is_kind)
    (p.is_keyword ∙ (ap (text_at bytes tokens) found ∙ sym q.is_keyword))
    (p.is_name ∙ (ap (λ keyword. text_at bytes tokens (name_behind tokens keyword)) found ∙ sym q.is_name))
    (p.is_line ∙ sym q.is_line)

-- one fault of statements
told_of : (s : Setting) (kind kind' : FormKind) (first first' : ℕ) (f g : StilFault) →
    kind ≡ kind' → first ≡ first' → IsTold s.bytes s.tokens kind first f → IsTold s.bytes s.tokens kind' first' g → f ≡ g
told_of s kind kind' first first' f g same at p q =
    let P : FormKind → ℕ → Type 0 = λ k n. IsTold s.bytes s.tokens k n g in
    told_once s.bytes s.tokens kind first f g p (subst (λ (k : FormKind). P k first) (sym same) (subst (λ (n : ℕ). P kind' n) (sym at) q))

pub one_fault : (s : Setting) (here : BodyPlace) (stmts : Trees) (f g : StilFault) → IsFaultOf s here stmts f → IsFaultOf s here stmts g → f ≡ g
one_fault s here stmts f g p q =
    let both : ◌≡◌ {A = Result Written FormFault} (Err (Refused p.kind p.first)) (Err (Refused q.kind q.first)) = sym p.refused ∙ q.refused in
    let same : p.kind ≡ q.kind = cc in
    let at : p.first ≡ q.first = cc in
    told_of s p.kind q.kind p.first q.first f g same at p.told q.told

-- read and refused at once
not_both : (s : Setting) (here : BodyPlace) (stmts : Trees) (read : Written) (fault : StilFault) →
    body_of s here stmts ≡ Ok read → IsFaultOf s here stmts fault → ⊥
not_both s here stmts read fault is told = let refused = told.refused in cc

-- where there is a fault, it is the answer, or there is no memory
pub refused_once : (s : Setting) (here : BodyPlace) (stmts : Trees) (result : Result Written StilRefusal) (fault : StilRefusal) →
    BodyAnswers s here stmts result → IsBodyFault s here stmts fault → MatchResult result (λ _. ⊥) (λ e. (e ≡ NoMemory) ⊎ (e ≡ fault))
refused_once s here stmts result NoMemory answer is = absurd is
refused_once s here stmts (Ok read) (Fault fault) answer is = not_both s here stmts read fault answer is
refused_once s here stmts (Err NoMemory) (Fault fault) answer is = inl refl
refused_once s here stmts (Err (Fault told)) (Fault fault) answer is = inr (ap Fault (one_fault s here stmts told fault answer is))
