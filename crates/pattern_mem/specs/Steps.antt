-- The kinds of step on the table of a pool: of the step, the seat before, the number found and the seat after.
use Rattle.std.specs.Prelude.{◌≡◌, ◌≢◌, ℕ, ◌+◌, true, false, [], ◌∷◌}
use Rattle.atomic_table.specs.Table.{Me, Step, rest}
use Rattle.pattern_mem.specs.Pool.{Pool, basis_of}
use Rattle.pattern_mem.specs.Rule.{opener_view, pass_view, as_opener, as_pass}
use Rattle.pattern_mem.specs.declared.view.Basis.{Basis}
use Rattle.pattern_mem.specs.declared.view.View.{View}
use Rattle.pattern_mem.specs.declared.view.View.TheVariants.{Opener, Pass}

-- a seat for a pool that is made of these, which holds no slot
abbrev pub IsPass : Me Pool View → Basis → Type 0
IsPass me basis = me ≡ (Pass (pass_view basis false), [])

-- a seat that holds the pool, which is made of these: it is over this code, and has as many frames
abbrev pub HoldsPool : Me Pool View → Basis → Type 0
HoldsPool me basis = (pool : Pool) × (me ≡ (Pass (pass_view basis true), (0, pool) ∷ [])) × (basis_of pool ≡ basis)

-- take and busy: where 0 is found the seat takes the pool, and else nothing changes
abbrev pub Takes : Step Pool → Me Pool View → ℕ → Me Pool View → Type 0
Takes st me found then = (found ≡ 0 → HoldsPool then (as_pass me.0).basis) × (found ≢ 0 → then ≡ me)

-- give: the seat gives the pool back
abbrev pub Gives : Step Pool → Me Pool View → ℕ → Me Pool View → Type 0
Gives st me found then = then ≡ (Pass (pass_view (as_pass me.0).basis false), rest me.1)

-- split: the opener has made one more pass
abbrev pub opener_after_making : View → View
opener_after_making v = let o = as_opener v in Opener (opener_view (o.made + 1) o.basis)

-- split: the new pass is for the opener's pool and doesn't hold it
abbrev pub pass_made : View → View
pass_made v = Pass (pass_view (as_opener v).basis false)
