-- What the function `tier` of the tests answers.
-- Rule: extension functions (docs/RULES.md).
use Rattle.std.specs.Prelude.{◌≡◌, ℕ, List, [], ◌∷◌, Option, Some, None, if◌then◌else◌, codes}
use Rattle.std.specs.Option.{IfSome, option_map_or}
use Rattle.std.specs.Str.{bytes_eq}
use Rattle.cedar_expr_model.specs.Name.{Text, Name}
use Rattle.cedar_expr_model.specs.Names.{unqualified}
use Rattle.cedar_expr_model.specs.Table.{Called, gives, fails}
use Rattle.cedar_expr_model.specs.Value.{V, prim, text, extension}

-- the name of the function, of its extension and of the type that it gives
abbrev pub tier_name : Name
tier_name = unqualified (codes "tier")

-- the tiers that the tests write
abbrev pub tier_written : Text → Option ℕ
tier_written t = if bytes_eq t (codes "007") then Some 7 else if bytes_eq t (codes "7") then Some 7 else if bytes_eq t (codes "9") then Some 9 else if bytes_eq t (codes "10") then Some 10 else None

-- the tier that a single text writes
abbrev pub tier_number : List V → Option ℕ
tier_number (prim (text t) ∷ []) = tier_written t
tier_number vs = None

-- what is answered for that tier, and where there is none
abbrev pub tier_called : Option ℕ → Called
tier_called n = option_map_or (λ k. gives (extension tier_name (k ∷ []))) n (fails tier_name)

-- where there is an answer, it is this one
abbrev pub GivesTier : Option ℕ → Option Called → Type 0
GivesTier n o = IfSome o (λ c. c ≡ tier_called n)
