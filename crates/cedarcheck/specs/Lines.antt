-- The lines of refusals.
-- Rule: statuses and refusal numbers (docs/RULES.md).
use Rattle.std.specs.Prelude.{◌≡◌, ◌++◌, ◌∷◌, [], ℕ, List, codes}
use Rattle.std.specs.Fmt.{decimal}
use Rattle.cedar_expr_model.specs.Name.{Text}
use Rattle.cedar_gate_model.specs.Lines.{line}

-- the line of a refusal by this number, with these words behind it
abbrev pub refusal_line : ℕ → Text → Text
refusal_line n words = line (codes "refused " ++ (decimal n ++ (32 ∷ words)))

-- The line of a refusal by this number was appended, whatever its words are.
abbrev pub AddsRefusal : ℕ → Text → Text → Type 0
AddsRefusal n old new = (words : Text) × (new ≡ old ++ refusal_line n words)

-- The text has the lines of refusals by these numbers, and nothing else.
abbrev pub AreRefusals : List ℕ → Text → Type 0
AreRefusals [] text = text ≡ []
AreRefusals (n ∷ ns) text = (words : Text) × (rest : Text) × (text ≡ refusal_line n words ++ rest) × AreRefusals ns rest
