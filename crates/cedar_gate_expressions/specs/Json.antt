-- The JSON of a whole input.
-- Rule: what a bundle reads as (docs/RULES.md).
use Rattle.std.specs.Prelude.{ℕ, List, Option}
use Rattle.std.specs.Str.{is_utf8}
use Rattle.serde_json.specs.Data.{Data}
use Rattle.serde_json.specs.Read.{read}
use Rattle.cedar_expr_model.specs.Lists.{when}

unfoldable pub json_read : List ℕ → Option Data
json_read bytes = when (is_utf8 bytes) (read bytes)
