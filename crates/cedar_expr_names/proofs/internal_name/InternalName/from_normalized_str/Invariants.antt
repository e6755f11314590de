use Rattle.std.proofs.Common.{◌≡◌, map, length}
use denote.Shadow.{shadow}
use denote.Text.{Utf8}
use Rattle.cedar_expr_model.specs.Name.{name_read}
use Rattle.cedar_expr_names.specs.Parts.{id_text}
use Rattle.cedar_expr_names.proofs.PartByPart.{read_from}
use Rattle.cedar_expr_names.proofs.internal_name.InternalName.from_normalized_str.Given as goal

abbrev pub invariant-loop-part : goal.invariant-loop-part
invariant-loop-part l = shadow (Utf8 l.rest) × (name_read l.text ≡ read_from (map id_text l.path.items) l.rest)

abbrev pub decreases-loop-part : goal.decreases-loop-part
decreases-loop-part l = length l.rest
