use Rattle.std.proofs.Common.{◌∷◌, map, sym, ap, subst, inl, inr}
use Rattle.std.specs.Rc.{rc_str_bytes}
use Rattle.cedar_expr_names.specs.Views.{name_of, type_name_of}
use Rattle.cedar_schema_decl.proofs.Gathered.{handed}
use Rattle.cedar_schema_decl.specs.Definitions.{entity_form}
use Rattle.cedar_schema_entries.specs.Views.{entity_type_seen}
use Rattle.cedar_schema_resolver.specs.Meanings.{setting_of}
use Rattle.cedar_schema_assembly.specs.Told.{types_in}
use Rattle.cedar_schema_assembly.specs.Lists.{IsSetOf}
use Rattle.cedar_schema_assembly.specs.Refusals.{TellsAmong, TellsType}
use Rattle.cedar_schema_assembly.specs.Seen.{type_seen}
use Rattle.cedar_schema_assembly.proofs.Standing.{enumerated_made}
use Rattle.cedar_schema_assembly.proofs.Telling.{reserved_more, behind}
use Rattle.cedar_schema_assembly.proofs.type_entries.entity_type.Goals as goal

pub returns-in_err-below-clause-refused : goal.returns-in_err-below-clause-refused
returns-in_err-below-clause-refused c =
    let e = type_seen c.args.entry.now in
    let names = map name_of c.args.below.now.keys in
    handed (TellsType (setting_of c.args.resolver.now) e names) c.in_err-below.field-0.0 c.from_residual-in_err-below.result c.from_residual-in_err-below.ensures.1
    (inr (reserved_more names (e.0 ∷ names) c.in_err-below.field-0.0 (behind e.0 names) c.in_err-below.ensures.refused))

pub returns-in-Err-clause-refused : goal.returns-in-Err-clause-refused
returns-in-Err-clause-refused c = inl (subst (λ f. TellsAmong (setting_of c.args.resolver.now) (types_in (entity_form name_of f)) c.in-Err.error) (sym c.in-Standard.is) c.in-Err.ensures.refused)

pub returns-in_ok-entity_type-in-Enum-clause-made : goal.returns-in_ok-entity_type-in-Enum-clause-made
returns-in_ok-entity_type-in-Enum-clause-made c =
    let members = map rc_str_bytes c.in_ok-members-in-Enum.members.keys in
    enumerated_made (setting_of c.args.resolver.now) (type_seen c.args.entry.now) (map name_of c.args.below.now.keys) (entity_type_seen c.in_ok-entity_type-in-Enum.entity_type) (type_name_of c.in_ok-name.name) (rc_str_bytes c.in-Enum.ids.head ∷ map rc_str_bytes c.in-Enum.ids.tail.items) members (map type_name_of c.in_ok-below.below.keys)
    c.in_ok-entity_type-in-Enum.ensures.kept c.in_ok-name.ensures.made (ap (entity_form name_of) c.in-Enum.is)
    c.in_ok-members-in-Enum.ensures c.in_ok-below.ensures.made
