use Rattle.std.proofs.Common.{◌≡◌, Some, IfOk, option_map, ap, sym, ◌∙◌, subst}
use Rattle.cedar_schema_types.specs.Types.{type_of}
use Rattle.cedar_typechecker_environments.specs.Settings.{setting_of}
use Rattle.cedar_typechecker_environments.specs.Signatures.{signature_seen}
use Rattle.cedar_typechecker_rules.proofs.Signed.{call_is}
use Rattle.cedar_typechecker_rules.proofs.calls.call_type.Goals as goal

pub returns-in-Some : goal.returns-in-Some
returns-in-Some g c =
    subst (λ q. IfOk c.called_type.result (λ t. option_map type_of t ≡ q))
    (call_is (setting_of g.S.DeclaredAttributes.schema g.S.TypingSchema.table c.args.world.now) _ _ _ (Some (signature_seen c.in-Some.f)) (sym (ap (option_map signature_seen) c.in-Some.is) ∙ c.in_ok-f.ensures))
    c.called_type.ensures
