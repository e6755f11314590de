-- The scope rules: one that is broken is a fault, and where none is the submission is clear of them.
use Rattle.std.proofs.Common.{◌≡◌, true, false, ◌&&◌, ◌∙◌}
use Rattle.std.specs.Prelude.{List}
use Rattle.std.specs.List.{list_all}
use Rattle.cedar_gate_accepted.specs.Handed.{IsSeenBy}
use Rattle.cedar_gate_accepted.specs.Untyped.{is_clear_of_all, scope_causes}
use Rattle.cedar_gate_accepted.proofs.Kept.{seen_alike}
use Rattle.cedar_gate_accepted.proofs.Refused.{schema_fault}
use Rattle.cedar_gate_model.specs.Acceptance.{Submission, unknown_entity_type, unknown_action, no_member, has_schema, HasFault}
use Rattle.cedar_schema_model.specs.Schema.{Schema}
use Rattle.cedar_store_model.specs.Policy.{Policy}
use Rattle.cedar_typechecker_model.specs.ScopeRules.{names_known_types, names_known_actions, names_known_members}
use Rattle.cedar_typechecker_model.specs.AlikeLaws.{KnownTypesAreAlike, KnownActionsAreAlike, KnownMembersAreAlike}

module _ (t : Schema) (ps : List Policy) (s : Submission) (w : IsSeenBy t ps s) where
  pub types_refused : KnownTypesAreAlike → has_schema s ≡ true → list_all (names_known_types t) ps ≡ false → HasFault unknown_entity_type s
  types_refused law k h = schema_fault s unknown_entity_type tt k (seen_alike names_known_types law t ps s w ∙ h)

  pub actions_refused : KnownActionsAreAlike → has_schema s ≡ true → list_all (names_known_actions t) ps ≡ false → HasFault unknown_action s
  actions_refused law k h = schema_fault s unknown_action tt k (seen_alike names_known_actions law t ps s w ∙ h)

  pub members_refused : KnownMembersAreAlike → has_schema s ≡ true → list_all (names_known_members t) ps ≡ false → HasFault no_member s
  members_refused law k h = schema_fault s no_member tt k (seen_alike names_known_members law t ps s w ∙ h)

  pub names_kept : KnownTypesAreAlike → KnownActionsAreAlike → KnownMembersAreAlike → list_all (names_known_types t) ps ≡ true → list_all (names_known_actions t) ps ≡ true → list_all (names_known_members t) ps ≡ true
      → is_clear_of_all scope_causes s ≡ true
  names_kept types actions members a b c = λ i.
      (seen_alike names_known_types types t ps s w ∙ a) i && ((seen_alike names_known_actions actions t ps s w ∙ b) i && ((seen_alike names_known_members members t ps s w ∙ c) i && true))
