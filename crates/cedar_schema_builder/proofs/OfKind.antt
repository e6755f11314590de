-- The declarations of one kind that namespaces write, in which a test holds of one.
use Rattle.std.proofs.Common.{◌≡◌, Bool, List, map, refl, ap, ◌∙◌}
use Rattle.std.specs.List.{flat_map, list_any}
use Rattle.cedar_schema_model.specs.Declarations.{CommonDeclaration, EntityDeclaration, ActionDeclaration, Declarations}
use Rattle.cedar_schema_fragments.proofs.Anys.{any_alike, any_map, any_flat_map}
use Rattle.cedar_schema_fragments.specs.Written.{WrittenNamespace}
use Rattle.cedar_schema_fragments.specs.WrittenDeclarations.{common_declaration, entity_declaration, action_declaration, declared_in, declarations_of}

module _ (ws : List WrittenNamespace) where
  of_kind : {A B : Type 0} (q : B → Bool) (of : Declarations → List B) (make : WrittenNamespace → A → B) (from : WrittenNamespace → List A) → ((w : WrittenNamespace) → of (declared_in w) ≡ map (make w) (from w)) → list_any q (flat_map of (map declared_in ws)) ≡ list_any (λ w. list_any (λ x. q (make w x)) (from w)) ws
  of_kind q of make from is =
      any_flat_map q of declared_in ws
      ∙ any_alike (λ w. list_any q (of (declared_in w))) (λ w. list_any (λ x. q (make w x)) (from w)) (λ w. ap (list_any q) (is w) ∙ any_map q (make w) (from w)) ws

  pub of_commons : (q : CommonDeclaration → Bool) → list_any q (declarations_of ws).commons ≡ list_any (λ w. list_any (λ c. q (common_declaration w.namespace c)) w.commons) ws
  of_commons q = of_kind q (λ d. d.commons) (λ w. common_declaration w.namespace) (λ w. w.commons) (λ w. refl)

  pub of_entities : (q : EntityDeclaration → Bool) → list_any q (declarations_of ws).entities ≡ list_any (λ w. list_any (λ t. q (entity_declaration w.namespace t)) w.entities) ws
  of_entities q = of_kind q (λ d. d.entities) (λ w. entity_declaration w.namespace) (λ w. w.entities) (λ w. refl)

  pub of_actions : (q : ActionDeclaration → Bool) → list_any q (declarations_of ws).actions ≡ list_any (λ w. list_any (λ a. q (action_declaration w.namespace a)) w.actions) ws
  of_actions q = of_kind q (λ d. d.actions) (λ w. action_declaration w.namespace) (λ w. w.actions) (λ w. refl)
