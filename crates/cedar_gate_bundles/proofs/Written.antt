-- The values that are read are as they are written, where the calls make such values.
use Rattle.std.proofs.Common.{◌≡◌, ◌∙◌, true, false, List, [], ◌∷◌, map, Some, None, codes, refl, sym, ap, subst, ⊎_elim, if◌then◌else◌}
use Rattle.std.specs.Map.{lookup}
use Rattle.std.specs.Option.{option_or}
use Rattle.std.specs.Str.{bytes_eq}
use Rattle.serde_json.specs.Data.{Data, Items, no_items, item, Members, no_members, member}
use Rattle.serde_json.specs.Find.{get, as_array, as_str, as_object}
use Rattle.cedar_expr_model.specs.Name.{Text}
use Rattle.cedar_expr_model.specs.Uid.{Uid}
use Rattle.cedar_expr_model.specs.Made.{Made, made_record, no_made_fields}
use Rattle.cedar_expr_model.specs.Restricted.{is_restricted, offence}
use Rattle.cedar_expr_model.specs.Tree.{record_literal}
use Rattle.cedar_expr_model.specs.ValueParts.{known}
use Rattle.cedar_store_model.specs.World as world
use Rattle.cedar_store_model.specs.World.{held}
use Rattle.cedar_evaluator_model.specs.Reauthorize.{context_from}
use Rattle.cedar_evaluator_model.specs.Response.{PartialRequest}
use Rattle.cedar_evaluator_model.specs.Scope.{Context, closed, residual_fields, unknown_context, Left, value_left, residual, stopped}
use Rattle.cedar_evaluator_model.specs.OfLaws.WellMade.{IsWellMade, IsPartMadeWell, IsFoundMadeWell, IsContextMadeWell}
use Rattle.cedar_gate_model.specs.Reading.{given, required, optional, has_only, each, list_of, each_member, members_of}
use Rattle.cedar_evaluator_model.specs.Functions.{Functions, with_functions, left_of_restricted}
use Rattle.cedar_gate_model.specs.ReadingExpression.{second, expression_read, fields_read}
use Rattle.cedar_gate_model.specs.ReadingForms.{if_passing, word_of}
use Rattle.cedar_gate_model.specs.ReadingName.{uid_read}
use Rattle.cedar_gate_model.specs.ReadingRequest.{entry_read, request_read}
use Rattle.cedar_gate_model.specs.ReadingValue.{if_value, value_read, fields_context_read, context_read}
use Rattle.cedar_gate_model.specs.RunsAnswer.{MakeFairly}
use Rattle.cedar_gate_model.proofs.Reading.Bundles.{there_has}
use Rattle.cedar_gate_model.proofs.Reading.Steps.{given_some, map_some, passing_some, beside_all, given_gives, map_gives, if_gives}
use Rattle.cedar_evaluator_model.proofs.Restricted.{none_is}
use Rattle.cedar_gate_model.proofs.Reading.Values.{first_some}
use Rattle.cedar_gate_model.proofs.Runs.WellMade.{makes_well, evaluated_well}
use Rattle.cedar_gate_expressions.specs.Maps.{under_text}
use Rattle.cedar_gate_bundles.specs.Written.{known_made, entity_read_made, AreWritten}

module _ (x : Functions) (fair : MakeFairly x) where
  -- values
  value_left_is : (l : Left) (m : Made) → if_value l ≡ Some m → l ≡ value_left m
  value_left_is (value_left k) m e = let q : k ≡ m = cc in ap value_left q
  value_left_is (residual r) m e = cc
  value_left_is (stopped why) m e = cc

  value_well : (d : Data) (m : Made) → value_read x d ≡ Some m → IsWellMade x.table m
  value_well d m e =
      let p = given_some (given (expression_read second d) (if_passing is_restricted)) (λ t. if_value (left_of_restricted x t)) m e in
      let q = given_some (expression_read second d) (if_passing is_restricted) p.0 p.1 in
      let r = passing_some is_restricted q.0 p.0 q.2 in
      evaluated_well (with_functions x) (λ n. refl) (makes_well x fair) 512 p.0 (none_is (offence p.0) (ap is_restricted r.1 ∙ r.0)) m (value_left_is (left_of_restricted x p.0) m p.2)

  -- contexts
  context_left_well : (l : Left) → ((m : Made) → l ≡ value_left m → IsWellMade x.table m) → (c : Context) → context_from l ≡ Some c → IsContextMadeWell x.table c
  context_left_well (value_left (made_record fs)) h c e = let q : closed fs ≡ c = cc in subst (IsContextMadeWell x.table) q (h (made_record fs) refl)
  context_left_well (residual (record_literal fs)) h c e = let q : residual_fields fs ≡ c = cc in subst (IsContextMadeWell x.table) q tt
  context_left_well l h c e = cc

  fields_well : (d : Data) (c : Context) → fields_context_read x d ≡ Some c → IsContextMadeWell x.table c
  fields_well d c e =
      let p = given_some (given (fields_read second d) (λ gs. if_passing is_restricted (record_literal gs))) (λ t. context_from (left_of_restricted x t)) c e in
      let q = given_some (fields_read second d) (λ gs. if_passing is_restricted (record_literal gs)) p.0 p.1 in
      let r = passing_some is_restricted (record_literal q.0) p.0 q.2 in
      context_left_well (left_of_restricted x p.0) (evaluated_well (with_functions x) (λ n. refl) (makes_well x fair) 512 p.0 (none_is (offence p.0) (ap is_restricted r.1 ∙ r.0))) c p.2

  abbrev unknown_word : List (Text × Context)
  unknown_word = (codes "unknown", unknown_context) ∷ []

  word_well : (d : Data) (c : Context) → word_of unknown_word d ≡ Some c → IsContextMadeWell x.table c
  word_well d c e =
      let p = given_some (as_str d) (λ word. lookup (bytes_eq word) unknown_word) c e in
      beside_all (IsContextMadeWell x.table) p.0 unknown_word ((λ h. tt), tt) c p.2

  context_well : (d : Data) (c : Context) → context_read x d ≡ Some c → IsContextMadeWell x.table c
  context_well d c e =
      ⊎_elim (word_well d c) (λ h. ⊎_elim (fields_well d c) (λ k. cc) (first_some (fields_context_read x d) None c h))
      (first_some (word_of unknown_word d) (option_or (fields_context_read x d) None) c e)

  abbrev WellRequest : PartialRequest → Type 0
  WellRequest r = IsContextMadeWell x.table r.context

  request_well : (d : Data) (r : PartialRequest) → request_read x d ≡ Some r → IsContextMadeWell x.table r.context
  request_well d = if_gives WellRequest (has_only (codes "principal" ∷ codes "action" ∷ codes "resource" ∷ codes "context" ∷ []) d) _ (λ _. given_gives WellRequest (required (codes "principal") entry_read d) _ (λ principal p.
      given_gives WellRequest (required (codes "action") entry_read d) _ (λ action q.
      given_gives WellRequest (required (codes "resource") entry_read d) _ (λ resource r.
      map_gives WellRequest _ (optional (codes "context") (context_read x) (closed no_made_fields) d)
      (λ context t. there_has (IsContextMadeWell x.table) (context_read x) (closed no_made_fields) tt context_well (get (codes "context") d) context t)))))

  pub asked_well : (d : Data) (r : PartialRequest) → required (codes "request") (request_read x) d ≡ Some r → IsContextMadeWell x.table r.context
  asked_well d r e = let p = given_some (get (codes "request") d) (request_read x) r e in request_well p.0 r p.2

  -- attributes and tags
  abbrev AllWell : List (Text × Made) → Type 0
  AllWell [] = Unit {0}
  AllWell (p ∷ ps) = IsWellMade x.table p.1 × AllWell ps

  part_well : (ps : List (Text × Made)) → AllWell ps → (a : Text) → IsPartMadeWell x.table (lookup (bytes_eq a) (map known_made ps))
  part_well [] h a = tt
  part_well (p ∷ ps) h a =
      elim (bytes_eq a p.0) as (λ c. IsPartMadeWell x.table (if c then Some (known p.1) else lookup (bytes_eq a) (map known_made ps)))
      [ true ↦ h.0 | false ↦ part_well ps h.1 a ]

  members_well : (ms : Members) (ps : List (Text × Made)) → each_member (under_text (value_read x)) ms ≡ Some ps → AllWell ps
  members_well no_members ps e = let q : [] ≡ ps = cc in subst AllWell q tt
  members_well (member k d ms) ps e =
      let p = given_some (under_text (value_read x) k d) _ ps e in
      let m = map_some (λ v. (k, v)) (value_read x d) p.0 p.1 in
      let q = map_some (λ more. p.0 ∷ more) (each_member (under_text (value_read x)) ms) ps p.2 in
      subst AllWell (sym q.2) (subst (λ (r : Text × Made). IsWellMade x.table r.1) (sym m.2) (value_well d m.0 m.1), members_well ms q.0 q.1)

  object_well : (d : Data) (ps : List (Text × Made)) → members_of (under_text (value_read x)) d ≡ Some ps → AllWell ps
  object_well d ps e = let p = given_some (as_object d) (each_member (under_text (value_read x))) ps e in members_well p.0 ps p.2

  -- entities
  abbrev FoundWell : Uid × world.Entity Made → Type 0
  FoundWell e = IsFoundMadeWell x.table (held e.1)

  entity_well : (d : Data) (e : Uid × world.Entity Made) → entity_read_made x d ≡ Some e → FoundWell e
  entity_well d = if_gives FoundWell (has_only (codes "uid" ∷ codes "attrs" ∷ codes "tags" ∷ codes "ancestors" ∷ []) d) _ (λ _. given_gives FoundWell (required (codes "uid") uid_read d) _ (λ u p.
      given_gives FoundWell (optional (codes "attrs") (members_of (under_text (value_read x))) [] d) _ (λ attributes q.
      given_gives FoundWell (optional (codes "tags") (members_of (under_text (value_read x))) [] d) _ (λ tags r.
      map_gives FoundWell _ (optional (codes "ancestors") (list_of uid_read) [] d) (λ ancestors t a. (
        part_well attributes (there_has AllWell (members_of (under_text (value_read x))) [] tt object_well (get (codes "attrs") d) attributes q) a,
        part_well tags (there_has AllWell (members_of (under_text (value_read x))) [] tt object_well (get (codes "tags") d) tags r) a,
      ))))))

  each_well : (ds : Items) (es : List (Uid × world.Entity Made)) → each (entity_read_made x) ds ≡ Some es → AreWritten x.table es
  each_well no_items es e = let q : [] ≡ es = cc in subst (AreWritten x.table) q tt
  each_well (item d ds) es e =
      let p = given_some (entity_read_made x d) _ es e in
      let q = map_some (λ more. p.0 ∷ more) (each (entity_read_made x) ds) es p.2 in
      subst (AreWritten x.table) (sym q.2) (entity_well d p.0 p.1, each_well ds q.0 q.1)

  pub list_well : (d : Data) (es : List (Uid × world.Entity Made)) → list_of (entity_read_made x) d ≡ Some es → AreWritten x.table es
  list_well d es e = let p = given_some (as_array d) (each (entity_read_made x)) es e in each_well p.0 es p.2
