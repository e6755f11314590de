-- Entity types and actions as they are made of their declarations.
use Rattle.std.proofs.Common.{◌≡◌, List, [], Bool, true, refl, sym, ap, subst}
use Rattle.std.specs.Prelude.{Contains}
use Rattle.cedar_expr_model.specs.Name.{Name, Text}
use Rattle.cedar_expr_model.specs.Uid.{Uid}
use Rattle.cedar_expr_model.proofs.Lists.{contains_none}
use Rattle.cedar_schema_model.specs.Contexts.{is_record_type}
use Rattle.cedar_schema_decl.specs.Forms.{record_form, no_field_forms, enumerated_form}
use Rattle.cedar_schema_model.specs.Kept.{KeptType, Applied, KeptAction}
use Rattle.cedar_schema_model.specs.KeptOf.{IsSameKind}
use Rattle.cedar_schema_model.specs.Resolved.{attributes_of_record}
use Rattle.cedar_schema_model.specs.Schema.{enumerated}
use Rattle.cedar_schema_model.specs.Types.{Ty, record_type, no_attributes, is_closed}
use Rattle.cedar_schema_resolver.specs.Meanings.{Setting, told}
use Rattle.cedar_schema_resolver.specs.Refusals.{AreKnown}
use Rattle.cedar_schema_assembly.specs.Told.{kind_told, types_in}
use Rattle.cedar_schema_assembly.specs.Lists.{IsSetOf}
use Rattle.cedar_schema_assembly.specs.Made.{IsTypeMade, IsActionMade}
use Rattle.cedar_schema_assembly.specs.Seen.{WrittenType, WrittenAction}

-- an enumerated one
pub enumerated_made : (s : Setting) (e : WrittenType) (below : List Name) (t : KeptType) (name : Name) (ids ms : List Text) (ds : List Name)
    → t ≡ record { name = name; kind = enumerated ms; descendants = ds } → name ≡ e.0 → e.1 ≡ enumerated_form ids → IsSetOf ids ms → IsSetOf below ds → IsTypeMade s e below t
enumerated_made s e below t name ids ms ds q n f set des = subst (IsTypeMade s e below) (sym q) (record {
  same = record { name = n; kind = subst (λ k. IsSameKind (enumerated ms) (kind_told s k)) (sym f) (ids, refl, λ id. (set.only id, set.all id)) };
  descendants = des;
  known = record { each = λ u c. absurd (contains_none u (subst (λ k. Contains (types_in k) u) f c)) };
})

-- an action
pub action_made : (s : Setting) (a : WrittenAction) (below : List Uid) (k : KeptAction) (uid : Uid) (applied : Applied) (ps rs : List Name) (t : Ty) (x : Bool)
    → k ≡ record { uid = uid; applied = applied; context = t; is_external = x; descendants = below } → applied ≡ record { principals = ps; resources = rs }
    → uid ≡ a.0 → IsSetOf a.1.principals ps → IsSetOf a.1.resources rs → t ≡ record_type (attributes_of_record (told s a.1.context)) is_closed → x ≡ a.1.is_external
    → AreKnown s.extensions a.1.context → is_record_type (told s a.1.context) ≡ true → (Contains below a.0 → ⊥) → IsActionMade s a below k
action_made s a below k uid applied ps rs t x q w u p r c ext known rec apart =
    let ps_set = subst (IsSetOf a.1.principals) (sym (ap (λ (z : Applied). z.principals) w)) p in
    let rs_set = subst (IsSetOf a.1.resources) (sym (ap (λ (z : Applied). z.resources) w)) r in
    subst (IsActionMade s a below) (sym q) (record {
      same = record {
        uid = u;
        principals = λ n. (ps_set.only n, ps_set.all n);
        resources = λ n. (rs_set.only n, rs_set.all n);
        context = c;
        is_external = ext;
      };
      descendants = record { only = λ v h. h; all = λ v h. h };
      known = known;
      is_record = rec;
      apart = apart;
    })

-- one that is declared elsewhere
pub external_made : (s : Setting) (a : WrittenAction) (below : List Uid) (k : KeptAction) (uid : Uid)
    → k ≡ record { uid = uid; applied = record { principals = []; resources = [] }; context = record_type no_attributes is_closed; is_external = true; descendants = below }
    → uid ≡ a.0 → a.1.principals ≡ [] → a.1.resources ≡ [] → a.1.context ≡ record_form no_field_forms → a.1.is_external ≡ true → (Contains below a.0 → ⊥) → IsActionMade s a below k
external_made s a below k uid q u p r c x apart =
    action_made s a below k uid (record { principals = []; resources = [] }) [] [] (record_type no_attributes is_closed) true q refl u
    (subst (λ ns. IsSetOf ns []) (sym p) (record { only = λ n h. h; all = λ n h. h })) (subst (λ ns. IsSetOf ns []) (sym r) (record { only = λ n h. h; all = λ n h. h }))
    (ap (λ t. record_type (attributes_of_record (told s t)) is_closed) (sym c)) (sym x)
    (subst (AreKnown s.extensions) (sym c) (record { each = λ n h. absurd (contains_none n h) }))
    (ap (λ t. is_record_type (told s t)) c) apart
