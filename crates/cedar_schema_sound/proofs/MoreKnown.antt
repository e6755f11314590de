-- What is as it has to be where some extension types are known is so where these and others are.
use Rattle.std.proofs.Common.{List, Option, Some, None}
use Rattle.std.specs.Prelude.{Contains}
use Rattle.cedar_expr_model.specs.Name.{Name}
use Rattle.cedar_schema_model.specs.Types.{Ty, never, bool_type, long_type, string_type, entity_types, any_entity, any_set, set_type, record_type, extension_type, Attributes, no_attributes, attribute}
use Rattle.cedar_schema_model.specs.Schema.{EntityKind, standard, enumerated, external}
use Rattle.cedar_schema_model.specs.Kept.{Kept}
use Rattle.cedar_schema_model.specs.Sound.{IsKnownType, AreKnownAttributes, IsKnownTag, IsKnownKind, IsSound}

module _ (x y : List Name) (more : (n : Name) → Contains x n → Contains y n) (k : Kept) where
  mutual
    type_known : (t : Ty) → IsKnownType x k t → IsKnownType y k t
    type_known never h = h
    type_known long_type h = h
    type_known string_type h = h
    type_known any_entity h = h
    type_known any_set h = h
    type_known (bool_type b) h = h
    type_known (entity_types ns) h = h
    type_known (set_type t) h = type_known t h
    type_known (record_type as_ o) h = attributes_known as_ h
    type_known (extension_type n) h = more n h

    attributes_known : (as_ : Attributes) → AreKnownAttributes x k as_ → AreKnownAttributes y k as_
    attributes_known no_attributes h = h
    attributes_known (attribute a t r as_) h = (type_known t h.0, attributes_known as_ h.1)

  tag_known : (o : Option Ty) → IsKnownTag x k o → IsKnownTag y k o
  tag_known None h = h
  tag_known (Some t) h = type_known t h

  kind_known : (e : EntityKind) → IsKnownKind x k e → IsKnownKind y k e
  kind_known (standard as_ t) h = (attributes_known as_ h.0, tag_known t h.1)
  kind_known (enumerated ids) h = h
  kind_known external h = h

  pub sound_known : IsSound x k → IsSound y k
  sound_known s = record {
    types = λ t h. let r = s.types t h in record { free = r.free; apart = r.apart; kind = kind_known t.kind r.kind; below = r.below; closed = r.closed };
    actions = λ a h.
        let r = s.actions a h in
        record { free = r.free; kind = r.kind; principals = r.principals; resources = r.resources; record_context = r.record_context; context = type_known a.context r.context; below = r.below; not_itself = r.not_itself; closed = r.closed };
  }
