-- When a world in which everything is known completes what an evaluation knows.
-- Rule: completions (docs/RULES.md).
use Rattle.std.specs.Prelude.{◌≡◌, List, Option, Some, None, option_map, codes, IfSome}
use Rattle.cedar_expr_model.specs.Name.{Text, Name}
use Rattle.cedar_expr_model.specs.Uid.{Uid, uid_text}
use Rattle.cedar_expr_model.specs.Value.{V, prim, entity, record_of, Fields}
use Rattle.cedar_expr_model.specs.Tree.{SlotId, record_literal}
use Rattle.cedar_expr_model.specs.Made.{Made, bare, bare_fields}
use Rattle.cedar_expr_model.specs.ValueParts.{Part, known, left}
use Rattle.cedar_store_model.specs.World.{World, Entity, Found, held, missing, not_loaded}
use Rattle.cedar_store_model.specs.Knowledge.{IsWhole}
use Rattle.cedar_store_model.specs.OfLaws.Extends.{Keeps}
use Rattle.cedar_evaluator_model.specs.Scope.{Scope, Entry, uid, unknown_uid, Context, closed, residual_fields, unknown_context}
use Rattle.std.specs.Map.{lookup}
use Rattle.std.specs.Str.{bytes_eq}
use Rattle.cedar_evaluator_model.specs.Completion.{PartIs}

-- the type of the uid, where it is known
abbrev pub IsOfKind : Option Name → Uid → Type 0
IsOfKind found u = IfSome found (λ k. u.kind ≡ k)

-- the unknown of this name means the uid
abbrev pub NameMeans : World → Text → Uid → Type 0
NameMeans w n u = w.unknowns n ≡ Some (prim (entity u))

-- A known entry keeps its uid. An unknown one is a uid of its type, which the unknown of the variable's name means as well.
abbrev pub EntryMeans : World → Text → Entry → Option Uid → Type 0
EntryMeans w n (uid u) o = o ≡ Some u
EntryMeans w n (unknown_uid k) o = (u : Uid) × (o ≡ Some u) × IsOfKind k u × NameMeans w n u

-- A context of values keeps them, one with residual fields is what its record means, and an unknown one is the record that the
-- unknown `context` means.
abbrev pub ContextMeans : World → Context → Option V → Type 0
ContextMeans w (closed fs) o = o ≡ Some (record_of (bare_fields fs))
ContextMeans w (residual_fields fs) o = (v : V) × (o ≡ Some v) × PartIs w (record_literal fs) v
ContextMeans w unknown_context o = (fs : Fields) × (o ≡ Some (record_of fs)) × (w.unknowns (codes "context") ≡ Some (record_of fs))

-- an attribute or tag: its value, or what its expression means, or it isn't there
abbrev pub PartMeans : World → Option (Part Made) → Option (Part V) → Type 0
PartMeans w None q = q ≡ None
PartMeans w (Some (known m)) q = q ≡ Some (known (bare m))
PartMeans w (Some (left t)) q = (v : V) × (q ≡ Some (known v)) × PartIs w t v

abbrev pub PartsMean : World → List (Text × Part Made) → List (Text × Part V) → Type 0
PartsMean w ps qs = (a : Text) → PartMeans w (lookup (bytes_eq a) ps) (lookup (bytes_eq a) qs)

-- the entity has the same ancestors, and its parts are what the known ones mean
pub record EntityMeans (w : World) (e : Entity Made) (d : Entity V) : Type 0 where
  pub attributes : PartsMean w e.attributes d.attributes
  pub tags : PartsMean w e.tags d.tags
  pub ancestors : d.ancestors ≡ e.ancestors

-- A held entity is held and a missing one is missing. One that isn't loaded may be anything; the unknown named by its uid's text
-- means the uid.
abbrev pub FoundMeans : World → Uid → Found Made → Found V → Type 0
FoundMeans w u (held e) f = (d : Entity V) × (f ≡ held d) × EntityMeans w e d
FoundMeans w u missing f = f ≡ missing
FoundMeans w u not_loaded f = NameMeans w (uid_text u) u

-- The world completes the scope: everything is known in it, and it is as the scope says.
pub record Completes (w : World) (s : Scope) : Type 0 where
  pub whole : IsWhole w
  pub principal : EntryMeans w (codes "principal") s.principal w.principal
  pub action : EntryMeans w (codes "action") s.action w.action
  pub resource : EntryMeans w (codes "resource") s.resource w.resource
  pub context : ContextMeans w s.context w.context
  pub slots : (x : SlotId) → w.slots x ≡ s.slots x
  pub unknowns : (n : Text) → Keeps (option_map bare (s.values n)) (w.unknowns n)
  pub table : w.table ≡ s.table
  pub store : (u : Uid) → FoundMeans w u (s.store u) (w.store u)
