-- A store is a map, and a partial one knows less than each whole store that has its entities, be they finished there.
use Rattle.std.proofs.Common.{◌≡◌, Bool, true, false, cond, refl, sym, ap, subst}
use Rattle.std.specs.Prelude.{List, Option, Some, None}
use Rattle.std.specs.List.{list_any}
use Rattle.std.specs.Map.{lookup}
use Rattle.std.specs.Str.{bytes_eq}
use Rattle.cedar_expr_model.specs.Name.{Text}
use Rattle.cedar_expr_model.specs.Uid.{Uid, uid_eq}
use Rattle.cedar_expr_model.specs.Table.{Table}
use Rattle.cedar_expr_model.specs.Uids.{is_uid}
use Rattle.cedar_expr_model.specs.Value.{V}
use Rattle.cedar_expr_model.specs.ValueParts.{Part, known, left}
use Rattle.cedar_store_model.specs.World.{Entity, Found, missing}
use Rattle.cedar_store_model.specs.OfLaws.Extends.{Keeps, KeepsPart, KeepsEntity, KeepsFound, Extends}
use Rattle.cedar_store_model.specs.Store as model
use Rattle.cedar_store_model.specs.Store.{Extent, whole, partial, all_of, some_of, found_as, are_distinct, OpenRequest, world_of}
use Rattle.cedar_store_model.specs.StoreLaws.{KeepsRequest, NoneStands}
use Rattle.cedar_store_model.proofs.Stores.{found_stands, stands_found, lacked, whole_extends_partial}
use Rattle.cedar_store_entities.specs.StoreLaws.{StoresAreMaps, PartialIsLess, AreFinishedIn, PartsAreFinished, UnfinishedIsLess}
use Rattle.cedar_store_entities.specs.Stores.{entities_kept, store_seen}
use Rattle.cedar_store_entities.specs.Uids.{uids_in}
use Rattle.cedar_store_entities.proofs.Gathered.{apart_entities}

pub maps : StoresAreMaps
maps s = apart_entities (entities_kept s) (uids_in s.uids) s.named s.uids.apart

pub less : PartialIsLess
less table m n q r s all x hn hr part none distinct =
    subst (λ y. Extends (world_of table m q (record (store_seen s) { extent = y })) (world_of table n r (all_of all))) (sym x)
    (whole_extends_partial table m n q r (store_seen s).entities all (store_seen s).absent hn hr part none distinct)

-- an entity keeps itself
keeps_itself : (o : Option (Part V)) → KeepsPart o o
keeps_itself None = refl
keeps_itself (Some (known v)) = refl
keeps_itself (Some (left t)) = refl

entity_keeps : (e : Entity V) → KeepsEntity e e
entity_keeps e = record { attributes = λ a. keeps_itself (lookup (bytes_eq a) e.attributes); tags = λ a. keeps_itself (lookup (bytes_eq a) e.tags); ancestors = refl }

pub parts_finished : PartsAreFinished
parts_finished es ds part u e h = (e, part (u, e) h, entity_keeps e)

-- what is found is kept where it is finished
finished : (a : Bool) (o p : Option (Entity V)) → ((e : Entity V) → o ≡ Some e → (d : Entity V) × (p ≡ Some d) × KeepsEntity e d) → (a ≡ true → p ≡ None) → KeepsFound (found_as (cond a whole partial) o) (found_as whole p)
finished true None p h k = ap (found_as whole) (k refl)
finished false None p h k = tt
finished a (Some e) p h k = let f = h e refl in (f.0, ap (found_as whole) f.1, f.2)

if_uid_keeps : (b : Bool) (f g : Found V) → KeepsFound f g → KeepsFound (cond b f missing) (cond b g missing)
if_uid_keeps true f g h = h
if_uid_keeps false f g h = refl

module _ (loaded all : model.Entities) (absent : List Uid) (there : AreFinishedIn loaded all) (none : NoneStands absent all) (distinct : are_distinct all ≡ true) where
  found_there : (u : Uid) (e : Entity V) → lookup (uid_eq u) loaded ≡ Some e → (d : Entity V) × (lookup (uid_eq u) all ≡ Some d) × KeepsEntity e d
  found_there u e h = let k = there u e (found_stands loaded u e h) in (k.0, stands_found all distinct u k.0 k.1, k.2)

  whole_finishes : (table : Table) (m n : Text → Option V) (q r : OpenRequest) → ((x : Text) → Keeps (m x) (n x)) → KeepsRequest q r
      → Extends (world_of table m q (some_of loaded absent)) (world_of table n r (all_of all))
  whole_finishes table m n q r hn hr = record {
    principal = hr.principal;
    action = hr.action;
    resource = hr.resource;
    context = hr.context;
    slots = λ s. refl;
    unknowns = hn;
    table = refl;
    store = λ u.
        let is_absent = list_any (uid_eq u) absent in
        if_uid_keeps (is_uid u) (found_as (cond is_absent whole partial) (lookup (uid_eq u) loaded)) (found_as whole (lookup (uid_eq u) all))
        (finished is_absent (lookup (uid_eq u) loaded) (lookup (uid_eq u) all) (found_there u) (lacked absent all none u));
  }

pub unfinished_less : UnfinishedIsLess
unfinished_less table m n q r s all x hn hr there none distinct =
    subst (λ (y : Extent). Extends (world_of table m q (record (store_seen s) { extent = y })) (world_of table n r (all_of all))) (sym x)
    (whole_finishes (store_seen s).entities all (store_seen s).absent there none distinct table m n q r hn hr)
