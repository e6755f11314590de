-- A completion of a scope completes it with other slots, without values, and with values that its unknowns mean.
use Rattle.std.proofs.Common.{refl}
use Rattle.std.specs.Prelude.{List, Option, Some, None}
use Rattle.std.specs.Map.{lookup}
use Rattle.std.specs.Str.{bytes_eq}
use Rattle.cedar_expr_model.specs.Name.{Text}
use Rattle.cedar_expr_model.specs.Uid.{Uid}
use Rattle.cedar_expr_model.specs.Value.{V}
use Rattle.cedar_expr_model.specs.Tree.{SlotId}
use Rattle.cedar_expr_model.specs.Made.{Made}
use Rattle.cedar_expr_model.specs.ValueParts.{Part, known, left}
use Rattle.cedar_store_model.specs.World.{World, Found, held, missing, not_loaded}
use Rattle.cedar_store_model.specs.Knowledge.{IsWhole}
use Rattle.cedar_evaluator_model.specs.Scope.{Scope, Entry, uid, unknown_uid, Context, closed, residual_fields, unknown_context}
use Rattle.cedar_evaluator_model.specs.OfLaws.WellMade.{AllMadeWell}
use Rattle.cedar_evaluator_model.specs.OfLaws.Completing.{EntryMeans, ContextMeans, PartMeans, PartsMean, FoundMeans, Completes}

module _ (w : World) (y : SlotId → Option Uid) where
  entry_at : (n : Text) (e : Entry) (o : Option Uid) → EntryMeans w n e o → EntryMeans (record w { slots = y }) n e o
  entry_at n (uid u) o h = h
  entry_at n (unknown_uid k) o h = h

  context_at : (c : Context) (o : Option V) → ContextMeans w c o → ContextMeans (record w { slots = y }) c o
  context_at (closed fs) o h = h
  context_at (residual_fields fs) o h = h
  context_at unknown_context o h = h

  part_at : (p : Option (Part Made)) (q : Option (Part V)) → PartMeans w p q → PartMeans (record w { slots = y }) p q
  part_at None q h = h
  part_at (Some (known m)) q h = h
  part_at (Some (left t)) q h = h

  parts_at : (ps : List (Text × Part Made)) (qs : List (Text × Part V)) → PartsMean w ps qs → PartsMean (record w { slots = y }) ps qs
  parts_at ps qs h a = part_at (lookup (bytes_eq a) ps) (lookup (bytes_eq a) qs) (h a)

  found_at : (u : Uid) (f : Found Made) (g : Found V) → FoundMeans w u f g → FoundMeans (record w { slots = y }) u f g
  found_at u (held e) g h =
      let d = h.0 in
      let k = h.2 in
      (d, h.1, record { attributes = parts_at e.attributes d.attributes k.attributes; tags = parts_at e.tags d.tags k.tags; ancestors = k.ancestors })
  found_at u missing g h = h
  found_at u not_loaded g h = h

  whole_at : IsWhole w → IsWhole (record w { slots = y })
  whole_at h = record { principal = h.principal; action = h.action; resource = h.resource; context = h.context; unknowns = h.unknowns; store = h.store }

  pub completes_at : (s : Scope) → Completes w s → Completes (record w { slots = y }) (record s { slots = y })
  completes_at s h =
      record {
        whole = whole_at h.whole;
        principal = entry_at _ s.principal w.principal h.principal;
        action = entry_at _ s.action w.action h.action;
        resource = entry_at _ s.resource w.resource h.resource;
        context = context_at s.context w.context h.context;
        slots = λ x. refl;
        unknowns = h.unknowns;
        table = h.table;
        store = λ u. found_at u (s.store u) (w.store u) (h.store u);
      }

pub completes_unbound : (w : World) (s : Scope) → Completes w s → Completes w (record s { values = λ n. None })
completes_unbound w s h =
    record {
      whole = h.whole;
      principal = h.principal;
      action = h.action;
      resource = h.resource;
      context = h.context;
      slots = h.slots;
      unknowns = λ n. tt;
      table = h.table;
      store = h.store;
    }

pub well_at : (s : Scope) (y : SlotId → Option Uid) → AllMadeWell s → AllMadeWell (record s { slots = y })
well_at s y h = record { context = h.context; values = h.values; store = h.store; calls = h.calls }

pub well_unbound : (s : Scope) → AllMadeWell s → AllMadeWell (record s { values = λ n. None })
well_unbound s h = record { context = h.context; values = λ n. tt; store = h.store; calls = h.calls }
