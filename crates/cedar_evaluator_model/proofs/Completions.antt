-- A completion knows all that the scope knows as values.
use Rattle.std.proofs.Common.{List, sym, subst, ap, is_some}
use Rattle.std.specs.Prelude.{Option, Some, None, option_map}
use Rattle.cedar_expr_model.specs.Name.{Text}
use Rattle.cedar_expr_model.specs.Uid.{Uid}
use Rattle.cedar_expr_model.specs.Value.{V}
use Rattle.cedar_expr_model.specs.Made.{Made}
use Rattle.cedar_expr_model.specs.ValueParts.{Part, known, left}
use Rattle.cedar_store_model.specs.World.{World, Found, held, missing, not_loaded}
use Rattle.cedar_store_model.specs.OfLaws.Extends.{Keeps, KeepsPart, KeepsParts, KeepsFound, Extends}
use Rattle.cedar_evaluator_model.specs.Scope.{Scope, Entry, uid, unknown_uid, Context, closed, residual_fields, unknown_context}
use Rattle.cedar_evaluator_model.specs.Known.{known_entry, known_context, known_part, known_parts, known_found, known_world}
use Rattle.cedar_evaluator_model.specs.OfLaws.Completing.{EntryMeans, ContextMeans, PartMeans, PartsMean, FoundMeans, Completes}
use Rattle.cedar_evaluator_model.proofs.GivenReads.{named_known}
use Rattle.std.specs.Map.{lookup}
use Rattle.std.specs.Str.{bytes_eq}

entry_keeps : (w : World) (n : Text) (e : Entry) (o : Option Uid) → EntryMeans w n e o → Keeps (known_entry e) o
entry_keeps w n (uid u) o h = h
entry_keeps w n (unknown_uid k) o h = tt

context_keeps : (w : World) (c : Context) (o : Option V) → ContextMeans w c o → Keeps (known_context c) o
context_keeps w (closed fs) o h = h
context_keeps w (residual_fields fs) o h = tt
context_keeps w unknown_context o h = tt

part_keeps : (w : World) (p : Option (Part Made)) (q : Option (Part V)) → PartMeans w p q → KeepsPart (option_map known_part p) q
part_keeps w None q h = h
part_keeps w (Some (known m)) q h = h
part_keeps w (Some (left t)) q h = ap is_some h.1

parts_keep : (w : World) (ps : List (Text × Part Made)) (qs : List (Text × Part V)) → PartsMean w ps qs → KeepsParts (known_parts ps) qs
parts_keep w ps qs h a = subst (λ o. KeepsPart o (lookup (bytes_eq a) qs)) (sym (named_known a ps)) (part_keeps w (lookup (bytes_eq a) ps) (lookup (bytes_eq a) qs) (h a))

found_keeps : (w : World) (u : Uid) (f : Found Made) (g : Found V) → FoundMeans w u f g → KeepsFound (known_found f) g
found_keeps w u (held e) g h =
    let d = h.0 in
    let k = h.2 in
    (d, h.1, record { attributes = parts_keep w e.attributes d.attributes k.attributes; tags = parts_keep w e.tags d.tags k.tags; ancestors = k.ancestors })
found_keeps w u missing g h = h
found_keeps w u not_loaded g h = tt

pub completions_extend : (w : World) (s : Scope) → Completes w s → Extends (known_world s) w
completions_extend w s h =
    record {
      principal = entry_keeps w _ s.principal w.principal h.principal;
      action = entry_keeps w _ s.action w.action h.action;
      resource = entry_keeps w _ s.resource w.resource h.resource;
      context = context_keeps w s.context w.context h.context;
      slots = h.slots;
      unknowns = h.unknowns;
      table = h.table;
      store = λ u. found_keeps w u (s.store u) (w.store u) (h.store u);
    }
