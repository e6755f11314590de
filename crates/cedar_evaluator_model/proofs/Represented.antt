-- Values that a table represents are well made where their sets rise, and well made ones are represented.
use Rattle.std.proofs.Common.{◌≡◌, true, List, Option, Some, None}
use Rattle.std.specs.Prelude.{IfSome, option_and_then}
use Rattle.std.specs.Map.{lookup}
use Rattle.std.specs.Str.{bytes_eq}
use Rattle.cedar_expr_model.specs.Name.{Text}
use Rattle.cedar_expr_model.specs.Canonical.{is_canonical, are_canonical, have_canonical, are_rising}
use Rattle.cedar_expr_model.specs.Made.{Made, made_prim, made_set, made_record, made_extension, Mades, no_mades, made, MadeFields, no_made_fields, made_field, bare, bares, bare_fields}
use Rattle.cedar_expr_model.specs.OfLaws.Represented.{IsRepresented, AreMade, HaveMade}
use Rattle.cedar_expr_model.specs.Table.{Table}
use Rattle.cedar_expr_model.specs.Value.{Vs}
use Rattle.cedar_expr_model.specs.ValueParts.{Part, known_value}
use Rattle.cedar_expr_model.proofs.Lists.{both_hold}
use Rattle.cedar_expr_model.proofs.Sameness.{field_parts}
use Rattle.cedar_expr_model.specs.Uid.{Uid}
use Rattle.cedar_store_model.specs.World.{Entity, Found, held}
use Rattle.cedar_evaluator_model.specs.Scope.{Scope, Context, closed}
use Rattle.cedar_evaluator_model.specs.OfLaws.WellMade.{IsWellMade, IsPartMadeWell, IsContextMadeWell, IsFoundMadeWell, IsPartRepresented, IsContextRepresented, IsEntityRepresented, IsFoundRepresented, IsEntityCanonical, IsFoundCanonical, IsContextCanonical, AllMadeWell, AllRepresented, AllAreValues}

abbrev Any : Vs → Type 0
Any vs = Unit {0}

abbrev Rise : Vs → Type 0
Rise vs = are_rising vs ≡ true

module _ (x : Table) where
  mutual
    pub well_of_represented : (m : Made) → is_canonical (bare m) ≡ true → IsRepresented x m → IsWellMade x m
    well_of_represented (made_prim p) h r = tt
    well_of_represented (made_set ms) h r = let p = both_hold (are_rising (bares ms)) (are_canonical (bares ms)) h in (members_well ms p.1 r.0, p.0)
    well_of_represented (made_record fs) h r = fields_well fs h r
    well_of_represented (made_extension n k f ps) h r = r

    members_well : (ms : Mades) → are_canonical (bares ms) ≡ true → AreMade Any x ms → AreMade Rise x ms
    members_well no_mades h r = tt
    members_well (made m ms) h r = let p = both_hold (is_canonical (bare m)) (are_canonical (bares ms)) h in (well_of_represented m p.0 r.0, members_well ms p.1 r.1)

    fields_well : (fs : MadeFields) → have_canonical (bare_fields fs) ≡ true → HaveMade Any x fs → HaveMade Rise x fs
    fields_well no_made_fields h r = tt
    fields_well (made_field a m fs) h r = let p = field_parts a (bare m) (bare_fields fs) h in (well_of_represented m p.0 r.0, fields_well fs p.2 r.1)

  mutual
    pub represented_of_well : (m : Made) → IsWellMade x m → IsRepresented x m
    represented_of_well (made_prim p) r = tt
    represented_of_well (made_set ms) r = (members_represented ms r.0, tt)
    represented_of_well (made_record fs) r = fields_represented fs r
    represented_of_well (made_extension n k f ps) r = r

    members_represented : (ms : Mades) → AreMade Rise x ms → AreMade Any x ms
    members_represented no_mades r = tt
    members_represented (made m ms) r = (represented_of_well m r.0, members_represented ms r.1)

    fields_represented : (fs : MadeFields) → HaveMade Rise x fs → HaveMade Any x fs
    fields_represented no_made_fields r = tt
    fields_represented (made_field a m fs) r = (represented_of_well m r.0, fields_represented fs r.1)

  pub value_well : (o : Option Made) → IfSome o (λ m. is_canonical (bare m) ≡ true) → IfSome o (IsRepresented x) → IfSome o (IsWellMade x)
  value_well None h r = tt
  value_well (Some m) h r = well_of_represented m h r

  value_represented : (o : Option Made) → IfSome o (IsWellMade x) → IfSome o (IsRepresented x)
  value_represented None r = tt
  value_represented (Some m) r = represented_of_well m r

  pub entity_well : (e : Entity Made) → IsEntityCanonical e → IsEntityRepresented x e → IsFoundMadeWell x (held e)
  entity_well e h r a =
      (value_well (option_and_then known_value (lookup (bytes_eq a) e.attributes)) (h.attributes a) (r a).0, value_well (option_and_then known_value (lookup (bytes_eq a) e.tags)) (h.tags a) (r a).1)

  pub found_well : (f : Found Made) → IsFoundCanonical f → IsFoundRepresented x f → IsFoundMadeWell x f
  found_well (held e) h r = entity_well e h r
  found_well f h r = tt

  pub context_well : (c : Context) → IsContextCanonical c → IsContextRepresented x c → IsContextMadeWell x c
  context_well (closed fs) h r = well_of_represented (made_record fs) h r
  context_well c h r = tt

  pub entity_represented : (e : Entity Made) → IsFoundMadeWell x (held e) → IsEntityRepresented x e
  entity_represented e r a =
      (value_represented (option_and_then known_value (lookup (bytes_eq a) e.attributes)) (r a).0, value_represented (option_and_then known_value (lookup (bytes_eq a) e.tags)) (r a).1)

  pub context_represented : (c : Context) → IsContextMadeWell x c → IsContextRepresented x c
  context_represented (closed fs) r = represented_of_well (made_record fs) r
  context_represented c r = tt

pub all_well : (s : Scope) → AllAreValues s → AllRepresented s → AllMadeWell s
all_well s h r = record {
  context = context_well s.table s.context h.context r.context;
  values = λ n. value_well s.table (s.values n) (h.values n) (r.values n);
  store = λ u. found_well s.table (s.store u) (h.store u) (r.store u);
  calls = λ f ms m t e. well_of_represented s.table m (h.calls f ms m e) (r.calls f ms m t e);
}
