-- Attributes that are read one after the other.
use Rattle.std.proofs.Common.{◌≡◌, ◌++◌, List, [], ◌∷◌, map, Bool, true, Result, Ok, Err, IfErr, refl, sym, ap, ◌∙◌, subst, append_assoc, append-nil}
use Rattle.std.proofs.lemmas.List.{map-append}
use Rattle.std.specs.List.Sorted.{IsStrictlySortedBy}
use Rattle.std.specs.Map.{keys_of}
use Rattle.std.specs.Result.{IsErrAnd}
use Rattle.std.specs.Rc.{rc_str_bytes}
use Rattle.std.specs.declared.alloc.Global.{Global}
use Rattle.std.specs.declared.rc.RcStr.{RcStr}
use Rattle.cedar_expr_model.specs.Name.{Text}
use Rattle.cedar_expr_model.specs.Lists.{rises}
use Rattle.cedar_expr_model.specs.Order.{text_cmp}
use Rattle.cedar_expr_model.specs.Records.{names_rise}
use Rattle.cedar_schema_types.specs.Types.{attributes_of, attribute_of, entries_of}
use Rattle.cedar_schema_types.specs.AttributeLists.{attributes_from, declared_pairs}
use Rattle.cedar_schema_types.specs.declared.types.Attributes.{Attributes}
use Rattle.cedar_schema_types.specs.declared.types.AttributeType.{AttributeType}
use Rattle.cedar_schema_types.proofs.Entries.{attributes_are}
use Rattle.cedar_schema_types.proofs.InOrder.{entries_rise}
use Rattle.cedar_schema_types.specs.CoreTypes.{CoreType, CoreAttributes, no_core_attributes, core_attribute, CoreDeclared, core_attributes_from, Unreadable, read_then, core_read, core_attributes_read, core_declared_read}
use Rattle.cedar_schema_types.specs.Refusals.{Refuses}
use Rattle.cedar_schema_types.specs.declared.err.CoreTypeError.{CoreTypeError}

abbrev Pairs : Type 0
Pairs = List (Text × CoreDeclared)

abbrev Entries : Type 0
Entries = List (RcStr Global × AttributeType)

-- attributes with these before them
abbrev in_front : Pairs → CoreAttributes → CoreAttributes
in_front [] cs = cs
in_front (p ∷ ps) cs = core_attribute p.0 p.1.type p.1.required (in_front ps cs)

in_front_one : (ps : Pairs) (p : Text × CoreDeclared) (cs : CoreAttributes) → in_front (ps ++ p ∷ []) cs ≡ in_front ps (core_attribute p.0 p.1.type p.1.required cs)
in_front_one [] p cs = refl
in_front_one (q ∷ ps) p cs = ap (core_attribute q.0 q.1.type q.1.required) (in_front_one ps p cs)

in_front_none : (ps : Pairs) → in_front ps no_core_attributes ≡ core_attributes_from ps
in_front_none [] = refl
in_front_none (p ∷ ps) = ap (core_attribute p.0 p.1.type p.1.required) (in_front_none ps)

-- what was read, before what comes of the rest
abbrev read_on : Pairs → Entries → Result CoreAttributes Unreadable
read_on ps es = read_then (λ cs. Ok (in_front ps cs)) (core_attributes_read (attributes_from (declared_pairs es)))

abbrev texts : {A : Type 0} → List (Text × A) → List Text
texts ps = map (λ p. p.0) ps

-- What was read and what is left are the whole, under the same names.
pub record IsReading (all : Entries) (made : Pairs) (rest : Entries) : Type 0 where
  pub whole : read_on made rest ≡ core_attributes_read (attributes_from (declared_pairs all))
  pub names : (texts made ++ texts (declared_pairs rest)) ≡ texts (declared_pairs all)

-- a refusal that is handed on
pub handed : {X : Type 0} (P : CoreTypeError → Type 0) (e : CoreTypeError) (r : Result X CoreTypeError) → IsErrAnd r (λ y. y ≡ e) → P e → IfErr r P
handed P e (Ok x) same p = tt
handed P e (Err y) same p = subst P (sym same) p

one_more : (a : Text) (r : Bool) (o : Result CoreType Unreadable) (c : CoreDeclared) → read_then (λ t. Ok (record { type = t; required = r })) o ≡ Ok c → (ps : Pairs) (q : Result CoreAttributes Unreadable)
    → read_then (λ cs. Ok (in_front (ps ++ (a, c) ∷ []) cs)) q ≡ read_then (λ cs. Ok (in_front ps cs)) (read_then (λ t. read_then (λ cs. Ok (core_attribute a t r cs)) q) o)
one_more a r (Ok t) c h ps (Ok cs) = let e : c ≡ record { type = t; required = r } = cc in ap Ok (in_front_one ps (a, c) cs ∙ ap (λ (y : CoreDeclared). in_front ps (core_attribute a y.type y.required cs)) e)
one_more a r (Ok t) c h ps (Err u) = refl
one_more a r (Err u) c h ps q = absurd (cc)

pub reading_goes_on : (all : Entries) (made : Pairs) (rest later : Entries) (k : RcStr Global) (d : AttributeType) (c : CoreDeclared) → IsReading all made rest → rest ≡ (k, d) ∷ later → core_declared_read (attribute_of d) ≡ Ok c
    → IsReading all (made ++ (rc_str_bytes k, c) ∷ []) later
reading_goes_on all made rest later k d c h is e =
    let a = rc_str_bytes k in
    record {
      whole = one_more a d.is_required (core_read (attribute_of d).type) c e made (core_attributes_read (attributes_from (declared_pairs later))) ∙ ap (read_on made) (sym is) ∙ h.whole;
      names = ap (λ l. l ++ texts (declared_pairs later)) (map-append (λ (p : Text × CoreDeclared). p.0) made ((a, c) ∷ []))
          ∙ append_assoc (texts made) (a ∷ []) (texts (declared_pairs later))
          ∙ ap (λ l. texts made ++ texts (declared_pairs l)) (sym is)
          ∙ h.names;
    }

refused_here : (a : Text) (r : Bool) (o : Result CoreType Unreadable) (u : Unreadable) → read_then {B = CoreDeclared} (λ t. Ok (record { type = t; required = r })) o ≡ Err u → (ps : Pairs) (q : Result CoreAttributes Unreadable)
    → read_then (λ cs. Ok (in_front ps cs)) (read_then (λ t. read_then (λ cs. Ok (core_attribute a t r cs)) q) o) ≡ Err u
refused_here a r (Ok t) u h ps q = absurd (cc)
refused_here a r (Err v) u h ps q = let e : v ≡ u = cc in ap Err e

pub reading_refused : (attrs : Attributes) (all : Entries) → all ≡ entries_of attrs → (made : Pairs) (rest later : Entries) (k : RcStr Global) (d : AttributeType) (e : CoreTypeError) → IsReading all made rest → rest ≡ (k, d) ∷ later
    → Refuses (core_declared_read (attribute_of d)) e → Refuses (core_attributes_read (attributes_of attrs)) e
reading_refused attrs all same made rest later k d e h is r u tells =
    ap core_attributes_read (attributes_are attrs ∙ ap (λ es. attributes_from (declared_pairs es)) (sym same))
    ∙ sym h.whole
    ∙ ap (read_on made) is
    ∙ refused_here (rc_str_bytes k) d.is_required (core_read (attribute_of d).type) u (r u tells) made (core_attributes_read (attributes_from (declared_pairs later)))

pub reading_ends : (attrs : Attributes) (all : Entries) → all ≡ entries_of attrs → (made : Pairs) (rest : Entries) → IsReading all made rest → rest ≡ [] → core_attributes_read (attributes_of attrs) ≡ Ok (core_attributes_from made)
reading_ends attrs all same made rest h is =
    ap core_attributes_read (attributes_are attrs ∙ ap (λ es. attributes_from (declared_pairs es)) (sym same)) ∙ sym h.whole ∙ ap (read_on made) is ∙ ap Ok (in_front_none made)

pub reading_rises : (all : Entries) → IsStrictlySortedBy (λ a b. text_cmp (rc_str_bytes a) (rc_str_bytes b)) (keys_of all) → (made : Pairs) (rest : Entries) → IsReading all made rest → rest ≡ [] → names_rise made ≡ true
reading_rises all s made rest h is =
    ap (λ ns. rises text_cmp ns) (sym (append-nil (texts made)) ∙ ap (λ l. texts made ++ texts (declared_pairs l)) (sym is) ∙ h.names) ∙ entries_rise all s
