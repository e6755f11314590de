-- What a value of each type looks like.
use Rattle.std.proofs.Common.{◌≡◌, List, Bool, true, refl}
use Rattle.std.specs.Prelude.{Contains}
use Rattle.cedar_expr_model.specs.Name.{Name, Text}
use Rattle.cedar_expr_model.specs.Uid.{Uid}
use Rattle.cedar_expr_model.specs.Value.{truth, long, text, entity, V, prim, set_of, record_of, extension, Vs, Fields, truth_value}
use Rattle.cedar_schema_model.specs.Types.{BoolType, Openness, Ty, bool_type, long_type, string_type, any_entity, entity_types, set_type, record_type, extension_type, Attributes}
use Rattle.cedar_schema_model.specs.HasType.{is_of_bool, HasType, HaveType, HasRequired, FieldsFit}

pub bool_value : (b : BoolType) (v : V) → HasType v (bool_type b) → (c : Bool) × (v ≡ truth_value c) × (is_of_bool b c ≡ true)
bool_value b (prim (truth c)) h = (c, refl, h)
bool_value b v h = absurd h

pub long_value : (v : V) → HasType v long_type → (n : _) × (v ≡ prim (long n))
long_value (prim (long n)) h = (n, refl)
long_value v h = absurd h

pub text_value : (v : V) → HasType v string_type → (s : Text) × (v ≡ prim (text s))
text_value (prim (text s)) h = (s, refl)
text_value v h = absurd h

pub any_value : (v : V) → HasType v any_entity → (u : Uid) × (v ≡ prim (entity u))
any_value (prim (entity u)) h = (u, refl)
any_value v h = absurd h

pub entity_value : (ns : List Name) (v : V) → HasType v (entity_types ns) → (u : Uid) × (v ≡ prim (entity u)) × Contains ns u.kind
entity_value ns (prim (entity u)) h = (u, refl, h)
entity_value ns v h = absurd h

pub set_value : (t : Ty) (v : V) → HasType v (set_type t) → (vs : Vs) × (v ≡ set_of vs) × HaveType vs t
set_value t (set_of vs) h = (vs, refl, h)
set_value t (prim (truth b)) h = absurd h
set_value t (prim (long n)) h = absurd h
set_value t (prim (text s)) h = absurd h
set_value t (prim (entity u)) h = absurd h
set_value t (record_of fs) h = absurd h
set_value t (extension n k) h = absurd h

pub record_value : (as_ : Attributes) (o : Openness) (v : V) → HasType v (record_type as_ o) → (fs : Fields) × (v ≡ record_of fs) × HasRequired as_ fs × FieldsFit as_ o fs
record_value as_ o (record_of fs) h = (fs, refl, h.0, h.1)
record_value as_ o (prim (truth b)) h = absurd h
record_value as_ o (prim (long n)) h = absurd h
record_value as_ o (prim (text s)) h = absurd h
record_value as_ o (prim (entity u)) h = absurd h
record_value as_ o (set_of vs) h = absurd h
record_value as_ o (extension n k) h = absurd h

pub extension_value : (n : Name) (v : V) → HasType v (extension_type n) → (k : Text) × (v ≡ extension n k)
extension_value n (extension m k) h = (k, λ i. extension (h i) k)
extension_value n (prim (truth b)) h = absurd h
extension_value n (prim (long m)) h = absurd h
extension_value n (prim (text s)) h = absurd h
extension_value n (prim (entity u)) h = absurd h
extension_value n (set_of vs) h = absurd h
extension_value n (record_of fs) h = absurd h
