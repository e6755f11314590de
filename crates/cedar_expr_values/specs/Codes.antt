-- Values as they were made have a code, by which the logic tells them apart.
use base.Stored.{Gv, gnil, gnum, gcons}
use Prim.Native.Nat.{ℕ}
use Rattle.std.specs.Prelude.{◌≡◌, List, refl}
use Rattle.std.proofs.Common.{sym, ap, ap₂, ◌∙◌}
use Rattle.std.specs.Coded.{Coded, coded_ℕ, coded_ℤ, coded_bool, coded_list, coded×, code_by}
use native.Mathlib.Nat.{suc-ne-zero}
use Rattle.cedar_expr_model.specs.Name.{Text, Name}
use Rattle.cedar_expr_model.specs.Uid.{Uid}
use Rattle.cedar_expr_model.specs.Value.{Literal, truth, long, text, entity}
use Rattle.cedar_expr_model.specs.Made.{Made, made_prim, made_set, made_record, made_extension, Mades, no_mades, made, MadeFields, no_made_fields, made_field}

abbrev pub coded_text : Coded Text
coded_text = coded_list coded_ℕ

abbrev pub coded_name : Coded Name
coded_name = code_by (List Text × Text) (coded× (coded_list coded_text) coded_text) (λ n. (n.path, n.base)) (λ p. record { path = p.0; base = p.1 }) (λ _. refl)

abbrev pub coded_uid : Coded Uid
coded_uid = code_by (Name × Text) (coded× coded_name coded_text) (λ u. (u.kind, u.id)) (λ p. record { kind = p.0; id = p.1 }) (λ _. refl)

-- a code with its kind before it, and what it was
abbrev marked : ℕ → Gv → Gv
marked n g = gcons (gnum n) g

abbrev mark_of : Gv → ℕ
mark_of gnil = 9
mark_of (gnum n) = 9
mark_of (gcons gnil h) = 9
mark_of (gcons (gnum n) h) = n
mark_of (gcons (gcons g f) h) = 9

abbrev first_of : Gv → Gv
first_of gnil = gnil
first_of (gnum n) = gnil
first_of (gcons g h) = g

abbrev rest_of : Gv → Gv
rest_of gnil = gnil
rest_of (gnum n) = gnil
rest_of (gcons g h) = h

-- literals
abbrev pub literal_code : Literal → Gv
literal_code (truth b) = marked 0 (coded_bool.code b)
literal_code (long n) = marked 1 (coded_ℤ.code n)
literal_code (text s) = marked 2 (coded_text.code s)
literal_code (entity u) = marked 3 (coded_uid.code u)

pub literal_told : (p q : Literal) → literal_code p ≡ literal_code q → p ≡ q
literal_told (truth a) (truth b) e = ap truth (coded_bool.inj a b (ap rest_of e))
literal_told (long a) (long b) e = ap long (coded_ℤ.inj a b (ap rest_of e))
literal_told (text a) (text b) e = ap text (coded_text.inj a b (ap rest_of e))
literal_told (entity a) (entity b) e = ap entity (coded_uid.inj a b (ap rest_of e))
literal_told (truth a) (long b) e = absurd (suc-ne-zero 0 (sym (ap mark_of e)))
literal_told (truth a) (text b) e = absurd (suc-ne-zero 1 (sym (ap mark_of e)))
literal_told (truth a) (entity b) e = absurd (suc-ne-zero 2 (sym (ap mark_of e)))
literal_told (long a) (truth b) e = absurd (suc-ne-zero 0 (ap mark_of e))
literal_told (text a) (truth b) e = absurd (suc-ne-zero 1 (ap mark_of e))
literal_told (entity a) (truth b) e = absurd (suc-ne-zero 2 (ap mark_of e))
literal_told (long a) (text b) e = let f = ap mark_of e in cc
literal_told (long a) (entity b) e = let f = ap mark_of e in cc
literal_told (text a) (long b) e = let f = ap mark_of e in cc
literal_told (text a) (entity b) e = let f = ap mark_of e in cc
literal_told (entity a) (long b) e = let f = ap mark_of e in cc
literal_told (entity a) (text b) e = let f = ap mark_of e in cc

abbrev pub coded_literal : Coded Literal
coded_literal = record { code = literal_code; inj = literal_told }

-- values as they were made
abbrev coded_call : Coded (Name × (Text × (Name × List Literal)))
coded_call = coded× coded_name (coded× coded_text (coded× coded_name (coded_list coded_literal)))

abbrev mutual
  pub made_code : Made → Gv
  made_code (made_prim p) = marked 0 (literal_code p)
  made_code (made_set ms) = marked 1 (mades_code ms)
  made_code (made_record fs) = marked 2 (made_fields_code fs)
  made_code (made_extension n k f ps) = marked 3 (coded_call.code (n, (k, (f, ps))))

  pub mades_code : Mades → Gv
  mades_code no_mades = gnil
  mades_code (made m ms) = marked 4 (gcons (made_code m) (mades_code ms))

  pub made_fields_code : MadeFields → Gv
  made_fields_code no_made_fields = gnil
  made_fields_code (made_field a m fs) = marked 5 (gcons (coded_text.code a) (gcons (made_code m) (made_fields_code fs)))

abbrev extension_of_call : Name × (Text × (Name × List Literal)) → Made
extension_of_call p = made_extension p.0 p.1.0 p.1.1.0 p.1.1.1

mutual
  pub made_told : (m n : Made) → made_code m ≡ made_code n → m ≡ n
  made_told (made_prim p) (made_prim q) e = ap made_prim (literal_told p q (ap rest_of e))
  made_told (made_set ms) (made_set ns) e = ap made_set (mades_told ms ns (ap rest_of e))
  made_told (made_record fs) (made_record gs) e = ap made_record (made_fields_told fs gs (ap rest_of e))
  made_told (made_extension n k f ps) (made_extension m j g qs) e = ap extension_of_call (coded_call.inj (n, (k, (f, ps))) (m, (j, (g, qs))) (ap rest_of e))
  made_told (made_prim p) (made_set ns) e = let f = ap mark_of e in cc
  made_told (made_prim p) (made_record gs) e = let f = ap mark_of e in cc
  made_told (made_prim p) (made_extension m j g qs) e = let f = ap mark_of e in cc
  made_told (made_set ms) (made_prim q) e = let f = ap mark_of e in cc
  made_told (made_set ms) (made_record gs) e = let f = ap mark_of e in cc
  made_told (made_set ms) (made_extension m j g qs) e = let f = ap mark_of e in cc
  made_told (made_record fs) (made_prim q) e = let f = ap mark_of e in cc
  made_told (made_record fs) (made_set ns) e = let f = ap mark_of e in cc
  made_told (made_record fs) (made_extension m j g qs) e = let f = ap mark_of e in cc
  made_told (made_extension n k f ps) (made_prim q) e = let f = ap mark_of e in cc
  made_told (made_extension n k f ps) (made_set ns) e = let f = ap mark_of e in cc
  made_told (made_extension n k f ps) (made_record gs) e = let f = ap mark_of e in cc

  pub mades_told : (ms ns : Mades) → mades_code ms ≡ mades_code ns → ms ≡ ns
  mades_told no_mades no_mades e = refl
  mades_told (made m ms) (made n ns) e = ap₂ made (made_told m n (ap (λ g. first_of (rest_of g)) e)) (mades_told ms ns (ap (λ g. rest_of (rest_of g)) e))
  mades_told no_mades (made n ns) e = let f = ap mark_of e in cc
  mades_told (made m ms) no_mades e = let f = ap mark_of e in cc

  pub made_fields_told : (fs gs : MadeFields) → made_fields_code fs ≡ made_fields_code gs → fs ≡ gs
  made_fields_told no_made_fields no_made_fields e = refl
  made_fields_told (made_field a m fs) (made_field b n gs) e =
      ap (λ c. made_field c m fs) (coded_text.inj a b (ap (λ g. first_of (rest_of g)) e))
      ∙ ap₂ (made_field b) (made_told m n (ap (λ g. first_of (rest_of (rest_of g))) e)) (made_fields_told fs gs (ap (λ g. rest_of (rest_of (rest_of g))) e))
  made_fields_told no_made_fields (made_field b n gs) e = let f = ap mark_of e in cc
  made_fields_told (made_field a m fs) no_made_fields e = let f = ap mark_of e in cc

abbrev pub coded_mades : Coded Mades
coded_mades = record { code = mades_code; inj = mades_told }

abbrev pub coded_made_fields : Coded MadeFields
coded_made_fields = record { code = made_fields_code; inj = made_fields_told }
