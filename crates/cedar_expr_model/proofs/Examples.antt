-- Worked examples that want a proof: equality as of sets, fair tables, another lawful builder.
use Rattle.std.proofs.Common.{bytes_eq, ap, ◌≡◌, Bool, true, false, cond, List, [], ◌∷◌, Some, None, codes, refl, sym, subst, inl, inr}
use mathlib.Core.Bool.{true≢false}
use Rattle.cedar_expr_model.specs.Name.{Text, name_eq}
use Rattle.cedar_expr_model.specs.Value.{text, V, prim, set_of, record_of, extension, no_values, value}
use Rattle.cedar_expr_model.specs.SamenessLaws.{Among, FieldAmong, Same, HasSame, HasSameField}
use Rattle.cedar_expr_model.specs.BuilderForm.{IsLawful}
use Rattle.cedar_expr_model.specs.Table.{Signature, fails, Called, gives}
use Rattle.cedar_expr_model.specs.OfLaws.Fair.{IsAnswer, IsFair}
use Rattle.cedar_expr_model.specs.OfLaws.Represented.{IsRepresented}
use Rattle.cedar_expr_model.specs.Worked.{true_rank, feigned_rank, number, word, falling, rising, a_then_b, b_then_a, rank_name, label_name, rank_function, label_function, rank_answer, label_answer, typed_table, unfair_table, variable_builder}

pub variables_lawful : IsLawful variable_builder
variables_lawful = record { conjoins = λ x y. refl; disjoins = λ x y. refl; walks_one = λ t a. refl }

-- what is the same as a member
same_as : (v w : V) → Same v v → w ≡ v → Same v w
same_as v w s e = subst (Same v) (sym e) s

turned_back : (w : V) → Among w rising → HasSame falling w
turned_back w (inl e) = inr (inl (same_as (number 1) w refl e))
turned_back w (inr (inl e)) = inl (same_as (number 2) w refl e)
turned_back w (inr (inr a)) = absurd a

pub turned_same : Same (set_of falling) (set_of rising)
turned_same = (((number 2, inr (inl refl), refl), ((number 1, inl refl, refl), tt)), turned_back)

twice_back : (w : V) → Among w (value (number 1) no_values) → HasSame (value (number 1) (value (number 1) no_values)) w
twice_back w (inl e) = inl (same_as (number 1) w refl e)
twice_back w (inr a) = absurd a

pub twice_same : Same (set_of (value (number 1) (value (number 1) no_values))) (set_of (value (number 1) no_values))
twice_same = (((number 1, inl refl, refl), ((number 1, inl refl, refl), tt)), twice_back)

records_back : (b : Text) (w : V) → FieldAmong b w a_then_b → HasSameField b_then_a b w
records_back b w (inl e) = inr (inl (sym e.0, same_as (number 1) w refl e.1))
records_back b w (inr (inl e)) = inl (sym e.0, same_as (number 2) w refl e.1)
records_back b w (inr (inr a)) = absurd a

pub records_same : Same (record_of b_then_a) (record_of a_then_b)
records_same = (((number 2, inr (inl (refl, refl)), refl), ((number 1, inl (refl, refl), refl), tt)), records_back)

only_number : (w : V) → Among w (value (number 1) no_values) → Same (number 2) w → ⊥
only_number w (inl e) s = let t : Same (number 2) (number 1) = subst (Same (number 2)) e s in cc
only_number w (inr a) s = absurd a

pub fewer_not_same : ¬ (Same (set_of rising) (set_of (value (number 1) no_values)))
fewer_not_same s = let r = ((s.0).1).0 in only_number r.0 r.1 r.2

-- fair tables
rank_fair : (vs : List V) → IsAnswer rank_function (rank_answer vs)
rank_fair (prim (text s) ∷ []) = refl
rank_fair vs = tt

label_fair : (vs : List V) → IsAnswer label_function (label_answer vs)
label_fair (extension n k ∷ []) = refl
label_fair vs = tt

fair_case : (a b : Bool) (s : Signature) (vs : List V) → cond a (Some rank_function) (cond b (Some label_function) None) ≡ Some s → IsAnswer s (cond a (rank_answer vs) (cond b (label_answer vs) (fails rank_name)))
fair_case true b s vs e = let q : rank_function ≡ s = cc in subst (λ x. IsAnswer x (rank_answer vs)) q (rank_fair vs)
fair_case false true s vs e = let q : label_function ≡ s = cc in subst (λ x. IsAnswer x (label_answer vs)) q (label_fair vs)
fair_case false false s vs e = cc

pub table_fair : IsFair typed_table
table_fair f s vs e h k = fair_case (name_eq f rank_name) (name_eq f label_name) s vs e

pub table_unfair : ¬ (IsFair unfair_table)
table_unfair h = let q = h rank_name rank_function (word (codes "7") ∷ []) refl refl refl in cc

-- represented values
pub rank_represented : IsRepresented typed_table true_rank
rank_represented = ((rank_function, refl, refl, refl), refl)

-- the answer has the key of the true rank
has_its_key : Called → Bool
has_its_key (gives (extension n k)) = bytes_eq k (codes "7")
has_its_key a = false

pub feigned_not : ¬ (IsRepresented typed_table feigned_rank)
unfolding has_its_key
feigned_not r = let q : true ≡ false = ap has_its_key r.1 in true≢false q
