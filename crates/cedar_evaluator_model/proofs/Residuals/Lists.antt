-- What is left of several expressions beside their outcomes, and calls at values.
use Rattle.std.proofs.Common.{◌≡◌, Bool, true, false, cond, List, [], ◌∷◌, refl, sym, ap, ◌∙◌, subst}
use Rattle.std.specs.Prelude.{Option, Some, None, option_map, map, length}
use Rattle.std.specs.Option.{option_map_or}
use Rattle.std.specs.Ordering.{match_ordering}
use Rattle.std.specs.declared.cmp.Ordering.{Ordering}
use Rattle.std.specs.declared.cmp.Ordering.TheVariants.{Less, Equal, Greater}
use Rattle.cedar_expr_model.specs.Name.{Text, Name}
use Rattle.cedar_expr_model.specs.Value.{V, set_of}
use Rattle.cedar_expr_model.specs.Order.{value_cmp}
use Rattle.cedar_expr_model.specs.Canonical.{are_rising, members_made}
use Rattle.cedar_expr_model.specs.Tree.{Tree}
use Rattle.cedar_expr_model.specs.Builder.{trees}
use Rattle.cedar_expr_model.specs.OfLaws.Represented.{AreMade, HaveMade}
use Rattle.cedar_expr_model.specs.ValueParts.{Part, known, all_known, part_tree}
use Rattle.cedar_expr_model.specs.Made.{Made, made_set, Mades, no_mades, made, bare, written}
use Rattle.cedar_expr_model.specs.Table.{Table, Signature, signature_of, takes_count, are_of_types}
use Rattle.cedar_expr_model.specs.OfLaws.Fair.{IsTaken}
use Rattle.cedar_expr_model.proofs.Sets.{made_rises}
use Rattle.cedar_store_model.specs.Outcome.{Res, val, err, wrong_type, wrong_count, bind}
use Rattle.cedar_store_model.specs.World.{World}
use Rattle.cedar_store_model.specs.Operators.{answered, called}
use Rattle.cedar_store_model.proofs.Named.{bound_value, called_of}
use Rattle.cedar_store_model.specs.Meaning.{outcome_of}
use Rattle.cedar_store_model.specs.OfLaws.Extends.{Keeps}
use Rattle.cedar_evaluator_model.specs.Scope.{Scope, MadeCalled, makes, faults, leaves_unknown, fault, limit, Left, value_left, residual, stopped}
use Rattle.cedar_evaluator_model.specs.OfLaws.Calls.{bare_called, Agrees}
use Rattle.cedar_evaluator_model.specs.Steps.{errs, answer_left, call_left, called_left, made_inserted, made_members, Pieces, pieces, halted, with_piece, from_pieces}
use Rattle.cedar_evaluator_model.specs.OfLaws.WellMade.{IsWellMade, AllMadeWell}
use Rattle.cedar_evaluator_model.specs.Completion.{Fits}
use Rattle.cedar_evaluator_model.specs.OfLaws.Completing.{Completes}
use Rattle.cedar_evaluator_model.proofs.Named.{FitsAmong, call_of, fields_named}
use Rattle.cedar_evaluator_model.proofs.GivenLists.{bare_members}
use Rattle.cedar_evaluator_model.proofs.GivenReads.{length_bare}
use Rattle.cedar_evaluator_model.proofs.Written.{Rise}
use Rattle.cedar_evaluator_model.proofs.Residuals.Stands.{Alike, IsNoValue, Stands, alike_same, alike_bind, none_bind, none_second, stands_next, written_alike, written_fits}

-- each value is well made
abbrev pub EachWellMade : Table → List Made → Type 0
EachWellMade x [] = Unit {0}
EachWellMade x (m ∷ ms) = IsWellMade x m × EachWellMade x ms

-- Pieces stand for expressions of this outcome: values alone are well made and the outcome is what they are seen as; what the pieces
-- are rebuilt to means an outcome alike, and its unknowns fit.
pub record PiecesStand {A : Type 0} (w : World) (view : List Made → A) (seen : List Tree → Option (Res A)) (o : Option (Res A)) (ps : List (Part Made)) : Type 0 where
  pub values : (ms : List Made) → all_known ps ≡ Some ms → Keeps o (Some (val (view ms))) × EachWellMade w.table ms
  pub alike : Alike o (seen (map part_tree ps))
  pub fits : FitsAmong w (trees (map part_tree ps))

abbrev pub AllStand : {A : Type 0} → World → (List Made → A) → (List Tree → Option (Res A)) → Option (Res A) → Pieces → Type 0
AllStand w view seen o (pieces ps) = PiecesStand w view seen o ps
AllStand w view seen o (halted (fault f)) = IsNoValue o
AllStand w view seen o (halted limit) = Unit {0}

pub no_pieces : {A : Type 0} (w : World) (view : List Made → A) (seen : List Tree → Option (Res A)) → seen [] ≡ Some (val (view [])) → PiecesStand w view seen (Some (val (view []))) []
no_pieces w view seen e =
    record { values = λ ms h. let same : [] ≡ ms = cc in subst (λ ns. Keeps (Some (val (view []))) (Some (val (view ns))) × EachWellMade w.table ns) same (refl, tt); alike = e; fits = tt }

keeps_joined : {A B : Type 0} (joined : V → A → B) (o : Option (Res V)) (os : Option (Res A)) (v : V) (x : A) → Keeps o (Some (val v)) → Keeps os (Some (val x))
    → Keeps (bind o (λ y. bind os (λ z. Some (val (joined y z))))) (Some (val (joined v x)))
keeps_joined joined None os v x h k = tt
keeps_joined joined (Some (err e)) os v x h k = cc
keeps_joined joined (Some (val y)) None v x h k = tt
keeps_joined joined (Some (val y)) (Some (err e)) v x h k = cc
keeps_joined joined (Some (val y)) (Some (val z)) v x h k = let i : v ≡ y = cc in let j : x ≡ z = cc in cc

mapped_some : {A B : Type 0} (f : A → B) (q : Option A) (y : B) → option_map f q ≡ Some y → (x : A) × (q ≡ Some x) × (f x ≡ y)
mapped_some f None y e = cc
mapped_some f (Some x) y e = let k : f x ≡ y = cc in (x, refl, k)

-- one more, first; `joined` is the outcome with its value
module _ {A B : Type 0} (w : World) (view : List Made → A) (wider : List Made → B) (seen : List Tree → Option (Res A)) (more : List Tree → Option (Res B)) (joined : V → A → B)
    (step : (m : Made) (ms : List Made) → wider (m ∷ ms) ≡ joined (bare m) (view ms))
    (again : (t : Tree) (ts : List Tree) → more (t ∷ ts) ≡ bind (outcome_of w t) (λ v. bind (seen ts) (λ x. Some (val (joined v x))))) where
  joined_alike : (o : Option (Res V)) (os : Option (Res A)) (t : Tree) (ts : List Tree) → Alike o (outcome_of w t) → Alike os (seen ts)
      → Alike (bind o (λ v. bind os (λ x. Some (val (joined v x))))) (more (t ∷ ts))
  joined_alike o os t ts h k =
      subst (Alike (bind o (λ v. bind os (λ x. Some (val (joined v x)))))) (sym (again t ts))
      (alike_bind o (outcome_of w t) (λ v. bind os (λ x. Some (val (joined v x)))) (λ v. bind (seen ts) (λ x. Some (val (joined v x)))) h
      (λ v. alike_bind os (seen ts) (λ x. Some (val (joined v x))) (λ x. Some (val (joined v x))) k (λ x. refl)))

  more_values : (o : Option (Res V)) (m : Made) (os : Option (Res A)) (ps : List (Part Made)) → Keeps o (Some (val (bare m))) → IsWellMade w.table m → PiecesStand w view seen os ps → (ms : List Made)
      → all_known (known m ∷ ps) ≡ Some ms → Keeps (bind o (λ v. bind os (λ x. Some (val (joined v x))))) (Some (val (wider ms))) × EachWellMade w.table ms
  more_values o m os ps h g k ms e =
      let r = mapped_some (λ ns. m ∷ ns) (all_known ps) ms e in
      let rest = k.values r.0 r.1 in
      let one = keeps_joined joined o os (bare m) (view r.0) h rest.0 in
      let two = subst (λ y. Keeps (bind o (λ v. bind os (λ x. Some (val (joined v x))))) (Some (val y))) (sym (step m r.0)) one in
      subst (λ y. Keeps (bind o (λ v. bind os (λ x. Some (val (joined v x))))) (Some (val (wider y))) × EachWellMade w.table y) r.2 (two, (g, rest.1))

  pub all_more : (o : Option (Res V)) (l : Left) (os : Option (Res A)) (ps : Pieces) → Stands w o l → AllStand w view seen os ps
      → AllStand w wider more (bind o (λ v. bind os (λ x. Some (val (joined v x))))) (with_piece l ps)
  all_more o (stopped (fault f)) os ps h k = none_bind o (λ v. bind os (λ x. Some (val (joined v x)))) h
  all_more o (stopped limit) os ps h k = tt
  all_more o (value_left m) os (halted (fault f)) h k = none_second o os (λ v x. Some (val (joined v x))) k
  all_more o (value_left m) os (halted limit) h k = tt
  all_more o (residual r) os (halted (fault f)) h k = none_second o os (λ v x. Some (val (joined v x))) k
  all_more o (residual r) os (halted limit) h k = tt
  all_more o (value_left m) os (pieces ps) h k =
      record { values = more_values o m os ps h.0 h.1 k; alike = joined_alike o os (written m) (map part_tree ps) (written_alike w o m h.0 h.1) k.alike; fits = (written_fits w m, k.fits) }
  all_more o (residual r) os (pieces ps) h k = record { values = λ ms e. cc; alike = joined_alike o os r (map part_tree ps) h.0 k.alike; fits = (h.1, k.fits) }

-- what is made of values, or rebuilt
module _ {A : Type 0} (w : World) (view : List Made → A) (seen : List Tree → Option (Res A)) (f : A → Option (Res V)) (next : List Made → Left) (rebuilt : List Tree → Tree) where
  from_case : (o : Option (Res A)) (ps : List (Part Made)) → PiecesStand w view seen o ps → ((ms : List Made) → EachWellMade w.table ms → Stands w (f (view ms)) (next ms))
      → Stands w (bind o f) (residual (rebuilt (map part_tree ps))) → (q : Option (List Made)) → all_known ps ≡ q → Stands w (bind o f) (option_map_or next q (residual (rebuilt (map part_tree ps))))
  from_case o ps h n k None e = k
  from_case o ps h n k (Some ms) e = let v = h.values ms e in stands_next w o (view ms) f (next ms) v.0 (n ms v.1)

  pub all_from : (o : Option (Res A)) (ps : Pieces) → AllStand w view seen o ps → ((ms : List Made) → EachWellMade w.table ms → Stands w (f (view ms)) (next ms))
      → ((ts : List Tree) → Alike o (seen ts) → FitsAmong w (trees ts) → Stands w (bind o f) (residual (rebuilt ts))) → Stands w (bind o f) (from_pieces next rebuilt ps)
  all_from o (halted (fault e)) h n k = none_bind o f h
  all_from o (halted limit) h n k = tt
  all_from o (pieces ps) h n k = from_case o ps h n (k (map part_tree ps) h.alike h.fits) (all_known ps) refl

-- sets and records of well-made values are well made
inserted_case : (x : Table) (m n : Made) (ns : Mades) (r : Ordering) → IsWellMade x m → IsWellMade x n → AreMade Rise x ns → AreMade Rise x (made_inserted m ns)
    → AreMade Rise x (match_ordering r (made m (made n ns)) (made m ns) (made n (made_inserted m ns)))
inserted_case x m n ns Less h k g i = (h, (k, g))
inserted_case x m n ns Equal h k g i = (h, g)
inserted_case x m n ns Greater h k g i = (k, i)

inserted_well : (x : Table) (m : Made) (ns : Mades) → IsWellMade x m → AreMade Rise x ns → AreMade Rise x (made_inserted m ns)
inserted_well x m no_mades h k = (h, tt)
inserted_well x m (made n ns) h k = inserted_case x m n ns (value_cmp (bare m) (bare n)) h k.0 k.1 (inserted_well x m ns h k.1)

members_well : (x : Table) (ms : List Made) → EachWellMade x ms → AreMade Rise x (made_members ms)
members_well x [] h = tt
members_well x (m ∷ ms) h = inserted_well x m (made_members ms) h.0 (members_well x ms h.1)

pub stands_set : (w : World) (ms : List Made) → EachWellMade w.table ms → Stands w (Some (val (set_of (members_made (map bare ms))))) (value_left (made_set (made_members ms)))
stands_set w ms h = (ap (λ vs. Some (val (set_of vs))) (bare_members ms), (members_well w.table ms h, ap are_rising (bare_members ms) ∙ made_rises (map bare ms)))

pub fields_well : (x : Table) (as_ : List Text) (ms : List Made) → EachWellMade x ms → HaveMade Rise x (fields_named as_ ms)
fields_well x [] ms h = tt
fields_well x (a ∷ as_) [] h = tt
fields_well x (a ∷ as_) (m ∷ ms) h = (h.0, fields_well x as_ ms h.1)

-- calls
fits_any : (o : Option V) → Fits None o
fits_any None = tt
fits_any (Some v) = tt

stands_answer : (w : World) (c : MadeCalled) → ((m : Made) → c ≡ makes m → IsWellMade w.table m) → Stands w (answered w.unknowns (bare_called c)) (answer_left c)
stands_answer w (makes m) h = (refl, h m refl)
stands_answer w (faults e) h = tt
stands_answer w (leaves_unknown n) h = (alike_same (bound_value (w.unknowns n)), fits_any (w.unknowns n))

stands_guarded : (w : World) (count types : Bool) (o : Option (Res V)) (l : Left) → (count ≡ true → types ≡ true → Stands w o l)
    → Stands w (cond count (cond types o (Some (err wrong_type))) (Some (err wrong_count))) (cond count (cond types l (errs wrong_type)) (errs wrong_count))
stands_guarded w true true o l h = h refl refl
stands_guarded w true false o l h = tt
stands_guarded w false types o l h = tt

module _ (w : World) (s : Scope) (agrees : Agrees s) (complete : Completes w s) (well : AllMadeWell s) where
  call_well : (f : Name) (ms : List Made) → IsTaken s.table f (map bare ms) → (m : Made) → s.calls f ms ≡ makes m → IsWellMade w.table m
  call_well f ms t m e = subst (λ x. IsWellMade x m) (sym complete.table) (well.calls f ms m t e)

  call_case : (f : Name) (ms : List Made) (g : Option Signature) → signature_of s.table f ≡ g → Stands w (called_of s.table w.unknowns f (map bare ms) g) (call_of s f ms g)
  call_case f ms None q = tt
  call_case f ms (Some g) q =
      let typed = are_of_types g.parameters (map bare ms) in
      let answer = answered w.unknowns (s.table.answers f (map bare ms)) in
      subst (λ k. Stands w (cond (takes_count g k) (cond typed answer (Some (err wrong_type))) (Some (err wrong_count))) (call_left s f ms g)) (sym (length_bare ms))
      (stands_guarded w (takes_count g (length ms)) typed answer (answer_left (s.calls f ms))
      (λ c t.
      let taken : IsTaken s.table f (map bare ms) = (g, q, ap (takes_count g) (length_bare ms) ∙ c, t) in
      subst (λ x. Stands w (answered w.unknowns x) (answer_left (s.calls f ms))) (agrees f ms taken) (stands_answer w (s.calls f ms) (call_well f ms taken))))

  pub stands_call : (f : Name) (ms : List Made) → Stands w (called w.table w.unknowns f (map bare ms)) (called_left s f ms)
  stands_call f ms = subst (λ x. Stands w (called x w.unknowns f (map bare ms)) (called_left s f ms)) (sym complete.table) (call_case f ms (signature_of s.table f) refl)
