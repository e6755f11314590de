-- The expression that a well-made value is written as means it, and evaluates to an equal value.
use Rattle.std.proofs.Common.{◌≡◌, ℕ, ◌≤◌, Bool, true, false, cond, List, [], ◌∷◌, refl, ap, ◌∙◌}
use Rattle.std.specs.Prelude.{Option, Some, map, length}
use Rattle.cedar_expr_model.specs.Name.{Text, Name}
use Rattle.cedar_expr_model.specs.Value.{Literal, V, prim, set_of, record_of, extension, values_list, field, Vs}
use Rattle.cedar_expr_model.specs.Canonical.{set_made, are_rising}
use Rattle.cedar_expr_model.specs.Tree.{CoreType, nesting, lit}
use Rattle.cedar_expr_model.specs.Made.{Made, made_prim, made_set, made_record, made_extension, Mades, no_mades, made, MadeFields, no_made_fields, made_field, bare, bares, bare_fields, written, writtens, written_fields}
use Rattle.cedar_expr_model.specs.Table.{Table, takes_count, are_of_types}
use Rattle.cedar_expr_model.proofs.Sets.{made_of_rising}
use Rattle.cedar_store_model.specs.Outcome.{Res, val, err, wrong_type, wrong_count, bind}
use Rattle.cedar_store_model.specs.World.{World}
use Rattle.cedar_store_model.specs.Operators.{answered, called}
use Rattle.cedar_store_model.specs.Meaning.{Means, outcome_of, outcomes_of, field_outcomes_of}
use Rattle.cedar_store_model.proofs.Meaning.{outcome_means}
use Rattle.cedar_evaluator_model.specs.Scope.{Scope}
use Rattle.cedar_evaluator_model.specs.OfLaws.Calls.{Agrees}
use Rattle.cedar_evaluator_model.specs.Evaluation.{evaluated}
use Rattle.cedar_evaluator_model.specs.Known.{known_world}
use Rattle.cedar_evaluator_model.specs.OfLaws.WellMade.{IsWellMade}
use Rattle.cedar_evaluator_model.specs.Completion.{Fits}
use Rattle.cedar_evaluator_model.specs.OfLaws.Standing.{IsOutcome, LeavesUnbound}
use Rattle.cedar_evaluator_model.proofs.Owed.{owed}
use Rattle.cedar_store_model.proofs.Named.{called_of}
use Rattle.cedar_expr_model.specs.OfLaws.Represented.{Makes, AreMade, HaveMade}
use Rattle.cedar_expr_model.proofs.Gathering.{EachAmong, EachIn, each_in, EachInFields}
use Rattle.cedar_expr_model.specs.Builder.{trees}

-- a call that makes a value means it
guarded_answer : (count types : Bool) (o : Option (Res V)) → count ≡ true → types ≡ true → cond count (cond types o (Some (err wrong_type))) (Some (err wrong_count)) ≡ o
guarded_answer true true o c t = refl
guarded_answer true false o c t = cc
guarded_answer false types o c t = cc

makes_means : (x : Table) (u : Text → Option V) (f : Name) (ps : List Literal) (v : V) → Makes x f ps v → called x u f (map prim ps) ≡ Some (val v)
makes_means x u f ps v h =
    let taken = h.0 in
    ap (called_of x u f (map prim ps)) taken.1 ∙ guarded_answer (takes_count taken.0 (length (map prim ps))) (are_of_types (taken.0).parameters (map prim ps)) (answered u (x.answers f (map prim ps))) taken.2 taken.3 ∙ ap (answered u) h.1

literals_mean : (w : World) (ps : List Literal) → outcomes_of w (trees (map lit ps)) ≡ Some (val (map prim ps))
literals_mean w [] = refl
literals_mean w (p ∷ ps) = λ i. bind (literals_mean w ps i) (λ vs. Some (val (prim p ∷ vs)))

-- the members of a set rise
abbrev pub Rise : Vs → Type 0
Rise vs = are_rising vs ≡ true

mutual
  written_outcome : (w : World) (m : Made) → IsWellMade w.table m → outcome_of w (written m) ≡ Some (val (bare m))
  written_outcome w (made_prim p) h = refl
  written_outcome w (made_set ms) h = (λ i. bind (written_outcomes w ms h.0 i) (λ vs. Some (val (set_made vs)))) ∙ ap (λ vs. Some (val (set_of vs))) (made_of_rising (bares ms) h.1)
  written_outcome w (made_record fs) h = λ i. bind (field_written_outcomes w fs h i) (λ vs. Some (val (record_of vs)))
  written_outcome w (made_extension n k f ps) h = (λ i. bind (literals_mean w ps i) (called w.table w.unknowns f)) ∙ makes_means w.table w.unknowns f ps (extension n k) h

  written_outcomes : (w : World) (ms : Mades) → AreMade Rise w.table ms → outcomes_of w (writtens ms) ≡ Some (val (values_list (bares ms)))
  written_outcomes w no_mades h = refl
  written_outcomes w (made m ms) h = λ i. bind (written_outcome w m h.0 i) (λ v. bind (written_outcomes w ms h.1 i) (λ vs. Some (val (v ∷ vs))))

  field_written_outcomes : (w : World) (fs : MadeFields) → HaveMade Rise w.table fs → field_outcomes_of w (written_fields fs) ≡ Some (val (bare_fields fs))
  field_written_outcomes w no_made_fields h = refl
  field_written_outcomes w (made_field a m fs) h = λ i. bind (written_outcome w m h.0 i) (λ v. bind (field_written_outcomes w fs h.1 i) (λ vs. Some (val (field a v vs))))

pub written_means : (w : World) (m : Made) → IsWellMade w.table m → Means w (written m) (val (bare m))
written_means w m h = outcome_means w (written m) (val (bare m)) (written_outcome w m h)

-- a written value has no unknown
module _ (P : Text → Option CoreType → Type 0) where
  no_unknown_literals : (ps : List Literal) → EachAmong P (trees (map lit ps))
  no_unknown_literals [] = tt
  no_unknown_literals (p ∷ ps) = (tt, no_unknown_literals ps)

  mutual
    pub no_unknown : (m : Made) → EachIn P (written m)
    no_unknown (made_prim p) = tt
    no_unknown (made_set ms) = no_unknowns ms
    no_unknown (made_record fs) = no_field_unknowns fs
    no_unknown (made_extension n k f ps) = no_unknown_literals ps

    no_unknowns : (ms : Mades) → EachAmong P (writtens ms)
    no_unknowns no_mades = tt
    no_unknowns (made m ms) = (no_unknown m, no_unknowns ms)

    no_field_unknowns : (fs : MadeFields) → EachInFields P (written_fields fs)
    no_field_unknowns no_made_fields = tt
    no_field_unknowns (made_field a m fs) = (no_unknown m, no_field_unknowns fs)

pub written_evaluates : (s : Scope) → Agrees s → LeavesUnbound s → (n : ℕ) (m : Made) → IsWellMade s.table m → nesting (written m) ≤ n → IsOutcome (val (bare m)) (evaluated s n (written m))
written_evaluates s agrees unbound n m h d = owed s agrees unbound n (written m) ((each_in (λ x a. Fits a ((known_world s).unknowns x)) (written m)).1 (no_unknown (λ x a. Fits a ((known_world s).unknowns x)) m)) d (val (bare m)) (written_means (known_world s) m h)
