-- An entry more.
use Rattle.std.proofs.Common.{◌≡◌, List, [], ◌∷◌, ◌++◌, map, refl, sym, ap, ◌∙◌, subst}
use Rattle.std.specs.Prelude.{Result, Ok, Err, IfOk, IfErr, OnOk, IsErrAnd}
use Rattle.std.proofs.lemmas.List.{map-append}
use Rattle.cedar_expr_names.specs.Views.{uid_of}
use Rattle.cedar_expr_names.specs.declared.entity.EntityUID.{EntityUID}
use Rattle.cedar_gate_model.specs.Transcript as model
use Rattle.cedar_gate_runs.specs.Transcripts.{entry_of, entries_of}
use Rattle.cedar_gate_runs.specs.declared.transcript.Entry.{Entry}

pub pushed : (before after : List Entry) (e : Entry) (m : model.Entry) → after ≡ before ++ e ∷ [] → entry_of e ≡ m → entries_of after ≡ entries_of before ++ m ∷ []
pushed before after e m h k = ap entries_of h ∙ map-append entry_of before (e ∷ []) ∙ ap (λ z. entries_of before ++ z ∷ []) k

-- where room was made for it before
pub pushed_in_room : (before room after : List Entry) (e : Entry) (m : model.Entry) → room ≡ before → after ≡ room ++ e ∷ [] → entry_of e ≡ m → entries_of after ≡ entries_of before ++ m ∷ []
pushed_in_room before room after e m same h k = pushed before after e m (h ∙ ap (λ zs. zs ++ e ∷ []) same) k

-- what a refusal says is handed on; and what holds where it came to something
pub handed : {B E : Type 0} (P : E → Type 0) (e : E) (r : Result B E) → IsErrAnd r (λ y. y ≡ e) → P e → IfErr r P
handed P e (Ok y) same h = tt
handed P e (Err y) same h = subst P (sym same) h

pub carried : {A B : Type 0} (P Q : A → Type 0) (r : Result A B) → ((a : A) → P a → Q a) → IfOk r P → IfOk r Q
carried P Q (Ok a) f h = f a h
carried P Q (Err e) f h = tt

pub carried_ok : {A B : Type 0} (P Q : Type 0) (r : Result A B) → (P → Q) → OnOk r P → OnOk r Q
carried_ok P Q (Ok a) f h = f h
carried_ok P Q (Err e) f h = tt

-- what holds anyway holds where it came to something
pub carried_to : {A B : Type 0} (P : Type 0) (r : Result A B) → P → OnOk r P
carried_to P (Ok a) h = h
carried_to P (Err e) h = tt

pub uids_none : (us : List EntityUID) → map uid_of us ≡ [] → us ≡ []
uids_none [] e = refl
uids_none (u ∷ us) e = cc
