-- What steps did goes on.
use Rattle.std.proofs.Common.{◌≡◌, ◌⊎◌, inl, inr, List, [], ◌∷◌, ◌++◌, Option, refl, sym, ap, ◌∙◌, subst}
use Rattle.std.proofs.lemmas.List.{append-nil}
use Rattle.cedar_expr_model.specs.Uid.{Uid}
use Rattle.cedar_store_model.specs.Answer.{Decision}
use Rattle.cedar_store_model.specs.Policy.{Policy}
use Rattle.cedar_gate_model.specs.Runs.{End, Finishes, Follows, IsRoundNow, with_asked}
use Rattle.cedar_gate_model.specs.Session.{Setup, State, with_bound}
use Rattle.cedar_gate_model.specs.Transcript.{Step, load, bind_name, decide, Entry, round, bound, decided}
use Rattle.cedar_gate_model.specs.Did.{Did, Loaded}
use Rattle.cedar_gate_model.specs.DidLaws.{LoadedNothing, LoadedMore, LoadedFinishes}

pub nothing : (may : State → Option Decision → Type 0) (x : Setup) (s : State) → Did may x s [] [] s
nothing may x s = (refl, refl)

pub more : (may : State → Option Decision → Type 0) (x : Setup) (s t u : State) (done : List Step) (step : Step) (es fs : List Entry) → Did may x s done es t → Did may x t (step ∷ []) fs u → Did may x s (done ++ step ∷ []) (es ++ fs) u
more may x s t u [] step es fs (e, is) d = subst (λ zs. Did may x s (step ∷ []) (zs ++ fs) u) (sym e) (subst (λ z. Did may x z (step ∷ []) fs u) is d)
more may x s t u (load ∷ done) step es fs (inl (none, k)) d = inl (none, more may x s t u done step es fs k d)
more may x s t u (load ∷ done) step (round uids ∷ es) fs (inr (r, k)) d = inr (r, more may x (with_asked s uids) t u done step es fs k d)
more may x s t u (load ∷ done) step [] fs (inr k) d = absurd k
more may x s t u (load ∷ done) step (bound n ∷ es) fs (inr k) d = absurd k
more may x s t u (load ∷ done) step (decided o ∷ es) fs (inr k) d = absurd k
more may x s t u (bind_name n m ∷ done) step (bound i ∷ es) fs (e, taken, k) d = (e, taken, more may x (with_bound s n m) t u done step es fs k d)
more may x s t u (bind_name n m ∷ done) step [] fs k d = absurd k
more may x s t u (bind_name n m ∷ done) step (round uids ∷ es) fs k d = absurd k
more may x s t u (bind_name n m ∷ done) step (decided o ∷ es) fs k d = absurd k
more may x s t u (decide ∷ done) step (decided o ∷ es) fs (h, k) d = (h, more may x s t u done step es fs k d)
more may x s t u (decide ∷ done) step [] fs k d = absurd k
more may x s t u (decide ∷ done) step (round uids ∷ es) fs k d = absurd k
more may x s t u (decide ∷ done) step (bound n ∷ es) fs k d = absurd k

pub follows : (may : State → Option Decision → Type 0) (x : Setup) (ps : List Policy) (s t : State) (done rest : List Step) (es fs : List Entry) (end : End) → Did may x s done es t → Follows may x ps t rest fs end → Follows may x ps s (done ++ rest) (es ++ fs) end
follows may x ps s t [] rest es fs end (e, is) f = subst (λ zs. Follows may x ps s rest (zs ++ fs) end) (sym e) (subst (λ z. Follows may x ps z rest fs end) is f)
follows may x ps s t (load ∷ done) rest es fs end (inl (none, k)) f = inl (none, follows may x ps s t done rest es fs end k f)
follows may x ps s t (load ∷ done) rest (round uids ∷ es) fs end (inr (r, k)) f = inr (r, follows may x ps (with_asked s uids) t done rest es fs end k f)
follows may x ps s t (load ∷ done) rest [] fs end (inr k) f = absurd k
follows may x ps s t (load ∷ done) rest (bound n ∷ es) fs end (inr k) f = absurd k
follows may x ps s t (load ∷ done) rest (decided o ∷ es) fs end (inr k) f = absurd k
follows may x ps s t (bind_name n m ∷ done) rest (bound i ∷ es) fs end (e, taken, k) f = (e, taken, follows may x ps (with_bound s n m) t done rest es fs end k f)
follows may x ps s t (bind_name n m ∷ done) rest [] fs end k f = absurd k
follows may x ps s t (bind_name n m ∷ done) rest (round uids ∷ es) fs end k f = absurd k
follows may x ps s t (bind_name n m ∷ done) rest (decided o ∷ es) fs end k f = absurd k
follows may x ps s t (decide ∷ done) rest (decided o ∷ es) fs end (h, k) f = (h, follows may x ps s t done rest es fs end k f)
follows may x ps s t (decide ∷ done) rest [] fs end k f = absurd k
follows may x ps s t (decide ∷ done) rest (round uids ∷ es) fs end k f = absurd k
follows may x ps s t (decide ∷ done) rest (bound n ∷ es) fs end k f = absurd k

pub loaded_nothing : LoadedNothing
loaded_nothing x s = refl

pub loaded_more : LoadedMore
loaded_more x s t [] uids e r = subst (λ z. Loaded x s (round uids ∷ []) (with_asked z uids)) (sym e) (subst (λ z. IsRoundNow x z uids) e r, refl)
loaded_more x s t (round us ∷ es) uids (h, k) r = (h, loaded_more x (with_asked s us) t es uids k r)
loaded_more x s t (bound n ∷ es) uids k r = absurd k
loaded_more x s t (decided d ∷ es) uids k r = absurd k

pub loaded_finishes : LoadedFinishes
loaded_finishes x ps s t [] end e f = subst (λ z. Finishes x ps z [] end) e f
loaded_finishes x ps s t (round us ∷ es) end (h, k) f = (h, loaded_finishes x ps (with_asked s us) t es end k f)
loaded_finishes x ps s t (bound n ∷ es) end k f = absurd k
loaded_finishes x ps s t (decided d ∷ es) end k f = absurd k
