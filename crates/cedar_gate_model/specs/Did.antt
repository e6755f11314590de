-- What steps did: the entries that they made, and the state that they led to.
-- Rule: runs (docs/RULES.md).
use Rattle.std.specs.Prelude.{◌≡◌, List, [], ◌∷◌, Option}
use Rattle.std.proofs.Common.{◌⊎◌}
use Rattle.cedar_expr_model.specs.Name.{Text}
use Rattle.cedar_expr_model.specs.Made.{Made}
use Rattle.cedar_store_model.specs.Answer.{Decision}
use Rattle.cedar_gate_model.specs.Runs.{IsRoundNow, with_asked, DecidesNow}
use Rattle.cedar_gate_model.specs.Session.{Setup, State, NothingIsWanted, with_bound, BindFault, BindRefusal}
use Rattle.cedar_gate_model.specs.Transcript.{Step, load, bind_name, decide, Entry, round, bound, decided}

-- a round, and what comes after it
abbrev pub DidRound : Setup → State → (State → List Entry → Type 0) → List Entry → Type 0
DidRound x s next (round uids ∷ es) = IsRoundNow x s uids × next (with_asked s uids) es
DidRound x s next es = ⊥

-- a binding that isn't refused, and what comes after it
abbrev pub DidBind : Setup → State → Text → Made → (List Entry → Type 0) → List Entry → Type 0
DidBind x s n m next (bound k ∷ es) = (k ≡ n) × ((f : BindRefusal) → BindFault x s n m f → ⊥) × next es
DidBind x s n m next es = ⊥

-- From the one state these steps made these entries and led to the other state.
abbrev pub Did : (State → Option Decision → Type 0) → Setup → State → List Step → List Entry → State → Type 0
Did may x s [] es t = (es ≡ []) × (t ≡ s)
Did may x s (load ∷ steps) es t = (NothingIsWanted x s × Did may x s steps es t) ⊎ DidRound x s (λ u fs. Did may x u steps fs t) es
Did may x s (bind_name n m ∷ steps) es t = DidBind x s n m (λ fs. Did may x (with_bound s n m) steps fs t) es
Did may x s (decide ∷ steps) es t = DecidesNow (may s) (λ fs. Did may x s steps fs t) es

-- From the one state these rounds led to the other.
abbrev pub Loaded : Setup → State → List Entry → State → Type 0
Loaded x s [] t = t ≡ s
Loaded x s (round uids ∷ es) t = IsRoundNow x s uids × Loaded x (with_asked s uids) es t
Loaded x s es t = ⊥
