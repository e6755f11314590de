-- Two runs of the same steps are alike; and no uid is asked for twice.
use Rattle.std.proofs.Common.{◌≡◌, ◌≢◌, ◌∙◌, List, [], ◌∷◌, Option, inl, inr, ⊎_elim, ◌⊎◌, refl, sym, subst}
use Rattle.cedar_expr_model.specs.Name.{Text}
use Rattle.cedar_expr_model.specs.Uid.{Uid}
use Rattle.cedar_expr_model.specs.Made.{Made}
use Rattle.cedar_expr_model.proofs.Lists.{contains_head}
use Rattle.cedar_store_model.specs.World.{World}
use Rattle.cedar_store_model.specs.Policy.{Policy}
use Rattle.cedar_store_model.specs.Answer.{Decision}
use Rattle.cedar_schema_model.specs.BagLaws.{HasTwice}
use Rattle.cedar_gate_model.specs.Moment.{Moment, at_first}
use Rattle.cedar_gate_model.specs.GateLaws.{moment_after, asked_in}
use Rattle.cedar_gate_model.specs.Transcript.{Step, load, bind_name, decide, Entry, round, bound, decided, Case, after, AreLegal}
use Rattle.cedar_gate_model.specs.Session.{Setup, State, at_start, NothingIsWanted, IsWantedList, with_bound, OpenFault, OpenRefusal, BindFault, BindRefusal, SupplyFault, SupplyRefusal}
use Rattle.cedar_gate_model.specs.Runs.{End, answered, opening_refused, supply_refused, binding_refused, answer_refused, supplied_by, IsRoundNow, with_asked, RefusesSupply, Finishes, Loads, Binds, DecidesNow, Follows, Runs}
use Rattle.cedar_gate_model.specs.RunLaws.{EntriesAlike, EndsAlike}
use Rattle.cedar_gate_model.proofs.Gate.RisingUids.{rising_once, same_rising, apart_once}

-- no uid twice
asked_apart : (c : Case) (w : World) (m : Moment) (es : List Entry) → AreLegal c w m es → (HasTwice m.asked → ⊥) → HasTwice (moment_after m es).asked → ⊥
asked_apart c w m [] h a t = a t
asked_apart c w m (round uids ∷ es) h a t =
    asked_apart c w (after m (round uids)) es h.1 (apart_once m.asked uids a (rising_once uids h.0.in_order) (λ u k l. ((h.0.exact u).0 l).1 k)) t
asked_apart c w m (bound n ∷ es) h a t = asked_apart c w (after m (bound n)) es h.1 a t
asked_apart c w m (decided d ∷ es) h a t = asked_apart c w m es h.1 a t

pub nothing_twice : (c : Case) (w : World) (es : List Entry) → AreLegal c w at_first es → HasTwice (asked_in es) → ⊥
nothing_twice c w es h t = asked_apart c w at_first es h (λ k. k) t

-- the list of what is wanted is one alone
one_list : (x : Setup) (s : State) (us vs : List Uid) → IsWantedList x s us → IsWantedList x s vs → us ≡ vs
one_list x s us vs h k = same_rising us vs h.in_order k.in_order (λ u a. (k.exact u).1 ((h.exact u).0 a)) (λ u a. (h.exact u).1 ((k.exact u).0 a))

something : (x : Setup) (s : State) (us : List Uid) → us ≢ [] → IsWantedList x s us → NothingIsWanted x s → ⊥
something x s [] n l none = n refl
something x s (u ∷ us) n l none = none u ((l.exact u).0 (contains_head u us))

refusal_wants : (x : Setup) (s : State) (f : SupplyRefusal) → RefusesSupply x s f → NothingIsWanted x s → ⊥
refusal_wants x s f h none = something x s h.0 h.1 h.2 none

round_wants : (x : Setup) (s : State) (us : List Uid) → IsRoundNow x s us → NothingIsWanted x s → ⊥
round_wants x s us h none = something x s us h.some_wanted h.wanted none

round_or_refusal : (x : Setup) (s : State) (us : List Uid) (f : SupplyRefusal) → IsRoundNow x s us → RefusesSupply x s f → ⊥
round_or_refusal x s us f h k = h.taken f (subst (λ l. SupplyFault x s (supplied_by x l) f) (one_list x s k.0 us k.2 h.wanted) k.3)

-- ends
ends_alike : (x : Setup) (ps : List Policy) (s : State) (e f : End) → Finishes x ps s [] e → Finishes x ps s [] f → EndsAlike e f
ends_alike x ps s (answered a) (answered b) h k = h.2 ∙ sym k.2
ends_alike x ps s (answered a) (answer_refused g) h k = absurd (h.1 g k.1)
ends_alike x ps s (answered a) (supply_refused g) h k = absurd (refusal_wants x s g k h.0)
ends_alike x ps s (answered a) (opening_refused g) h k = absurd k
ends_alike x ps s (answered a) (binding_refused g) h k = absurd k
ends_alike x ps s (answer_refused f) (answered b) h k = absurd (k.1 f h.1)
ends_alike x ps s (answer_refused f) (answer_refused g) h k = tt
ends_alike x ps s (answer_refused f) (supply_refused g) h k = absurd (refusal_wants x s g k h.0)
ends_alike x ps s (answer_refused f) (opening_refused g) h k = absurd k
ends_alike x ps s (answer_refused f) (binding_refused g) h k = absurd k
ends_alike x ps s (supply_refused f) (answered b) h k = absurd (refusal_wants x s f h k.0)
ends_alike x ps s (supply_refused f) (answer_refused g) h k = absurd (refusal_wants x s f h k.0)
ends_alike x ps s (supply_refused f) (supply_refused g) h k = tt
ends_alike x ps s (supply_refused f) (opening_refused g) h k = absurd k
ends_alike x ps s (supply_refused f) (binding_refused g) h k = absurd k
ends_alike x ps s (opening_refused f) e h k = absurd h
ends_alike x ps s (binding_refused f) e h k = absurd h

round_or_end : (x : Setup) (ps : List Policy) (s : State) (us : List Uid) (e : End) → IsRoundNow x s us → Finishes x ps s [] e → ⊥
round_or_end x ps s us (answered a) h k = round_wants x s us h k.0
round_or_end x ps s us (answer_refused f) h k = round_wants x s us h k.0
round_or_end x ps s us (supply_refused f) h k = round_or_refusal x s us f h k
round_or_end x ps s us (opening_refused f) h k = k
round_or_end x ps s us (binding_refused f) h k = k

abbrev Alike : List Entry → End → List Entry → End → Type 0
Alike es e fs f = EntriesAlike es fs × EndsAlike e f

finishes_alike : (x : Setup) (ps : List Policy) (s : State) (es fs : List Entry) (e f : End) → Finishes x ps s es e → Finishes x ps s fs f → Alike es e fs f
finishes_alike x ps s [] [] e f h k = (tt, ends_alike x ps s e f h k)
finishes_alike x ps s [] (round vs ∷ fs) e f h k = absurd (round_or_end x ps s vs e k.0 h)
finishes_alike x ps s [] (bound n ∷ fs) e f h k = absurd k
finishes_alike x ps s [] (decided d ∷ fs) e f h k = absurd k
finishes_alike x ps s (round us ∷ es) [] e f h k = absurd (round_or_end x ps s us f h.0 k)
finishes_alike x ps s (round us ∷ es) (round vs ∷ fs) e f h k =
    let q = one_list x s us vs h.0.wanted k.0.wanted in
    let r = finishes_alike x ps (with_asked s us) es fs e f h.1 (subst (λ l. Finishes x ps (with_asked s l) fs f) (sym q) k.1) in
    ((q, r.0), r.1)
finishes_alike x ps s (round us ∷ es) (bound n ∷ fs) e f h k = absurd k
finishes_alike x ps s (round us ∷ es) (decided d ∷ fs) e f h k = absurd k
finishes_alike x ps s (bound n ∷ es) fs e f h k = absurd h
finishes_alike x ps s (decided d ∷ es) fs e f h k = absurd h

-- loads
loads_want : (x : Setup) (s : State) (next : State → List Entry → Type 0) (es : List Entry) (e : End) → Loads x s next es e → NothingIsWanted x s → ⊥
loads_want x s next (round us ∷ es) e h none = round_wants x s us h.0 none
loads_want x s next [] (supply_refused f) h none = refusal_wants x s f h none
loads_want x s next [] (answered a) h none = h
loads_want x s next [] (answer_refused f) h none = h
loads_want x s next [] (opening_refused f) h none = h
loads_want x s next [] (binding_refused f) h none = h
loads_want x s next (bound n ∷ es) e h none = h
loads_want x s next (decided d ∷ es) e h none = h

-- a load is a round or a refusal
load_ends : (x : Setup) (s : State) (next : State → List Entry → Type 0) (e : End) → Loads x s next [] e → (f : SupplyRefusal) × (e ≡ supply_refused f) × RefusesSupply x s f
load_ends x s next (supply_refused f) h = (f, refl, h)
load_ends x s next (answered a) h = absurd h
load_ends x s next (answer_refused f) h = absurd h
load_ends x s next (opening_refused f) h = absurd h
load_ends x s next (binding_refused f) h = absurd h

loads_alike : (x : Setup) (s : State) (e f : End) (next other : State → List Entry → Type 0) → ((t : State) (es fs : List Entry) → next t es → other t fs → Alike es e fs f)
    → (es fs : List Entry) → Loads x s next es e → Loads x s other fs f → Alike es e fs f
loads_alike x s e f next other then [] [] h k =
    let a = load_ends x s next e h in
    let b = load_ends x s other f k in
    (tt, subst (λ z. EndsAlike z f) (sym a.1) (subst (λ z. EndsAlike (supply_refused a.0) z) (sym b.1) tt))
loads_alike x s e f next other then [] (round vs ∷ fs) h k = let a = load_ends x s next e h in absurd (round_or_refusal x s vs a.0 k.0 a.2)
loads_alike x s e f next other then [] (bound n ∷ fs) h k = absurd k
loads_alike x s e f next other then [] (decided d ∷ fs) h k = absurd k
loads_alike x s e f next other then (round us ∷ es) [] h k = let b = load_ends x s other f k in absurd (round_or_refusal x s us b.0 h.0 b.2)
loads_alike x s e f next other then (round us ∷ es) (round vs ∷ fs) h k =
    let q = one_list x s us vs h.0.wanted k.0.wanted in
    let r = then (with_asked s us) es fs h.1 (subst (λ l. other (with_asked s l) fs) (sym q) k.1) in
    ((q, r.0), r.1)
loads_alike x s e f next other then (round us ∷ es) (bound n ∷ fs) h k = absurd k
loads_alike x s e f next other then (round us ∷ es) (decided d ∷ fs) h k = absurd k
loads_alike x s e f next other then (bound n ∷ es) fs h k = absurd h
loads_alike x s e f next other then (decided d ∷ es) fs h k = absurd h

-- bindings
bind_ends : (x : Setup) (s : State) (n : Text) (m : Made) (next : List Entry → Type 0) (e : End) → Binds x s n m next [] e → (f : BindRefusal) × (e ≡ binding_refused f) × BindFault x s n m f
bind_ends x s n m next (binding_refused f) h = (f, refl, h)
bind_ends x s n m next (answered a) h = absurd h
bind_ends x s n m next (answer_refused f) h = absurd h
bind_ends x s n m next (opening_refused f) h = absurd h
bind_ends x s n m next (supply_refused f) h = absurd h

binds_alike : (x : Setup) (s : State) (n : Text) (m : Made) (e f : End) (next other : List Entry → Type 0) → ((es fs : List Entry) → next es → other fs → Alike es e fs f)
    → (es fs : List Entry) → Binds x s n m next es e → Binds x s n m other fs f → Alike es e fs f
binds_alike x s n m e f next other then [] [] h k =
    let a = bind_ends x s n m next e h in
    let b = bind_ends x s n m other f k in
    (tt, subst (λ z. EndsAlike z f) (sym a.1) (subst (λ z. EndsAlike (binding_refused a.0) z) (sym b.1) tt))
binds_alike x s n m e f next other then [] (bound j ∷ fs) h k = let a = bind_ends x s n m next e h in absurd (k.1 a.0 a.2)
binds_alike x s n m e f next other then [] (round vs ∷ fs) h k = absurd k
binds_alike x s n m e f next other then [] (decided d ∷ fs) h k = absurd k
binds_alike x s n m e f next other then (bound i ∷ es) [] h k = let b = bind_ends x s n m other f k in absurd (h.1 b.0 b.2)
binds_alike x s n m e f next other then (bound i ∷ es) (bound j ∷ fs) h k = let r = then es fs h.2 k.2 in ((h.0 ∙ sym k.0, r.0), r.1)
binds_alike x s n m e f next other then (bound i ∷ es) (round vs ∷ fs) h k = absurd k
binds_alike x s n m e f next other then (bound i ∷ es) (decided d ∷ fs) h k = absurd k
binds_alike x s n m e f next other then (round us ∷ es) fs h k = absurd h
binds_alike x s n m e f next other then (decided d ∷ es) fs h k = absurd h

-- decisions
decides_alike : (may : Option Decision → Type 0) (e f : End) (next other : List Entry → Type 0) → ((es fs : List Entry) → next es → other fs → Alike es e fs f)
    → (es fs : List Entry) → DecidesNow may next es → DecidesNow may other fs → Alike es e fs f
decides_alike may e f next other then (decided c ∷ es) (decided d ∷ fs) h k = then es fs h.1 k.1
decides_alike may e f next other then (decided c ∷ es) [] h k = absurd k
decides_alike may e f next other then (decided c ∷ es) (round vs ∷ fs) h k = absurd k
decides_alike may e f next other then (decided c ∷ es) (bound n ∷ fs) h k = absurd k
decides_alike may e f next other then [] fs h k = absurd h
decides_alike may e f next other then (round us ∷ es) fs h k = absurd h
decides_alike may e f next other then (bound n ∷ es) fs h k = absurd h

follows_alike : (may : State → Option Decision → Type 0) (x : Setup) (ps : List Policy) (s : State) (steps : List Step) (es fs : List Entry) (e f : End) → Follows may x ps s steps es e → Follows may x ps s steps fs f → Alike es e fs f
follows_alike may x ps s [] es fs e f h k = finishes_alike x ps s es fs e f h k
follows_alike may x ps s (load ∷ steps) es fs e f h k =
    ⊎_elim
    (λ a. ⊎_elim (λ b. follows_alike may x ps s steps es fs e f a.1 b.1) (λ b. absurd (loads_want x s (λ t gs. Follows may x ps t steps gs f) fs f b a.0)) k)
    (λ a. ⊎_elim (λ b. absurd (loads_want x s (λ t gs. Follows may x ps t steps gs e) es e a b.0)) (λ b. loads_alike x s e f (λ t gs. Follows may x ps t steps gs e) (λ t gs. Follows may x ps t steps gs f) (λ t gs hs p q. follows_alike may x ps t steps gs hs e f p q) es fs a b) k)
    h
follows_alike may x ps s (bind_name n m ∷ steps) es fs e f h k =
    binds_alike x s n m e f (λ gs. Follows may x ps (with_bound s n m) steps gs e) (λ gs. Follows may x ps (with_bound s n m) steps gs f) (λ gs hs p q. follows_alike may x ps (with_bound s n m) steps gs hs e f p q) es fs h k
follows_alike may x ps s (decide ∷ steps) es fs e f h k =
    decides_alike (may s) e f (λ gs. Follows may x ps s steps gs e) (λ gs. Follows may x ps s steps gs f) (λ gs hs p q. follows_alike may x ps s steps gs hs e f p q) es fs h k

-- A run doesn't open, or it opens and follows its steps.
abbrev Closed : Setup → List Entry → End → Type 0
Closed x es e = (f : OpenRefusal) × (e ≡ opening_refused f) × (es ≡ []) × OpenFault x.start f

abbrev Opened : (State → Option Decision → Type 0) → Setup → List Policy → List Step → List Entry → End → Type 0
Opened may x ps steps es e = ((f : OpenRefusal) → OpenFault x.start f → ⊥) × Follows may x ps at_start steps es e

pub opened_or_not : (may : State → Option Decision → Type 0) (x : Setup) (ps : List Policy) (steps : List Step) (es : List Entry) (e : End) → Runs may x ps steps es e → Closed x es e ⊎ Opened may x ps steps es e
opened_or_not may x ps steps es (opening_refused f) h = inl (f, refl, h.0, h.1)
opened_or_not may x ps steps es (answered a) h = inr h
opened_or_not may x ps steps es (supply_refused f) h = inr h
opened_or_not may x ps steps es (binding_refused f) h = inr h
opened_or_not may x ps steps es (answer_refused f) h = inr h

closed_alike : (x : Setup) (es fs : List Entry) (e f : End) → Closed x es e → Closed x fs f → Alike es e fs f
closed_alike x es fs e f a b = (
  subst (λ l. EntriesAlike l fs) (sym a.2) (subst (λ l. EntriesAlike [] l) (sym b.2) tt),
  subst (λ z. EndsAlike z f) (sym a.1) (subst (λ z. EndsAlike (opening_refused a.0) z) (sym b.1) tt),
)

pub runs_are_alike : (may : State → Option Decision → Type 0) (x : Setup) (ps : List Policy) (steps : List Step) (es fs : List Entry) (e f : End) → Runs may x ps steps es e → Runs may x ps steps fs f → EntriesAlike es fs × EndsAlike e f
runs_are_alike may x ps steps es fs e f h k =
    ⊎_elim (λ a. ⊎_elim (λ b. closed_alike x es fs e f a b) (λ b. absurd (b.0 a.0 a.3)) (opened_or_not may x ps steps fs f k))
    (λ a. ⊎_elim (λ b. absurd (a.0 b.0 b.3)) (λ b. follows_alike may x ps at_start steps es fs e f a.1 b.1) (opened_or_not may x ps steps fs f k))
    (opened_or_not may x ps steps es e h)
