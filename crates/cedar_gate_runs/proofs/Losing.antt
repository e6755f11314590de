-- What the host was asked for beyond the rounds, and how many failures it has had.
use Rattle.std.proofs.Common.{◌≡◌, ◌∙◌, ℕ, List, [], ◌∷◌, ◌++◌, inl, inr, ⊎_elim, ◌⊎◌, refl, sym, ap, subst, append_assoc}
use Rattle.std.specs.Prelude.{Contains, Option, Result, Ok, Err, OnErr}
use Rattle.std.proofs.lemmas.List.{append-nil, flat_map_more}
use Rattle.std.proofs.lemmas.List.Elements.{Contains-append_cases}
use Rattle.cedar_expr_model.specs.Uid.{Uid}
use Rattle.cedar_schema_model.specs.BagLaws.{HasTwice}
use Rattle.cedar_store_model.specs.Answer.{Answer}
use Rattle.cedar_gate_model.specs.DoneBy.{HasDone, MomentsKeep, WantedIsNew}
use Rattle.cedar_gate_model.specs.GateLaws.{moment_after, asked_in}
use Rattle.cedar_gate_model.specs.Headline.{KeepsPromises}
use Rattle.cedar_gate_model.specs.Moment.{Moment, at_first}
use Rattle.cedar_gate_model.specs.RunsAnswer.{Course, session_of, IsProper, MakeFairly}
use Rattle.cedar_gate_model.specs.Session.{Setup, State, at_start, IsWantedList}
use Rattle.cedar_gate_model.specs.Transcript.{Step, Entry, round, bound, decided, after}
use Rattle.cedar_gate_runs.proofs.Looped.{Loading}
use Rattle.cedar_gate_runs.specs.Asking.{rounds_of, AskedRounds}
use Rattle.cedar_gate_runs.specs.Counting.{count_after, KeepsCount}
use Rattle.cedar_gate_runs.specs.Courses.{DidSteps, IsOf}
use Rattle.cedar_gate_runs.specs.Hosts.{failures_after}
use Rattle.cedar_gate_runs.specs.Lost.{AskedLast, StopsLoading, StopsAt, AskedSoFar, uids_in, AsksOnce}
use Rattle.cedar_gate_runs.specs.Running.{Went, DidLoadAll}
use Rattle.cedar_gate_runs.specs.Steps.{steps_of}
use Rattle.cedar_gate_runs.specs.StopsWith.{host_stop, supply_stop, bind_stop, answer_stop}
use Rattle.cedar_gate_runs.specs.declared.host.HostFault.{HostFault}
use Rattle.cedar_gate_runs.specs.declared.host.HostFault.TheVariants as host
use Rattle.cedar_gate_runs.specs.declared.sessions.Refusal.{Refusal}
use Rattle.cedar_gate_runs.specs.declared.sessions.Refusal.TheVariants.{OutOfMemory, Numbered}
use Rattle.cedar_gate_runs.specs.declared.steps.Step as code
use Rattle.cedar_gate_runs.specs.declared.stops_with.Stop.{Stop}
use Rattle.cedar_gate_runs.specs.declared.stops_with.Stop.TheVariants as stop

-- what holds anyway holds where it came to nothing
pub on_err : {A B : Type 0} (P : Type 0) (r : Result A B) → P → OnErr r P
on_err P (Ok a) h = tt
on_err P (Err e) h = h

-- counts
pub host_counts : (A : Type 0) (f : HostFault) (m n : ℕ) → m ≡ failures_after {A = A} (Err f) n → m ≡ count_after (host_stop f) n
host_counts A host.Memory m n e = e
host_counts A host.Device m n e = e

pub supply_counts : (r : Refusal) → KeepsCount (supply_stop r)
supply_counts OutOfMemory n = refl
supply_counts (Numbered k) n = refl

pub bind_counts : (r : Refusal) → KeepsCount (bind_stop r)
bind_counts OutOfMemory n = refl
bind_counts (Numbered k) n = refl

pub answer_counts : (r : Refusal) → KeepsCount (answer_stop r)
answer_counts OutOfMemory n = refl
answer_counts (Numbered k) n = refl

pub memory_counts : KeepsCount stop.Memory
memory_counts n = refl

-- a stop that is no fault of the host leaves its count
pub kept_count : (s : Stop) (m n : ℕ) → KeepsCount s → m ≡ n → m ≡ count_after s n
kept_count s m n h e = e ∙ sym (h n)

-- what was asked for last
pub none_last : (x : Setup) (s : State) (told : List (List Uid)) → AskedLast x s told told
none_last x s told = inl refl

pub wanted_last : (x : Setup) (s : State) (told asked : List (List Uid)) (us vs : List Uid) → vs ≡ us → (us ≡ [] → ⊥) → IsWantedList x s us → (asked ≡ told) ⊎ (asked ≡ told ++ vs ∷ []) → AskedLast x s told asked
wanted_last x s told asked us vs same some wanted (inl e) = inl e
wanted_last x s told asked us vs same some wanted (inr e) = inr (us, some, wanted, e ∙ ap (λ z. told ++ z ∷ []) same)

-- beyond the rounds
pub last_on : (x : Setup) (s : State) (first told asked : List (List Uid)) (es fs : List Entry) → AskedRounds first told es → fs ≡ es → AskedLast x s told asked → AskedLast x s (first ++ rounds_of fs) asked
last_on x s first told asked es fs h same l = subst (λ z. AskedLast x s z asked) (h ∙ ap (λ z. first ++ rounds_of z) (sym same)) l

module _ {E : Type 0} (Stands : State → E → Type 0) where
  -- a round that stops after others
  pub loading_last : (x : Setup) (s : State) (n : ℕ) (before mid after : List Entry) (d : E) (first told asked : List (List Uid)) (l : Loading Stands x s n before mid d) → after ≡ mid → AskedRounds first told mid
      → AskedLast x l.went.state told asked → StopsLoading x s before after first asked
  loading_last x s n before mid after d first told asked l same h last =
      record { entries = l.went.entries; state = l.went.state; added = same ∙ l.went.added; loaded = l.went.leads; last = last_on x l.went.state first told asked mid after h same last }

  -- a step that stops after others
  pub step_last : (c : Course) (s : State) (steps done rest : List Step) (before mid after : List Entry) (d : E) (first told asked : List (List Uid)) → done ++ rest ≡ steps → after ≡ mid
      → (w : Went Stands (DidSteps c s done) before mid d) → AskedRounds first told mid → AskedLast (session_of c) w.state told asked → StopsAt c s steps before after first asked
  step_last c s steps done rest before mid after d first told asked each same w h last =
      record {
        entries = w.entries;
        state = w.state;
        added = same ∙ w.added;
        done = record { done = done; rest = rest; first = w.entries; rounds = []; middle = w.state; each = each; entries = append-nil w.entries; did = w.leads; loaded = refl };
        last = last_on (session_of c) w.state first told asked mid after h same last;
      }

  -- loading that stops after all steps
  pub rounds_last : (c : Course) (s : State) (steps : List Step) (before mid after : List Entry) (d : E) (first asked : List (List Uid)) → (w : Went Stands (DidSteps c s steps) before mid d)
      → StopsLoading (session_of c) w.state mid after first asked → StopsAt c s steps before after first asked
  rounds_last c s steps before mid after d first asked w h =
      record {
        entries = w.entries ++ h.entries;
        state = h.state;
        added = h.added ∙ ap (λ zs. zs ++ h.entries) w.added ∙ append_assoc before w.entries h.entries;
        done = record { done = steps; rest = []; first = w.entries; rounds = h.entries; middle = w.state; each = append-nil steps; entries = refl; did = w.leads; loaded = h.loaded };
        last = h.last;
      }

  -- an answer that is refused after all steps and rounds
  pub answer_last : (c : Course) (s : State) (steps : List Step) (before mid after : List Entry) (d e : E) (first asked : List (List Uid)) → (w : Went Stands (DidSteps c s steps) before mid d)
      → Went Stands (DidLoadAll (session_of c) w.state) mid after e → AskedRounds first asked after → StopsAt c s steps before after first asked
  answer_last c s steps before mid after d e first asked w v h =
      rounds_last c s steps before mid after d first asked w (record { entries = v.entries; state = v.state; added = v.added; loaded = v.leads.0; last = inl h })

-- a run
pub so_far : {E : Type 0} (Stands : Course → State → E → Type 0) (c : Course) (e : E) (steps : List code.Step) (o : IsOf Stands c e steps) (before after : List Entry) (first asked : List (List Uid)) → before ≡ []
    → StopsAt c at_start (steps_of steps) before after first asked → AskedSoFar c first asked after
so_far Stands c e steps o before after first asked none h =
    let added : after ≡ h.entries = h.added ∙ ap (λ zs. zs ++ h.entries) none in
    record {
      state = h.state;
      came = record { opens = o.opens; done = subst (λ ys. HasDone c at_start ys after h.state) o.steps (subst (λ zs. HasDone c at_start (steps_of steps) zs h.state) (sym added) h.done) };
      last = h.last;
    }

-- the uids of the rounds are those that were asked for
asked_after : (m : Moment) (es : List Entry) → (moment_after m es).asked ≡ m.asked ++ uids_in (rounds_of es)
asked_after m [] = sym (append-nil m.asked)
asked_after m (round us ∷ es) = asked_after (after m (round us)) es ∙ append_assoc m.asked us (uids_in (rounds_of es))
asked_after m (bound n ∷ es) = asked_after (after m (bound n)) es
asked_after m (decided d ∷ es) = asked_after m es

asked_rounds : (es : List Entry) → asked_in es ≡ uids_in (rounds_of es)
asked_rounds es = asked_after at_first es

-- nothing twice
pub rounds_once : (c : Course) (first asked : List (List Uid)) (es : List Entry) (answer : Option Answer) → KeepsPromises c es answer → AskedRounds first asked es → AsksOnce c first asked es
rounds_once c first asked es answer keeps h = record {
  lists = rounds_of es;
  gained = h;
  once = subst (λ us. HasTwice us → ⊥) (asked_rounds es) keeps.once;
  near = λ u k. keeps.near u (subst (λ us. Contains us u) (sym (asked_rounds es)) k);
}

pub stopped_once : MomentsKeep → WantedIsNew → (c : Course) (first asked : List (List Uid)) (es : List Entry) → IsProper c → MakeFairly c.functions → AskedSoFar c first asked es → AsksOnce c first asked es
stopped_once keep new c first asked es proper fair h = by_last h.last
  where
    by_last : AskedLast (session_of c) h.state (first ++ rounds_of es) asked → AsksOnce c first asked es
    by_last (inl e) =
        let keeps = keep c es h.state proper fair h.came in
        record {
          lists = rounds_of es;
          gained = e;
          once = subst (λ us. HasTwice us → ⊥) (asked_rounds es) keeps.once;
          near = λ u k. keeps.near u (subst (λ us. Contains us u) (sym (asked_rounds es)) k);
        }
    by_last (inr (us, some, wanted, e)) =
        let keeps = keep c es h.state proper fair h.came in
        let k = new c es h.state us proper.admitted h.came wanted in
        let all : asked_in es ++ us ≡ uids_in (rounds_of es ++ us ∷ []) = ap (λ z. z ++ us) (asked_rounds es) ∙ flat_map_more (λ z. z) [] (rounds_of es) us in
        record {
          lists = rounds_of es ++ us ∷ [];
          gained = e ∙ append_assoc first (rounds_of es) (us ∷ []);
          once = subst (λ z. HasTwice z → ⊥) all k.0;
          near = λ u m. ⊎_elim (λ i. keeps.near u i) (λ i. k.1 u i) (Contains-append_cases (asked_in es) us u (subst (λ z. Contains z u) (sym all) m));
        }
