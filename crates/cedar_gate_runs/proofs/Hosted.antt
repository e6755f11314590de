-- What an honest host answers is what the store of the setup answers.
use Rattle.std.proofs.Common.{◌≡◌, List, [], ◌∷◌, ◌++◌, map, Option, Some, None, refl, sym, ap, ◌∙◌, subst}
use Rattle.std.specs.Prelude.{Contains, IfSome, option_map}
use Rattle.cedar_expr_names.specs.Views.{uid_of}
use Rattle.cedar_expr_names.specs.declared.entity.EntityUID.{EntityUID}
use Rattle.cedar_expr_model.specs.Uid.{Uid}
use Rattle.cedar_expr_model.specs.Made.{Made}
use Rattle.cedar_expr_model.specs.Value.{V}
use Rattle.cedar_expr_model.proofs.Lists.{map_has, map_from}
use Rattle.cedar_store_entities.specs.Views.{bare_entity, entity_seen, entity_uid}
use Rattle.cedar_store_entities.specs.declared.entity.Entity.{Entity}
use Rattle.cedar_store_model.specs.World as world
use Rattle.cedar_evaluator_model.specs.OfLaws.WellMade.{IsEntityRepresented}
use Rattle.cedar_gate_runs.specs.Hosts.{Answers, answered_of, answer_from}
use Rattle.cedar_gate_model.proofs.Doing.{nothing}
use Rattle.cedar_gate_model.specs.Did.{Loaded}
use Rattle.cedar_gate_model.specs.Runs.{DecidesInPart, supplied_by, with_asked}
use Rattle.cedar_gate_model.specs.RunsAnswer.{Course, session_of}
use Rattle.cedar_gate_model.specs.Session.{Setup, State, IsWantedList}
use Rattle.cedar_gate_model.specs.Transcript.{Step, Entry, round, bound, decided}
use Rattle.cedar_gate_runs.specs.Courses.{DidSteps, HostStays, IsHost, IsMoment}
use Rattle.cedar_gate_runs.specs.Supplies.{supplied_pair, supplied_of, supplied_uids, AreAnswers}

-- one that was honest before another moment, and before this one
pub stays_on : {H : Type 0} (IsHonest : H → Type 0) (answers : H → Answers) (g h k : H) → HostStays IsHonest answers g h → HostStays IsHonest answers h k → HostStays IsHonest answers g k
stays_on IsHonest answers g h k first second honest = let b = second honest in let a = first b.0 in (a.0, b.1 ∙ a.1)

-- a host with the same store has that of the course
pub host_with : {H : Type 0} (answers : H → Answers) (c : Course) (s : State) (steps : List Step) (g h : H) → answers h ≡ answers g → IsHost answers c s steps g → IsHost answers c s steps h
host_with answers c s steps g h same i =
    record {
      store = λ u. i.store u ∙ ap (λ (a : Answers). option_map bare_entity (a u)) (sym same);
      represented = λ t us u e m w j k. i.represented t us u e m w j (ap (λ (a : Answers). a u) (sym same) ∙ k);
    }

-- rounds after rounds
rounds_on : (x : Setup) (s t u : State) (es fs : List Entry) → Loaded x s es t → Loaded x t fs u → Loaded x s (es ++ fs) u
rounds_on x s t u [] fs h k = subst (λ r. Loaded x r fs u) h k
rounds_on x s t u (round uids ∷ es) fs h k = (h.0, rounds_on x (with_asked s uids) t u es fs h.1 k)
rounds_on x s t u (bound n ∷ es) fs h k = absurd h
rounds_on x s t u (decided d ∷ es) fs h k = absurd h

-- no steps lead nowhere
none_done : (c : Course) (s t : State) (done rest : List Step) (es : List Entry) → done ++ rest ≡ [] → DidSteps c s done es t → t ≡ s
none_done c s t [] rest es split did = did.1
none_done c s t (step ∷ done) rest es split did = cc

-- the moment that a run begins with
now : (c : Course) (s : State) → IsMoment c s [] s
now c s = record { done = []; rest = []; split = refl; entries = []; rounds = []; state = s; did = nothing (DecidesInPart (session_of c) c.submission.policies) (session_of c) s; loaded = refl }

module _ {H : Type 0} (answers : H → Answers) (c : Course) (s t : State) (h : H) where
  -- a host of a course through steps is one through the rounds after some of them
  pub host_after : (steps done rest : List Step) (es : List Entry) → done ++ rest ≡ steps → DidSteps c s done es t → IsHost answers c s steps h → IsHost answers c t [] h
  host_after steps done rest es split did i = record {
    store = i.store;
    represented = λ u us v e m.
        i.represented u us v e (record {
          done = done;
          rest = rest;
          split = split;
          entries = es;
          rounds = m.rounds;
          state = t;
          did = did;
          loaded = subst (λ r. Loaded (session_of c) r m.rounds u) (none_done c t m.state m.done m.rest m.entries m.split m.did) m.loaded;
        });
  }

  -- and after rounds through those that follow
  pub host_loaded : (es : List Entry) → Loaded (session_of c) s es t → IsHost answers c s [] h → IsHost answers c t [] h
  host_loaded es loaded i = record {
    store = i.store;
    represented = λ u us v e m.
        let rest : Loaded (session_of c) t m.rounds u = subst (λ r. Loaded (session_of c) r m.rounds u) (none_done c t m.state m.done m.rest m.entries m.split m.did) m.loaded in
        i.represented u us v e (record {
          done = [];
          rest = [];
          split = refl;
          entries = [];
          rounds = es ++ m.rounds;
          state = s;
          did = nothing (DecidesInPart (session_of c) c.submission.policies) (session_of c) s;
          loaded = rounds_on (session_of c) s t u es m.rounds loaded rest;
        });
  }

abbrev Told : Type 0
Told = Uid × Option (Uid × world.Entity Made)

-- an answer without the calls
abbrev without_calls : Told → Uid × Option (Uid × world.Entity V)
without_calls a = (a.0, option_map (λ p. (p.0, bare_entity p.1)) a.1)

pair_told : (u : EntityUID) (o : Option Entity) → supplied_pair (u, o) ≡ without_calls (answered_of (u, o))
pair_told u None = refl
pair_told u (Some e) = refl

all_told : (ps : List (EntityUID × Option Entity)) → supplied_of ps ≡ map without_calls (map answered_of ps)
all_told [] = refl
all_told (p ∷ ps) = λ i. pair_told p.0 p.1 i ∷ all_told ps i

all_uids : (ps : List (EntityUID × Option Entity)) → supplied_uids ps ≡ map (λ (a : Told). a.0) (map answered_of ps)
all_uids [] = refl
all_uids (p ∷ ps) = ap (λ us. uid_of p.0 ∷ us) (all_uids ps)

uids_of_answers : (store : Answers) (us : List Uid) → map (λ (a : Told). a.0) (map (answer_from store) us) ≡ us
uids_of_answers store [] = refl
uids_of_answers store (u ∷ us) = ap (λ vs. u ∷ vs) (uids_of_answers store us)

answer_bare : (u : Uid) (o : Option (world.Entity Made)) (k : Option (world.Entity V)) → k ≡ option_map bare_entity o
    → ◌≡◌ {A = Uid × Option (Uid × world.Entity V)} (u, option_map (λ (p : Uid × world.Entity Made). (p.0, bare_entity p.1)) (option_map (λ (e : world.Entity Made). (u, e)) o)) (u, option_map (λ (e : world.Entity V). (u, e)) k)
answer_bare u None k h = λ i. (u, ap (option_map (λ (e : world.Entity V). (u, e))) (sym h) i)
answer_bare u (Some e) k h = λ i. (u, ap (option_map (λ (e : world.Entity V). (u, e))) (sym h) i)

answers_bare : (x : Setup) (store : Answers) → ((u : Uid) → x.store u ≡ option_map bare_entity (store u)) → (us : List Uid) → map without_calls (map (answer_from store) us) ≡ supplied_by x us
answers_bare x store same [] = refl
answers_bare x store same (u ∷ us) = λ i. answer_bare u (store u) (x.store u) (same u) i ∷ answers_bare x store same us i

held_by : (u : Uid) (o : Option (world.Entity Made)) (p : Uid × world.Entity Made) → option_map (λ (e : world.Entity Made). (u, e)) o ≡ Some p → o ≡ Some p.1
held_by u None p h = cc
held_by u (Some e) p h = let q : (u, e) ≡ p = cc in ap (λ (z : Uid × world.Entity Made). Some z.1) q

module _ {H : Type 0} (answers : H → Answers) (c : Course) (s : State) (h : H) (i : IsHost answers c s [] h) (ps : List (EntityUID × Option Entity)) (us : List Uid) (e : map answered_of ps ≡ map (answer_from (answers h)) us) where
  pub supplied_is : supplied_of ps ≡ supplied_by (session_of c) us
  supplied_is = all_told ps ∙ ap (map without_calls) e ∙ answers_bare (session_of c) (answers h) i.store us

  uids_are : supplied_uids ps ≡ us
  uids_are = all_uids ps ∙ ap (map (λ (a : Told). a.0)) e ∙ uids_of_answers (answers h) us

  -- what is answered to what is wanted is represented
  represented : IsWantedList (session_of c) s us → (u : EntityUID) (o : Option Entity) → Contains ps (u, o) → IfSome o (λ e. IsEntityRepresented c.functions.table (entity_seen e))
  represented w u None k = tt
  represented w u (Some f) k =
      let a = subst (λ zs. Contains zs (answered_of (u, Some f))) e (map_has answered_of ps (u, Some f) k) in
      let b = map_from (answer_from (answers h)) us (answered_of (u, Some f)) a in
      let q : option_map (λ (e : world.Entity Made). (b.0, e)) (answers h b.0) ≡ Some (entity_uid f, entity_seen f) = ap (λ (z : Told). z.1) b.2 in
      i.represented s us b.0 (entity_seen f) (now c s) w b.1 (held_by b.0 (answers h b.0) (entity_uid f, entity_seen f) q)

  pub are_answers : IsWantedList (session_of c) s us → AreAnswers (session_of c) ps
  are_answers w = record {
    answered = supplied_is ∙ ap (supplied_by (session_of c)) (sym uids_are);
    represented = λ p k. represented w p.0 p.1 k;
  }
