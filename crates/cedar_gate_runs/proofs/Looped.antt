-- Steps one after the other, and rounds one after the other.
use Rattle.std.proofs.Common.{◌≡◌, ◌==◌, ◌≤◌, ◌<◌, ◌+◌, ℕ, List, [], ◌∷◌, ◌++◌, length, Bool, true, false, refl, sym, ap, ◌∙◌, subst, append_assoc, arith}
use Rattle.std.specs.Prelude.{Contains}
use Rattle.std.proofs.lemmas.List.{append-nil}
use Rattle.cedar_expr_model.specs.Name.{Text}
use Rattle.cedar_expr_model.specs.Uid.{Uid}
use Rattle.cedar_expr_model.specs.Made.{Made}
use Rattle.cedar_expr_model.proofs.Lists.{contains_head, contains_tail, contains_cases, contains_none}
use Rattle.cedar_expr_model.specs.OfLaws.Represented.{IsRepresented}
use Rattle.cedar_gate_model.specs.Runs.{DecidesInPart, supplied_by, with_asked}
use Rattle.cedar_gate_model.specs.RunLaws.{bindings_in}
use Rattle.cedar_gate_model.specs.RunsAnswer.{Course, session_of}
use Rattle.cedar_gate_model.specs.Session.{Setup, State, NothingIsWanted, IsWantedList, SupplyRefusal, SupplyFault}
use Rattle.cedar_gate_model.specs.Transcript.{Step, load, bind_name, decide, Entry, round}
use Rattle.cedar_gate_model.specs.Did.{Loaded}
use Rattle.cedar_gate_model.proofs.Doing.{nothing, loaded_more}
use Rattle.cedar_gate_runs.proofs.Rounds.{AreSettled, settled_first, settled_more, below}
use Rattle.cedar_gate_runs.proofs.Stepped.{loading_stops}
use Rattle.cedar_gate_runs.proofs.Stopped.{stopped_on, stopped_after}
use Rattle.cedar_gate_runs.specs.Courses.{BindRepresented, DidSteps}
use Rattle.cedar_gate_runs.specs.Running.{Went, DidLoad, DidLoadAll, StopsLoad, HaltsLoading}
use Rattle.cedar_gate_runs.specs.Stopping.{IsRefused, Halts}
use Rattle.cedar_gate_runs.specs.declared.stops_with.Stop.{Stop}

-- the bindings of one of several steps are among theirs
bindings_more : (s : Step) (ss : List Step) (b : Text × Made) → Contains (bindings_in ss) b → Contains (bindings_in (s ∷ ss)) b
bindings_more load ss b k = k
bindings_more (bind_name n m) ss b k = contains_tail (n, m) (bindings_in ss) b k
bindings_more decide ss b k = k

binding_first : (s : Step) (ss : List Step) (b : Text × Made) → Contains (bindings_in (s ∷ [])) b → Contains (bindings_in (s ∷ ss)) b
binding_first load ss b k = absurd (contains_none b k)
binding_first (bind_name n m) ss b k = contains_cases (Contains (bindings_in (bind_name n m ∷ ss)) b) (n, m) [] b k (λ e. subst (λ z. Contains (bindings_in (bind_name n m ∷ ss)) z) e (contains_head (n, m) (bindings_in ss))) (λ h. absurd (contains_none b h))
binding_first decide ss b k = absurd (contains_none b k)

binding_within : (before : List Step) (s : Step) (after : List Step) (b : Text × Made) → Contains (bindings_in (s ∷ [])) b → Contains (bindings_in (before ++ s ∷ after)) b
binding_within [] s after b k = binding_first s after b k
binding_within (t ∷ before) s after b k = bindings_more t (before ++ s ∷ after) b (binding_within before s after b k)

pub one_represented : (c : Course) (before : List Step) (s : Step) (after : List Step) → BindRepresented c (before ++ s ∷ after) → BindRepresented c (s ∷ [])
one_represented c before s after h = λ b k. h b (binding_within before s after b k)

module _ {E : Type 0} (Stands : State → E → Type 0) where
  pub went_none : (c : Course) (s : State) (es : List Entry) (e : E) → Stands s e → Went Stands (DidSteps c s []) es es e
  went_none c s es e h = record { entries = []; state = s; leads = nothing (DecidesInPart (session_of c) c.submission.policies) (session_of c) s; added = sym (append-nil es); at = h }

  -- a step stopped after others
  pub halts_on : (c : Course) (s : State) (steps done rest : List Step) (before mid after : List Entry) (d : E) (stop : Stop) → done ++ rest ≡ steps → after ≡ mid
      → (w : Went Stands (DidSteps c s done) before mid d) → IsRefused (session_of c) c.submission.policies w.state rest [] stop → Halts (session_of c) c.submission.policies s steps before after stop
  halts_on c s steps done rest before mid after d stop each same w r =
      record { entries = w.entries; added = same ∙ w.added; stopped = stopped_on (session_of c) c.submission.policies s w.state steps done rest w.entries stop each w.leads r }

  -- loading stopped after all steps
  pub halts_after : (c : Course) (s : State) (steps : List Step) (before mid after : List Entry) (d : E) (stop : Stop) → (w : Went Stands (DidSteps c s steps) before mid d) → HaltsLoading (session_of c) w.state mid after stop
      → Halts (session_of c) c.submission.policies s steps before after stop
  halts_after c s steps before mid after d stop w h =
      record {
        entries = w.entries ++ h.entries;
        added = h.added ∙ ap (λ zs. zs ++ h.entries) w.added ∙ append_assoc before w.entries h.entries;
        stopped = stopped_after (session_of c) c.submission.policies s w.state h.state steps w.entries h.entries stop w.leads h.loaded (loading_stops (session_of c) c.submission.policies h.state stop h.stops);
      }

-- After some rounds.
pub record Loading {E : Type 0} (Stands : State → E → Type 0) (x : Setup) (s : State) (n : ℕ) (before after : List Entry) (e : E) : Type 0 where
  pub went : Went Stands (Loaded x s) before after e
  pub settled : AreSettled x went.state n
  pub few : n ≤ x.level

module _ {E : Type 0} (Stands : State → E → Type 0) (x : Setup) (s : State) where
  pub loading_none : (es : List Entry) (e : E) → Stands s e → Loading Stands x s 0 es es e
  loading_none es e h = record {
    went = record { entries = []; state = s; leads = refl; added = sym (append-nil es); at = h };
    settled = settled_first x s;
    few = omega arith;
  }

  -- a round more
  pub loading_more : (n : ℕ) (a b c : List Entry) (d e : E) (l : Loading Stands x s n a b d) → Went Stands (DidLoad x l.went.state true) b c e → Loading Stands x s (n + 1) a c e
  loading_more n a b c d e l w =
      let t = l.went.state in
      let (uids, r, es, is) = w.leads in
      record {
        went = record {
          entries = l.went.entries ++ round uids ∷ [];
          state = with_asked t uids;
          leads = loaded_more x s t l.went.entries uids l.went.leads r;
          added = w.added ∙ ap (λ zs. b ++ zs) es ∙ ap (λ zs. zs ++ round uids ∷ []) l.went.added ∙ append_assoc a l.went.entries (round uids ∷ []);
          at = subst (λ z. Stands z e) is w.at;
        };
        settled = settled_more x t uids n r l.settled;
        few = (let h = below x t uids n r l.settled in omega (arith, h));
      }

  -- no round more
  pub loading_ends : (n : ℕ) (a b c : List Entry) (d e : E) (l : Loading Stands x s n a b d) → Went Stands (DidLoad x l.went.state false) b c e → Went Stands (DidLoadAll x s) a c e
  loading_ends n a b c d e l w =
      let t = l.went.state in
      let (none, es, is) = w.leads in
      record {
        entries = l.went.entries;
        state = t;
        leads = (l.went.leads, none);
        added = w.added ∙ ap (λ zs. b ++ zs) es ∙ append-nil b ∙ l.went.added;
        at = subst (λ z. Stands z e) is w.at;
      }

  -- a round that stops
  pub loading_halts : (n : ℕ) (a b c : List Entry) (d : E) (stop : Stop) (l : Loading Stands x s n a b d) → c ≡ b → StopsLoad x l.went.state stop → HaltsLoading x s a c stop
  loading_halts n a b c d stop l same h = record { entries = l.went.entries; state = l.went.state; loaded = l.went.leads; added = same ∙ l.went.added; stops = h }

  -- there are no more rounds than the level
  pub loading_few : {A : Type 0} (n : ℕ) (a b : List Entry) (d : E) → Loading Stands x s n a b d → x.level < n → A
  loading_few n a b d l h = let f = l.few in absurd (omega (arith, f, h))

-- nothing is on the list of what is wanted
pub nothing_wanted : (x : Setup) (s : State) (us : List Uid) → IsWantedList x s us → us ≡ [] → NothingIsWanted x s
nothing_wanted x s us w e = λ u k. contains_none u (subst (λ vs. Contains vs u) e ((w.exact u).1 k))

-- what is wanted was taken in
pub round_done : (x : Setup) (s : State) (us : List Uid) → (us ≡ [] → ⊥) → IsWantedList x s us → ((f : SupplyRefusal) → SupplyFault x s (supplied_by x us) f → ⊥) → DidLoad x s true (round us ∷ []) (with_asked s us)
round_done x s us some w taken = (us, record { some_wanted = some; wanted = w; taken = taken }, refl, refl)

pub none_done : (x : Setup) (s : State) (us : List Uid) → IsWantedList x s us → us ≡ [] → DidLoad x s false [] s
none_done x s us w e = (nothing_wanted x s us w e, refl, refl)

-- a list whose length was tested
pub not_none : {X : Type 0} (xs : List X) (n : ℕ) (b : Bool) → n ≡ length xs → b ≡ (n == 0) → b ≡ false → xs ≡ [] → ⊥
not_none xs n b e h f k =
    let q : n ≡ 0 = e ∙ ap length k in
    let t : b ≡ true = h ∙ ap (λ m. m == 0) q in
    cc

pub bound_represented : (c : Course) (n : Text) (m : Made) → BindRepresented c (bind_name n m ∷ []) → IsRepresented c.functions.table m
bound_represented c n m h = h (n, m) (contains_head (n, m) [])
