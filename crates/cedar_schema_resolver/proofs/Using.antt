-- The common types that a type refers to.
use Rattle.std.proofs.Common.{◌≡◌, Bool, true, false, cond, List, [], ◌∷◌, ◌++◌, map, Some, None, find, refl, sym, ap, ◌∙◌, append_assoc, subst}
use Rattle.std.proofs.lemmas.List.{append-nil}
use Rattle.std.specs.Prelude.{Contains}
use Rattle.std.specs.List.{list_any}
use Rattle.std.specs.Option.{option_to_list}
use Rattle.cedar_expr_model.specs.Name.{Text, Name, name_eq}
use Rattle.cedar_expr_model.proofs.Lists.{contains_head, contains_tail, contains_cases, contains_none, map_has, map_from}
use Rattle.cedar_schema_model.specs.Reference.{to_entity, to_common, to_either, Meant, meant_common, meant_entity, meant_at}
use Rattle.cedar_schema_model.specs.Descent.{Chain, Reaches}
use Rattle.cedar_schema_decl.specs.Defined.{Defined, is_defined}
use Rattle.cedar_schema_decl.specs.Forms.{TypeForm}
use Rattle.cedar_schema_decl.specs.Trees.{Rows, in_a_row}
use Rattle.cedar_schema_resolver.specs.Descent.{HasParentIn}
use Rattle.cedar_schema_resolver.specs.Meanings.{meant_in, meant_in_fields}
use Rattle.cedar_schema_resolver.specs.Uses.{UsesIn, commons_among, commons_in, common_named, with_uses}

pub commons_among-append : (ms ls : List Meant) → commons_among (ms ++ ls) ≡ commons_among ms ++ commons_among ls
commons_among-append [] ls = refl
commons_among-append (meant_common n ∷ ms) ls = ap (λ ns. n ∷ ns) (commons_among-append ms ls)
commons_among-append (meant_entity n ∷ ms) ls = commons_among-append ms ls

pub nothing_more : (ns : List Name) → ns ≡ ns ++ []
nothing_more ns = sym (append-nil ns)

module _ (d : Defined) where
  pub common_alone : (n : Name) → common_named d n ≡ commons_among (option_to_list (find (is_defined d) (meant_at to_common n)))
  common_alone n = go (list_any (name_eq n) d.commons)
    where
      go : (b : Bool) → cond b (n ∷ []) [] ≡ commons_among (option_to_list (cond b (Some (meant_common n)) None))
      go true = refl
      go false = refl

  pub common_first : (n : Name) → common_named d n ≡ commons_among (option_to_list (find (is_defined d) (meant_at to_either n)))
  common_first n = go (list_any (name_eq n) d.commons) (list_any (name_eq n) d.entities)
    where
      go : (b c : Bool) → cond b (n ∷ []) [] ≡ commons_among (option_to_list (cond b (Some (meant_common n)) (cond c (Some (meant_entity n)) None)))
      go true c = refl
      go false true = refl
      go false false = refl

  pub entity_named : (n : Name) → [] ≡ commons_among (option_to_list (find (is_defined d) (meant_at to_entity n)))
  entity_named n = go (list_any (name_eq n) d.entities)
    where
      go : (b : Bool) → [] ≡ commons_among (option_to_list (cond b (Some (meant_entity n)) None))
      go true = refl
      go false = refl

  -- those of attributes, one after the other
  abbrev pub rows_use : Rows Name → List Name
  rows_use rows = commons_among (meant_in_fields d (in_a_row rows))

  pub rows_go_on : (rest later : Rows Name) (p : Text × (TypeForm Name × Bool)) (done more whole : List Name) → done ++ rows_use rest ≡ whole → rest ≡ p ∷ later → more ≡ done ++ commons_in d p.1.0 → more ++ rows_use later ≡ whole
  rows_go_on rest later p done more whole h e n =
      ap (λ ns. ns ++ rows_use later) n
      ∙ append_assoc done (commons_in d p.1.0) (rows_use later)
      ∙ ap (λ ns. done ++ ns) (sym (commons_among-append (meant_in d p.1.0) (meant_in_fields d (in_a_row later))))
      ∙ ap (λ rows. done ++ rows_use rows) (sym e)
      ∙ h

  pub rows_end : (rest : Rows Name) (done whole : List Name) → done ++ rows_use rest ≡ whole → rest ≡ [] → done ≡ whole
  rows_end rest done whole h e = nothing_more done ∙ ap (λ rows. done ++ rows_use rows) (sym e) ∙ h

  among_has : (ms : List Meant) (n : Name) → Contains ms (meant_common n) → Contains (commons_among ms) n
  among_has [] n h = absurd (contains_none (meant_common n) h)
  among_has (meant_common m ∷ ms) n h =
      contains_cases (Contains (m ∷ commons_among ms) n) (meant_common m) ms (meant_common n) h
      (λ e. let same : m ≡ n = cc in subst (Contains (m ∷ commons_among ms)) same (contains_head m (commons_among ms)))
      (λ c. contains_tail m (commons_among ms) n (among_has ms n c))
  among_has (meant_entity m ∷ ms) n h =
      contains_cases (Contains (commons_among ms) n) (meant_entity m) ms (meant_common n) h
      (λ e. absurd (cc))
      (λ c. among_has ms n c)

  among_from : (ms : List Meant) (n : Name) → Contains (commons_among ms) n → Contains ms (meant_common n)
  among_from [] n h = absurd (contains_none n h)
  among_from (meant_common m ∷ ms) n h =
      contains_cases (Contains (meant_common m ∷ ms) (meant_common n)) m (commons_among ms) n h
      (λ e. subst (λ k. Contains (meant_common m ∷ ms) (meant_common k)) e (contains_head (meant_common m) ms))
      (λ c. contains_tail (meant_common m) ms (meant_common n) (among_from ms n c))
  among_from (meant_entity m ∷ ms) n h = contains_tail (meant_entity m) ms (meant_common n) (among_from ms n h)

  module _ (ts : List (Name × TypeForm Name)) where
    abbrev line : Name × TypeForm Name → Name × List Name
    line p = (p.0, commons_in d p.1)

    pub uses_from : (m n : Name) → HasParentIn (with_uses d ts) m n → UsesIn d ts m n
    uses_from m n h =
        let p = map_from line ts h.0 h.1 in
        let name : p.0.0 ≡ m = ap (λ q. q.0) p.2 ∙ sym h.2 in (
          p.0.1,
          subst (λ k. Contains ts (k, p.0.1)) name p.1,
          among_from (meant_in d p.0.1) n (subst (λ ns. Contains ns n) (ap (λ q. q.1) (sym p.2)) h.3),
        )

    pub uses_to : (m n : Name) → UsesIn d ts m n → HasParentIn (with_uses d ts) m n
    uses_to m n h = (line (m, h.0), map_has line ts (m, h.0) h.1, refl, among_has (meant_in d h.0) n h.2)

    uses_chain : (m : Name) (zs : List Name) (n : Name) → Chain (HasParentIn (with_uses d ts)) m zs n → Chain (UsesIn d ts) m zs n
    uses_chain m [] n c = uses_from m n c
    uses_chain m (z ∷ zs) n c = (uses_from m z c.0, uses_chain z zs n c.1)

    parents_chain : (m : Name) (zs : List Name) (n : Name) → Chain (UsesIn d ts) m zs n → Chain (HasParentIn (with_uses d ts)) m zs n
    parents_chain m [] n c = uses_to m n c
    parents_chain m (z ∷ zs) n c = (uses_to m z c.0, parents_chain z zs n c.1)

    pub reach_uses : (m n : Name) → Reaches (HasParentIn (with_uses d ts)) m n → Reaches (UsesIn d ts) m n
    reach_uses m n r = (r.0, uses_chain m r.0 n r.1)

    pub reach_parents : (m n : Name) → Reaches (UsesIn d ts) m n → Reaches (HasParentIn (with_uses d ts)) m n
    reach_parents m n r = (r.0, parents_chain m r.0 n r.1)

    -- what uses something is one of these
    pub is_user : (m n : Name) → Reaches (UsesIn d ts) m n → Contains (map (λ p. p.0) ts) m
    is_user m n r = go r.0 r.1
      where
        first : (k : Name) → UsesIn d ts m k → Contains (map (λ p. p.0) ts) m
        first k u = map_has (λ (p : Name × TypeForm Name). p.0) ts (m, u.0) u.1

        go : (zs : List Name) → Chain (UsesIn d ts) m zs n → Contains (map (λ p. p.0) ts) m
        go [] c = first n c
        go (z ∷ zs) c = first z c.0
