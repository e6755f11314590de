-- Common types as nodes of a graph.
use Rattle.std.proofs.Common.{◌≡◌, ℕ, ◌<◌, ◌+◌, List, [], ◌∷◌, ◌++◌, map, length, get_or, take, refl, sym, ap, ◌∙◌, subst, arith}
use Rattle.std.proofs.lemmas.List.{take_more, map-append, length-map}
use Rattle.std.proofs.lemmas.List.Elements.{Contains-get_or}
use Rattle.std.specs.Prelude.{Contains}
use Rattle.std.specs.declared.alloc.Global.{Global}
use Rattle.std.specs.declared.vec.Vec.{Vec}
use Rattle.cedar_expr_model.specs.Name.{Name}
use Rattle.cedar_expr_names.specs.Views.{name_of}
use Rattle.cedar_expr_names.specs.declared.internal_name.InternalName.{InternalName}
use Rattle.cedar_schema_model.specs.BagLaws.{HasTwice}
use Rattle.cedar_schema_model.specs.Descent.{Chain, Reaches}
use Rattle.cedar_schema_resolver.specs.Graphs.{Graph, HasEdge, IsOrder}
use Rattle.cedar_schema_decl.specs.Defined.{Defined}
use Rattle.cedar_schema_decl.specs.Definitions.{common_form}
use Rattle.cedar_schema_decl.specs.Forms.{TypeForm}
use Rattle.cedar_schema_decl.specs.declared.json_schema.CommonType.{CommonType}
use Rattle.cedar_schema_resolver.specs.Descent.{nodes_in, IsGraphOf}
use Rattle.cedar_schema_resolver.specs.Numbers.{IsAt, AreOnce, StandsTwice, StoodBefore, names_in, seen_nodes}
use Rattle.cedar_schema_resolver.proofs.Graphing.{names_chain}
use Rattle.cedar_schema_resolver.proofs.Places.{again_at, at_map, at_one}
use Rattle.cedar_schema_resolver.specs.Solved.{names_of, AreSorted}
use Rattle.cedar_schema_resolver.specs.Uses.{UsesIn, common_forms, commons_in, with_uses}
use Rattle.cedar_schema_resolver.proofs.Using.{reach_uses}

abbrev Nodes : Type 0
Nodes = List (InternalName × Vec InternalName Global)

abbrev Written : Type 0
Written = List (InternalName × CommonType InternalName)

module _ (d : Defined) where
  abbrev line : InternalName × CommonType InternalName → Name × List Name
  line e = (name_of e.0, commons_in d (common_form name_of e.1))

  at_once : (es : Written) → with_uses d (common_forms es) ≡ map line es
  at_once [] = refl
  at_once (e ∷ es) = ap (λ ls. line e ∷ ls) (at_once es)

  -- one more
  pub one_node : (es : Written) (i : ℕ) (e : InternalName × CommonType InternalName) (ns ms : Nodes) (name : InternalName) (used : Vec InternalName Global) → i < length es → e ≡ get_or es i e
      → seen_nodes name_of ns ≡ with_uses d (common_forms (take i es)) → ms ≡ ns ++ (name, used) ∷ [] → name_of name ≡ name_of e.0 → map name_of used.items ≡ commons_in d (common_form name_of e.1)
      → seen_nodes name_of ms ≡ with_uses d (common_forms (take (i + 1) es))
  one_node es i e ns ms name used l is h push n u =
      ap (seen_nodes name_of) push
      ∙ map-append (λ (t : InternalName × Vec InternalName Global). (name_of t.0, map name_of t.1.items)) ns ((name, used) ∷ [])
      ∙ (λ j. (h ∙ at_once (take i es)) j ++ (n j, u j) ∷ [])
      ∙ ap (λ x. map line (take i es) ++ line x ∷ []) is
      ∙ sym (map-append line (take i es) (get_or es i e ∷ []))
      ∙ ap (map line) (sym (take_more es i e l))
      ∙ sym (at_once (take (i + 1) es))

  names_seen : (ns : Nodes) → names_in name_of ns ≡ nodes_in (seen_nodes name_of ns)
  names_seen [] = refl
  names_seen (n ∷ ns) = ap (λ ms. name_of n.0 ∷ ms) (names_seen ns)

  names_used : (ts : List (Name × TypeForm Name)) → nodes_in (with_uses d ts) ≡ names_of ts
  names_used [] = refl
  names_used (t ∷ ts) = ap (λ ns. t.0 ∷ ns) (names_used ts)

  module _ (ns : Nodes) (ts : List (Name × TypeForm Name)) (h : seen_nodes name_of ns ≡ with_uses d ts) where
    node_names : names_in name_of ns ≡ names_of ts
    node_names = names_seen ns ∙ ap nodes_in h ∙ names_used ts

    pub twice : (i : ℕ) (n : Name) → StoodBefore (names_in name_of ns) i → IsAt (names_of ts) i n → StandsTwice (names_of ts) n
    twice i n t a =
        let s = subst (λ ms. StoodBefore ms i) node_names t in
        again_at (names_of ts) i n a (subst (Contains (take i (names_of ts))) (at_one (names_of ts) i s.0 n s.1 a) s.2)

    pub sorted : (g : Graph) (is : List ℕ) → IsGraphOf (seen_nodes name_of ns) g → AreOnce (names_in name_of ns) → IsOrder g is → AreSorted d ts is
    sorted g is graph once order = record {
      graph = g;
      is_graph = subst (λ ms. IsGraphOf ms g) h graph;
      is_order = order;
      once = λ t. once.none (subst HasTwice (sym node_names) t);
    }

    pub cycle : (g : Graph) (i : ℕ) (n : Name) → IsGraphOf (seen_nodes name_of ns) g → Reaches (HasEdge g) i i → IsAt (names_of ts) i n → Reaches (UsesIn d ts) n n
    cycle g i n graph r a =
        let b = subst (λ ms. IsAt ms i n) (sym (names_used ts)) a in
        reach_uses d ts n n (names_chain (with_uses d ts) g (subst (λ ms. IsGraphOf ms g) h graph) i r.0 i n n r.1 b b)

  -- a node that stood before
  pub stood_there : (es : Written) (ns : Nodes) (i : ℕ) → seen_nodes name_of ns ≡ with_uses d (common_forms es) → StoodBefore (names_in name_of ns) i → i < length es
  stood_there es ns i h t =
      let l = t.1.0 in
      let size = ap length (node_names ns (common_forms es) h) ∙ length-map (common_forms es) (λ (p : Name × TypeForm Name). p.0) ∙ length-map es (λ (f : InternalName × CommonType InternalName). (name_of f.0, common_form name_of f.1)) in
      omega (arith, l, size)

  -- a node that something leads to
  pub led_to : (es : Written) (ns : Nodes) (g : Graph) (i : ℕ) → seen_nodes name_of ns ≡ with_uses d (common_forms es) → IsGraphOf (seen_nodes name_of ns) g → Reaches (HasEdge g) i i → i < length es
  led_to es ns g i h graph r =
      let l = go i r.0 i r.1 in
      let size = graph.size ∙ ap length (h ∙ at_once es) ∙ length-map es line in
      omega (arith, l, size)
    where
      go : (j : ℕ) (zs : List ℕ) (k : ℕ) → Chain (HasEdge g) j zs k → k < length g
      go j [] k c = graph.within.each j k c
      go j (z ∷ zs) k c = go z zs k c.1

-- the common type of a number
pub form_at : (es : Written) (i : ℕ) (e : InternalName × CommonType InternalName) → IsAt es i e → IsAt (common_forms es) i (name_of e.0, common_form name_of e.1)
form_at es i e a = at_map (λ (f : InternalName × CommonType InternalName). (name_of f.0, common_form name_of f.1)) es i e a

pub name_there : (es : Written) (i : ℕ) (e : InternalName × CommonType InternalName) (n : Name) → IsAt es i e → n ≡ name_of e.0 → IsAt (names_of (common_forms es)) i n
name_there es i e n a q = subst (IsAt (names_of (common_forms es)) i) (sym q) (at_map (λ (p : Name × TypeForm Name). p.0) (common_forms es) i (name_of e.0, common_form name_of e.1) (form_at es i e a))

-- each number of an order is one of a common type
pub is_number : (d : Defined) (es : Written) (is : List ℕ) → AreSorted d (common_forms es) is → (k : ℕ) → k < length is → get_or is k 0 < length es
is_number d es is s k l =
    let m = s.is_order.within (get_or is k 0) (Contains-get_or is k 0 l) in
    let size = s.is_graph.size ∙ ap length (at_once d es) ∙ length-map es (line d) in
    omega (arith, m, size)
