-- What is read at values depends on the store alone.
use Rattle.std.proofs.Common.{◌≡◌, List, [], ◌∷◌, refl, ap}
use Rattle.std.specs.Prelude.{Some, false}
use Rattle.cedar_expr_model.specs.Name.{Text}
use Rattle.cedar_expr_model.specs.Value.{text, entity, V, prim}
use Rattle.cedar_store_model.specs.World.{World}
use Rattle.cedar_store_model.specs.Outcome.{bind}
use Rattle.cedar_store_model.specs.Store.{Store, look_up}
use Rattle.cedar_store_model.specs.Operators.{says}
use Rattle.cedar_store_model.specs.Reads.{part_read, part_tested, attribute_read, attribute_tested, found_in, within}
use Rattle.cedar_store_model.specs.Meaning.{picked, path_tested}
use Rattle.cedar_store_model.proofs.Named.{attributes_of, tags_of, tag_read, tag_tested}
use Rattle.cedar_store_model.specs.Alone.{store_alone}
use Rattle.cedar_store_model.specs.WorldLaws.{ReadsAsAlone}

module _ (w : World) (s : Store) (h : w.store ≡ look_up s) where
  same_read : (a : Text) (v : V) → attribute_read w a v ≡ attribute_read (store_alone s) a v
  same_read a (prim (entity u)) = ap (λ f. part_read attributes_of u a (f u)) h
  same_read a v = refl

  same_tested : (a : Text) (v : V) → attribute_tested w a v ≡ attribute_tested (store_alone s) a v
  same_tested a (prim (entity u)) = ap (λ f. part_tested attributes_of u a (f u)) h
  same_tested a v = refl

  same_path : (a : Text) (bs : List Text) (v : V) → path_tested w a bs v ≡ path_tested (store_alone s) a bs v
  same_path a [] v = same_tested a v
  same_path a (b ∷ bs) v = λ i. bind (same_tested a v i) (picked (bind (same_read a v i) (λ x. same_path b bs x i)) (Some (says false)))

  same_tag_read : (v x : V) → tag_read w v x ≡ tag_read (store_alone s) v x
  same_tag_read (prim (entity u)) (prim (text a)) = ap (λ f. part_read tags_of u a (f u)) h
  same_tag_read v x = refl

  same_tag_tested : (v x : V) → tag_tested w v x ≡ tag_tested (store_alone s) v x
  same_tag_tested (prim (entity u)) (prim (text a)) = ap (λ f. part_tested tags_of u a (f u)) h
  same_tag_tested v x = refl

  same_within : (v x : V) → within w v x ≡ within (store_alone s) v x
  same_within (prim (entity u)) x = ap (λ f. found_in u x (f u)) h
  same_within v x = refl

  pub reads_as_alone : ReadsAsAlone w s
  reads_as_alone = record { attribute = same_read; test = same_tested; path = same_path; within = same_within; tag = same_tag_read; tag_test = same_tag_tested }
