use Rattle.std.proofs.Common.{◌≡◌, ap, map, OnOk, Result, Ok, Err, true}
use Rattle.cedar_expr_values.specs.Types.{core_of}
use Rattle.cedar_expr_functions.proofs.Taken.{all_taken}
use Rattle.cedar_expr_functions.specs.Functions.{function_signature}
use Rattle.cedar_expr_functions.proofs.extension.ExtensionFunction.call.Goals as goal

pub ask-requires : goal.ask-requires
ask-requires g c = all_taken (function_signature c.args.self.now) c.args.args.now c.takes_count.result c.as_slice.result.now c.in_ok-expected.field-0 c.takes_count.ensures c.if-not-takes_count.false (ap (map core_of) c.as_slice.ensures.value) c.in_ok-expected.ensures c.in-None.is

on_ok : {A E : Type 0} (r : Result A E) (P : Type 0) → P → OnOk r P
on_ok (Ok x) P h = h
on_ok (Err e) P h = tt

pub returns-in-None-clause-taken : goal.returns-in-None-clause-taken
returns-in-None-clause-taken g c = on_ok c.ask.result _ (all_taken (function_signature c.args.self.now) c.args.args.now c.takes_count.result c.as_slice.result.now c.in_ok-expected.field-0 c.takes_count.ensures c.if-not-takes_count.false (ap (map core_of) c.as_slice.ensures.value) c.in_ok-expected.ensures c.in-None.is)
