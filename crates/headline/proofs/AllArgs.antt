-- A call of an import on the flat side has all its arguments.
use Rattle.std.proofs.Common.{◌≡◌, ℕ, ◌≤◌, List, ◌∷◌, length, take, reverse, ap, subst, arith}
use Rattle.std.proofs.lemmas.List.{length-reverse, length-take}
use Rattle.wa_types.specs.declared.values.Value.{Value}
use Rattle.wa_types.specs.Modules.{func_type_at, type_at}
use Rattle.wa_types.specs.Syntax.{Code, call, call_indirect, plain}
use Rattle.wa_model.specs.Configuration.{Activation, Configuration, Label}
use Rattle.wa_model.specs.Step.{Next, asks, param_count, step}
use Rattle.wa_model.specs.Store.{Store}
use Rattle.guard_runs.specs.Beside.{Proper, ProperCode, Sides}
use Rattle.run_laws.proofs.CallArgs.{AtCall, next_so}

all_taken : (n : ℕ) (xs : List Value) → n ≤ length xs → length (reverse (take n xs)) ≡ n
all_taken n xs le = let a = length-reverse (take n xs) in let b = length-take n xs in omega arith

rest_is : (u v : Value) (xs ys : List Value) → u ∷ xs ≡ v ∷ ys → xs ≡ ys
rest_is u v xs ys e = cc

module _ (v : Sides) where
  abbrev AllNext : Next → Type 0
  AllNext (asks k i args d) = length args ≡ k
  AllNext _ = Unit {0}

  calls_all : (s : Store) (fn : ℕ) (under : List Activation) (ls ops : List Value) (labels : List Label) (c : Code) → ProperCode v s ls ops c
      → AtCall v.flat AllNext (λ k d. tt) (λ k vs s. tt) (λ k t s. tt) tt s fn under ls ops labels c
  calls_all s fn under ls ops labels (plain (call x) rest) h = all_taken (param_count (func_type_at v.flat x)) ops h.1
  calls_all s fn under ls ops labels (plain (call_indirect sort) rest) h =
      λ x n below is count. let size = ap length is in let room = h.1 in all_taken (param_count (type_at v.flat sort)) below (omega arith)
  calls_all s fn under ls ops labels _ h = tt

  pub all_args : (c d : Configuration) (k i : ℕ) (args : List Value) → Proper v c → step v.flat c ≡ asks k i args d → length args ≡ k
  all_args c d k i args proper is =
      subst AllNext is (next_so v.flat AllNext (λ k d. tt) (λ k vs s. tt) (λ k t s. tt) tt c
      (calls_all c.store c.here.func c.under c.here.locals c.here.operands c.here.labels c.here.code proper))
