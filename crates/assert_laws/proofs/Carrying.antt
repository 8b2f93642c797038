-- Who stands at numbered calls is told of asserted activations as of those without.
use Rattle.std.proofs.Common.{◌≡◌, ◌∙◌, ℕ, List, [], ◌∷◌, Bool, true, refl, ap, subst}
use Rattle.std.specs.Prelude.{◌&&◌}
use Rattle.wa_types.specs.Modules.{func_type_at, type_at}
use Rattle.wa_types.specs.Pausing.{Callee}
use Rattle.wa_types.specs.Syntax.{FuncType, Module}
use Rattle.wa_types.specs.declared.values.Value.{Value}
use Rattle.wa_model.specs.Configuration.{Activation}
use Rattle.wa_model.specs.Step.{param_count, same_func_type}
use Rattle.guard_runs.specs.Alike.{Setting, sides_of}
use Rattle.guard_runs.specs.Beside as G
use Rattle.guard_form.specs.Functions.{Role}
use Rattle.guard_runs.specs.Joined.{CallFrame}
use Rattle.guard_runs.specs.Stopped.{NumberedAs}
use Rattle.headline.specs.World.{World, setting}
use Rattle.assert_laws.specs.Beside.{above, bottom, Together, Unders, Waits, waits}
use Rattle.assert_laws.specs.Links.{assert_sides, NumbersCarryOver, with_asserts}

module _ (w : World) (q written : Module) (role : ℕ → Role) (lay : Activation → CallFrame) (top : ℕ) (ok : Together (assert_sides w q)) where
  abbrev pub v1 : Setting
  v1 = setting w top

  abbrev pub v2 : Setting
  v2 = setting (with_asserts w q written role lay) top

  pub goes_too : (g : ℕ) (taken : List Value) (c : Callee) → G.GoesTo (sides_of v2) g taken c → G.GoesTo (sides_of v1) g taken c
  goes_too g taken _ (G.directly count) = G.directly (count ∙ ap param_count (ok.func_type g))
  goes_too g taken _ (G.by_table t n rest split count sort at same) =
      G.by_table t n rest split (count ∙ ap param_count (ok.func_type g)) sort at
      (subst (λ (z : FuncType). same_func_type z (type_at w.flat t) ≡ true) (ok.func_type g) (subst (λ (z : FuncType). same_func_type (func_type_at q g) z ≡ true) (ok.sort t) same))

  at_one : (told : ℕ → Bool) (g : ℕ) (b : Bool) (a a' : Activation) → Waits (assert_sides w q) g a a' → ((c : Callee) → G.GoesTo (sides_of v1) g a.taken c → b ≡ (told a.func && w.numbered c))
      → (c : Callee) → G.GoesTo (sides_of v2) g a'.taken c → b ≡ (told a'.func && w.numbered c)
  at_one told g b _ _ (waits fn ls ops taken x ci t la) h c goes = h c (goes_too g taken c goes)

  func_same : (g : ℕ) (a a' : Activation) → Waits (assert_sides w q) g a a' → a.func ≡ a'.func
  func_same g _ _ (waits fn ls ops taken x ci t la) = refl

  carried : (told : ℕ → Bool) (g : ℕ) (tests : List Bool) (us fs : List Activation) → Unders (assert_sides w q) g us fs → NumberedAs v1 told g tests us → NumberedAs v2 told g tests fs
  carried told g [] _ _ bottom h = h
  carried told g (b ∷ bs) _ _ bottom h = absurd h
  carried told g [] _ _ (above wt un) h = absurd h
  carried told g (b ∷ bs) _ _ (above {a = a} {a' = a'} {under = us} {under' = fs} wt un) h =
      (at_one told g b a a' wt h.0, subst (λ i. NumberedAs v2 told i bs fs) (func_same g a a' wt) (carried told a.func bs us fs un h.1))

pub carried_law : NumbersCarryOver
carried_law w q written role lay top told g tests us fs ok un h = carried w q written role lay top ok told g tests us fs un h
