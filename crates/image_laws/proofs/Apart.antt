-- What unwinding and what rewinding a stack cost, each by itself; and both bounds together.
use Rattle.std.proofs.Common.{All, List, [], arith, length, refl, ℕ, ◌*◌, ◌+◌, ◌++◌, ◌∷◌, ◌≡◌, ◌≤◌}
use Rattle.std.proofs.lemmas.List.Sums.{sum_by-cons}
use Rattle.std.specs.List.{sum_by}
use Rattle.wa_types.specs.Bounds.{activation_bound}
use Rattle.wa_types.specs.Frames.{Suspended}
use Rattle.wa_types.specs.Modules.{func_type_at}
use Rattle.wa_types.specs.Syntax.{Module}
use Rattle.wa_model.specs.Behaves.{StandsNumbered}
use Rattle.wa_model.specs.Configuration.{Activation, Configuration, stack_of}
use Rattle.wa_model.specs.Step.{param_count}
use Rattle.frame_laws.specs.Function.{rewinding, unwinding}
use Rattle.frame_laws.specs.Stack.{Level, rewinding_all, unwinding_all}
use Rattle.guard_runs.specs.Levels.{levels_of}
use Rattle.guard_runs.specs.Stopped.{Stopped}
use Rattle.headline.specs.FlatLaw.{AllLocalsFit}
use Rattle.headline.specs.World.{World, base, setting}
use Rattle.image_laws.specs.Image.{rewind_bound, unwind_bound}
use Rattle.image_laws.specs.HeldPauses.{BoundsJoin}

abbrev pub unwound : List Level → ℕ
unwound [] = 0
unwound (v ∷ vs) = unwinding v.fn v.out + 1 + unwound vs

abbrev pub rewound : List Level → ℕ
rewound [] = 0
rewound (v ∷ vs) = 2 * length v.site.slots + 1 + rewinding v.fn v.seek + rewound vs

pub unwound_all : (x : Level) (ws : List Level) → unwound (x ∷ ws) ≡ unwinding_all x ws + 1
unwound_all x [] = omega arith
unwound_all x (y ∷ ws) = let ih = unwound_all y ws in omega arith

pub rewound_all : (x : Level) (ws : List Level) → rewound (x ∷ ws) ≡ 2 * length x.site.slots + 1 + rewinding_all x ws
rewound_all x [] = omega arith
rewound_all x (y ∷ ws) = let ih = rewound_all y ws in omega arith

-- each half is within its bound, the outermost function's arguments beside
pub record ApartSums (m : Module) (params : ℕ) (ws : List Level) (stack : List Suspended) : Type 0 where
  pub unwinds : unwound ws ≤ sum_by (unwind_bound m) stack
  pub rewinds : params + rewound ws ≤ sum_by (rewind_bound m) stack

-- So it is of each stack that has stopped.
abbrev pub ApartLaw : (w : World) (W : ℕ → ℕ → Configuration → Configuration → Type 0) → Type 0
ApartLaw w W =
    (top i : ℕ) (d f : Configuration) (us' : List Activation) (st : Stopped (setting w top) i (f.here ∷ f.under) us') → W top i d f
    → All (StandsNumbered w.original w.settings w.which) (stack_of (base w) d) → AllLocalsFit w.written us'
    → ApartSums w.original (param_count (func_type_at w.flat top)) (levels_of (setting w top) w.lay st) (stack_of (base w) d)

-- ---- both together

halves : (m : Module) (stack : List Suspended) → sum_by (unwind_bound m) stack + sum_by (rewind_bound m) stack ≡ sum_by (activation_bound m) stack
halves m [] = refl
halves m (a ∷ stack) =
    let ih = halves m stack in
    let u = sum_by-cons (unwind_bound m) a stack in let r = sum_by-cons (rewind_bound m) a stack in let c = sum_by-cons (activation_bound m) a stack in
    omega arith

abbrev dear : Module → List (List Suspended) → ℕ
dear m pauses = sum_by (λ stack. 256 + sum_by (activation_bound m) stack) pauses

dear_join : (m : Module) (xs ys : List (List Suspended)) → dear m (xs ++ ys) ≡ dear m xs + dear m ys
dear_join m [] ys = let z : dear m [] ≡ 0 = refl in omega arith
dear_join m (x ∷ xs) ys =
    let ih = dear_join m xs ys in
    let a = sum_by-cons (λ (stack : List Suspended). 256 + sum_by (activation_bound m) stack) x (xs ++ ys) in
    let b = sum_by-cons (λ (stack : List Suspended). 256 + sum_by (activation_bound m) stack) x xs in
    omega arith

pub bounds_join : BoundsJoin
bounds_join m j n stack before behind =
    let h = halves m stack in
    let d = dear_join m before (stack ∷ behind) in
    let c = sum_by-cons (λ (stack : List Suspended). 256 + sum_by (activation_bound m) stack) stack behind in
    omega arith
