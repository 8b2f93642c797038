-- What is emitted, policy by policy.
use Rattle.std.proofs.Common.{◌≡◌, ◌∙◌, ℕ, zero, suc, ◌+◌, ◌-◌, List, [], ◌∷◌, Some, None, Bool, true, false, refl, sym, ap, subst, arith}
use Rattle.std.specs.Prelude.{slice_get, nat_lt, if◌then◌else◌}
use Rattle.std.proofs.lemmas.Bool.{ltb-false}
use Rattle.wa_types.specs.Modules.{defined_at, func_imports}
use Rattle.wa_types.specs.Pausing.{Numbered, Policy, Settings, is_told, save_all, save_live}
use Rattle.wa_types.specs.Runtime.{with_runtime}
use Rattle.wa_types.specs.Sizes.{SizeRule}
use Rattle.wa_types.specs.Syntax.{done, Func, Module}
use Rattle.wa_types.specs.Validity.{Valid}
use Rattle.wa_model.specs.Rewrites.{Rewrites, RewritesButRuns, SameFunc}
use Rattle.guard_form.specs.Pieces.{no_unit}
use Rattle.call_frames.specs.PlainFrames.{SavedParts}
use Rattle.headline.specs.Given.{BehavesGiven}
use Rattle.slim_laws.specs.SlimModule.{Pieces, SlimPieces}
use Rattle.emitted_form.specs.Emitted.{IsAllWritten, layout_codes}
use Rattle.emitted_form.specs.EmittedBy.{FrameCode, funcs_by, written_by}
use Rattle.emitted_form.proofs.EmittedRewritten as Rewritten
use Rattle.emitted_form.proofs.EmittedSizes as Sized
use Rattle.emitted_form.proofs.Asyncified.{asyncified_given, asyncified_law}
use Rattle.emitted_form.specs.EmittedAs.{AreEmitted, EmittedUnder, FunctionsAreEmitted, IsAllAsyncified, IsEmittedWhere, IsLiveAsyncified, IsLiveWritten, IsWritten, IsWrittenUnder}
use Rattle.emitted_form.specs.LiveModuleLaws.{LiveRewriting}
use Rattle.emitted_form.specs.LiveParts.{LiveParts, live_codes}
use Rattle.emitted_form.specs.PolicyLaws.{CanBeEmitted, EmittedAsBehavesGiven, EmittedAsIsRewritten, EmittedAsIsValid, EmittedAsKeepsSizes, EmittedAsRewrites}
use Rattle.emitted_form.proofs.LiveModules as Live

-- ---- laws

pub live_rewriting : (m : Module) (s : Settings) (which : List Bool) (q : Module) → CanBeEmitted m s which → s.policy ≡ save_live → (h : IsLiveAsyncified m s which q)
    → LiveRewriting m s which h.pieces h.parts
live_rewriting m s which q c policy h = record { valid = c.valid; sizes = c.sizes; few = c.few; policy = policy; tells = c.tells; slim = h.slim; live = h.live }

pub valid_as : EmittedAsIsValid
valid_as m s which q c free = by s.policy refl
  where
    by : (p : Policy) → s.policy ≡ p → EmittedUnder p m s which q → Valid q
    by save_all e h = subst Valid (sym h.is) (Rewritten.valid_law m s which h.pieces c.valid h.slim free)
    by save_live e h = subst Valid (sym h.is) (Live.valid_law m s which h.pieces h.parts (live_rewriting m s which q c e h) free)

pub rewritten_as : EmittedAsIsRewritten
rewritten_as m s which q c free = by s.policy refl
  where
    by : (p : Policy) → s.policy ≡ p → EmittedUnder p m s which q → RewritesButRuns SameFunc m s q
    by save_all e h = subst (RewritesButRuns SameFunc m s) (sym h.is) (Rewritten.rewritten_law m s which h.pieces c.valid h.slim free c.tells)
    by save_live e h = subst (RewritesButRuns SameFunc m s) (sym h.is) (Live.rewritten_law m s which h.pieces h.parts (live_rewriting m s which q c e h) free)

pub rewrites_as : EmittedAsRewrites
rewrites_as m s which q c free = by s.policy refl
  where
    by : (p : Policy) → s.policy ≡ p → EmittedUnder p m s which q → Rewrites m s q
    by save_all e h = subst (Rewrites m s) (sym h.is) (asyncified_law m s which h.pieces c.valid h.slim free c.sizes c.few e c.tells)
    by save_live e h = subst (Rewrites m s) (sym h.is) (Live.rewrites_law m s which h.pieces h.parts (live_rewriting m s which q c e h) free)

pub given_as : EmittedAsBehavesGiven
given_as m s which q c free = by s.policy refl
  where
    by : (p : Policy) → s.policy ≡ p → EmittedUnder p m s which q → BehavesGiven m s q
    by save_all e h = subst (BehavesGiven m s) (sym h.is) (asyncified_given m s which h.pieces c.valid h.slim free c.sizes c.few e c.tells)
    by save_live e h = subst (BehavesGiven m s) (sym h.is) (Live.live_given m s which h.pieces h.parts (live_rewriting m s which q c e h) free)

pub sizes_as : EmittedAsKeepsSizes
sizes_as m s which q c = by s.policy refl
  where
    by : (p : Policy) → s.policy ≡ p → EmittedUnder p m s which q → SizeRule q
    by save_all e h = subst SizeRule (sym h.is) (Sized.sizes_law m s which h.pieces c.valid h.slim c.sizes c.few)
    by save_live e h = subst SizeRule (sym h.is) (Live.sizes_law m s which h.pieces h.parts (live_rewriting m s which q c e h))

-- ---- functions one by one

-- Functions by what each is written from, and what that owes.
module _ (m : Module) (s : Settings) (which : List Bool) (W : Type 0) (none : W) (codes : W → (index : ℕ) → Func → FrameCode) (Owed : ℕ → Func → W → Type 0)
    (from : (x : ℕ) (f g : Func) → IsWritten m s which x f g → (w : W) × Owed x f w × (g ≡ written_by m s which (codes w) x f)) where
  abbrev one_of : (x : ℕ) (f g : Func) (told : Bool) → IsEmittedWhere told m s which x f g → W
  one_of x f g true h = (from x f g h).0
  one_of x f g false h = none

  -- that of the function at a place
  abbrev found : (x : ℕ) (fs gs : List Func) → AreEmitted m s which x fs gs → ℕ → W
  found x [] gs h i = none
  found x (f ∷ fs) [] h i = none
  found x (f ∷ fs) (g ∷ gs) h zero = one_of x f g (is_told (slice_get which x)) h.0
  found x (f ∷ fs) (g ∷ gs) h (suc i) = found (suc x) fs gs h.1 i

  one_is : (x : ℕ) (f g : Func) (w : W) (told : Bool) → (h : IsEmittedWhere told m s which x f g) → w ≡ one_of x f g told h → (if told then written_by m s which (codes w) x f else f) ≡ g
  one_is x f g w true h e = ap (λ (v : W). written_by m s which (codes v) x f) e ∙ sym (from x f g h).2
  one_is x f g w false h e = sym h

  one_owed : (x : ℕ) (f g : Func) (told : Bool) → (h : IsEmittedWhere told m s which x f g) → told ≡ true → Owed x f (one_of x f g told h)
  one_owed x f g true h e = (from x f g h).1
  one_owed x f g false h e = cc

  abbrev codes_at : ((index : ℕ) → W) → (index : ℕ) → Func → FrameCode
  codes_at told x f = codes (told x) x f

  funcs_are : (told : (index : ℕ) → W) (x : ℕ) (fs gs : List Func) → (h : AreEmitted m s which x fs gs) → ((i : ℕ) → told (x + i) ≡ found x fs gs h i)
      → funcs_by m s which (codes_at told) x fs ≡ gs
  funcs_are told x [] [] h same = refl
  funcs_are told x [] (g ∷ gs) h same = absurd h
  funcs_are told x (f ∷ fs) [] h same = absurd h
  funcs_are told x (f ∷ fs) (g ∷ gs) h same =
      let z : x ≡ x + 0 = omega arith in
      let here : told x ≡ one_of x f g (is_told (slice_get which x)) h.0 = ap told z ∙ same 0 in
      ap (λ k. k ∷ funcs_by m s which (codes_at told) (suc x) fs) (one_is x f g (told x) (is_told (slice_get which x)) h.0 here)
      ∙ ap (λ ks. g ∷ ks) (funcs_are told (suc x) fs gs h.1 (λ i. let n : suc x + i ≡ x + suc i = omega arith in ap told n ∙ same (suc i)))

  owed_at : (x : ℕ) (fs gs : List Func) → (h : AreEmitted m s which x fs gs) → (i y : ℕ) (f : Func) → y ≡ x + i → slice_get fs i ≡ Some f → is_told (slice_get which y) ≡ true
      → Owed y f (found x fs gs h i)
  owed_at x [] gs h i y f ey e told = cc
  owed_at x (k ∷ fs) [] h i y f ey e told = absurd h
  owed_at x (k ∷ fs) (g ∷ gs) h zero y f ey e told =
      let z : x ≡ y = omega (arith, ey) in
      let q : k ≡ f = cc in
      subst (λ (f : Func). Owed y f (one_of x k g (is_told (slice_get which x)) h.0)) q
      (subst (λ y. Owed y k (one_of x k g (is_told (slice_get which x)) h.0)) z
      (one_owed x k g (is_told (slice_get which x)) h.0 (ap (λ n. is_told (slice_get which n)) z ∙ told)))
  owed_at x (k ∷ fs) (g ∷ gs) h (suc i) y f ey e told = owed_at (suc x) fs gs h.1 i y f (omega (arith, ey)) e told

  module _ (gs : List Func) (h : AreEmitted m s which (func_imports m) m.funcs gs) where
    abbrev pub told_at : (index : ℕ) → W
    told_at x = found (func_imports m) m.funcs gs h (x - func_imports m)

    pub all_owed : (x : ℕ) (f : Func) → defined_at m x ≡ Some f → is_told (slice_get which x) ≡ true → Owed x f (told_at x)
    all_owed x f = by (nat_lt x (func_imports m)) refl
      where
        by : (b : Bool) → nat_lt x (func_imports m) ≡ b → (if b then None else slice_get m.funcs (x - func_imports m)) ≡ Some f → is_told (slice_get which x) ≡ true
            → Owed x f (told_at x)
        by true e is told = cc
        by false e is told =
            let le = ltb-false x (func_imports m) e in
            owed_at (func_imports m) m.funcs gs h (x - func_imports m) x f (omega (arith, le)) is told

    pub all_funcs : funcs_by m s which (codes_at told_at) (func_imports m) m.funcs ≡ gs
    all_funcs = funcs_are told_at (func_imports m) m.funcs gs h (λ i. let z : (func_imports m + i) - func_imports m ≡ i = omega arith in ap (found (func_imports m) m.funcs gs h) z)

-- ---- policy by policy

abbrev no_pieces : Pieces
no_pieces = record { exits = false; first = done; units = no_unit }

module _ (m : Module) (s : Settings) (which : List Bool) (gs : List Func) (h : AreEmitted m s which (func_imports m) m.funcs gs) where
  -- under `all` by their pieces
  module _ (policy : s.policy ≡ save_all) where
    abbrev AllOwed : ℕ → Func → Pieces → Type 0
    AllOwed x f p = SlimPieces m (Numbered m s which f) x f p

    abbrev all_codes : Pieces → (index : ℕ) → Func → FrameCode
    all_codes p = layout_codes m s which (λ y. p)

    abbrev from_all : (x : ℕ) (f g : Func) → IsWritten m s which x f g → (p : Pieces) × AllOwed x f p × (g ≡ written_by m s which (all_codes p) x f)
    from_all x f g h = let w : IsAllWritten m s which x f g = subst (λ (p : Policy). IsWrittenUnder p m s which x f g) policy h in (w.pieces, w.slim, w.is)

    abbrev all_pieces : (index : ℕ) → Pieces
    all_pieces = told_at m s which Pieces no_pieces all_codes AllOwed from_all gs h

    pub all_emitted : IsAllAsyncified m s which (with_runtime (record m { funcs = gs }))
    all_emitted =
        let owed = all_owed m s which Pieces no_pieces all_codes AllOwed from_all gs h in
        let funcs = all_funcs m s which Pieces no_pieces all_codes AllOwed from_all gs h in
        record {
          pieces = all_pieces;
          slim = owed;
          is = ap (λ fs. with_runtime (record m { funcs = fs })) (sym funcs);
        }

  -- under `live` by their pieces and parts
  module _ (policy : s.policy ≡ save_live) where
    abbrev Told : Type 0
    Told = Pieces × SavedParts

    abbrev none : Told
    none = (no_pieces, record { count = 0; address = 0; index = 0; scratch = 0; parts = [] })

    abbrev LiveOwed : ℕ → Func → Told → Type 0
    LiveOwed x f p = SlimPieces m (Numbered m s which f) x f p.0 × LiveParts m s which x f p.1

    abbrev codes_of : Told → (index : ℕ) → Func → FrameCode
    codes_of p = live_codes (λ y. p.0) (λ y. p.1)

    abbrev from_live : (x : ℕ) (f g : Func) → IsWritten m s which x f g → (p : Told) × LiveOwed x f p × (g ≡ written_by m s which (codes_of p) x f)
    from_live x f g h =
        let w : IsLiveWritten m s which x f g = subst (λ (p : Policy). IsWrittenUnder p m s which x f g) policy h in ((w.pieces, w.parts), (w.slim, w.live), w.is)

    abbrev told : (index : ℕ) → Told
    told = told_at m s which Told none codes_of LiveOwed from_live gs h

    pub live_emitted : IsLiveAsyncified m s which (with_runtime (record m { funcs = gs }))
    live_emitted =
        let owed = all_owed m s which Told none codes_of LiveOwed from_live gs h in
        let funcs = all_funcs m s which Told none codes_of LiveOwed from_live gs h in
        record {
          pieces = λ x. (told x).0;
          slim = λ x f is told. (owed x f is told).0;
          parts = λ x. (told x).1;
          live = λ x f is told. (owed x f is told).1;
          is = ap (λ fs. with_runtime (record m { funcs = fs })) (sym funcs);
        }

pub functions_law : FunctionsAreEmitted
functions_law m s which gs h = by s.policy refl
  where
    by : (p : Policy) → s.policy ≡ p → EmittedUnder p m s which (with_runtime (record m { funcs = gs }))
    by save_all e = all_emitted m s which gs h e
    by save_live e = live_emitted m s which gs h e
