-- A program that is put back stands at its pause.
use Rattle.std.proofs.Common.{arith, ◌≡◌, ◌≤◌, ◌<◌, ◌-◌, ◌*◌, ◌^◌, ℕ, zero, suc, List, [], ◌∷◌, map, drop, length, length-drop, min, Option, Some, None, Ok, All, false, refl, sym, ap, ◌∙◌, subst}
use Rattle.std.specs.Prelude.{slice_get, MatchOption}
use Rattle.std.proofs.lemmas.List.{length-map}
use Rattle.std.proofs.lemmas.List.Elements.{All-head, All-tail}
use Rattle.std.proofs.Math.Nat.{min-eq_left}
use Rattle.wa_types.specs.declared.values.Value.{Value}
use Rattle.wa_types.specs.Memory.{page_size, pages_of}
use Rattle.wa_types.specs.Modules.{func_type_at}
use Rattle.wa_types.specs.Syntax.{Module}
use Rattle.wa_types.specs.View.{module_of}
use Rattle.wa_model.specs.declared.answers.AnswerLine.{AnswerLine as LineValue}
use Rattle.wa_model.specs.Blocking.{Left, fault_of}
use Rattle.wa_model.specs.Plan as P
use Rattle.wa_model.specs.Protocol.{exports_of}
use Rattle.wa_model.specs.Store.{Store}
use Rattle.wa_model.specs.View.{answer_of, answer_line_of}
use Rattle.world_model.specs.World as W
use Rattle.run_theory.specs.Fitting.{StoreFits}
use Rattle.host_laws.specs.Answering.{IsShort}
use Rattle.host_setup.specs.SetUp.{NamedEntry, set_up}
use Rattle.interp.specs.declared.instance.Instance.{Instance}
use Rattle.interp.specs.Host.{code_in, store_in}
use Rattle.interp_state.specs.Making.{restored_store}
use Rattle.snapshot_store.specs.Snapshots.{PausedParts}
use Rattle.pause_host.specs.declared.plan.Plan.{Plan}
use Rattle.pause_host.specs.declared.program.Program.{Program}
use Rattle.pause_host.specs.declared.program.State.TheVariants.{Live}
use Rattle.pause_host.specs.declared.stages.EntryCall.{EntryCall}
use Rattle.pause_host.specs.declared.stages.Pause.{Pause}
use Rattle.pause_host.specs.declared.stages.Stage.TheVariants.{Paused}
use Rattle.pause_host.specs.FromPlans.{IsOfPlan}
use Rattle.pause_host.specs.Moves.{HasShortPokes, IsSetting}
use Rattle.pause_host.specs.Parting.{parts_in}
use Rattle.pause_host.specs.Programs.{IsPlan, lines_left, memory_at, named_entries, place_of, source_of, world_program}
use Rattle.pause_host.specs.Settings.{calls_of}
use Rattle.pause_host.specs.Suspending.{NumbersSuit, Suspends, TakesNone, TakesPause}
use Rattle.pause_host.specs.Thawing.{PartsSuit, StandsThawed, tested_plan}
use Rattle.pause_host.specs.Views.{entry_of, left_of, lines_in, paused_at}
use Rattle.pause_host.proofs.Advancing.{memory_told}
use Rattle.pause_host.proofs.Beginning.{setting_is}
use Rattle.pause_host.proofs.Making.{funcs_many}
use Rattle.pause_host.proofs.Reopened.{reopens}

-- ---- lists

-- what stands first behind some is at their number
cons_at : {X : Type 0} (n : ℕ) (xs : List X) (y : X) (ys : List X) → drop n xs ≡ y ∷ ys → (slice_get xs n ≡ Some y) × (drop (suc n) xs ≡ ys)
cons_at zero [] y ys e = cc
cons_at zero (x ∷ xs) y ys e = (cc, cc)
cons_at (suc n) [] y ys e = cc
cons_at (suc n) (x ∷ xs) y ys e = cons_at n xs y ys e

at_cons : {X : Type 0} (n : ℕ) (xs : List X) (y : X) → slice_get xs n ≡ Some y → (ys : List X) × (drop n xs ≡ y ∷ ys)
at_cons n [] y e = cc
at_cons zero (x ∷ xs) y e = (xs, cc)
at_cons (suc n) (x ∷ xs) y e = at_cons n xs y e

within : {X : Type 0} (n : ℕ) (xs : List X) → n < length xs → (y : X) × (slice_get xs n ≡ Some y)
within n [] h = absurd (omega arith)
within zero (x ∷ xs) h = (x, refl)
within (suc n) (x ∷ xs) h = within n xs (omega arith)

pub inside : {X : Type 0} (n : ℕ) (xs : List X) (y : X) → slice_get xs n ≡ Some y → n < length xs
inside n [] y e = cc
inside zero (x ∷ xs) y e = omega arith
inside (suc n) (x ∷ xs) y e = let h = inside n xs y e in omega arith

map_at : {X Y : Type 0} (f : X → Y) (n : ℕ) (xs : List X) (y : X) → slice_get xs n ≡ Some y → slice_get (map f xs) n ≡ Some (f y)
map_at f n [] y e = cc
map_at f zero (x ∷ xs) y e = cc
map_at f (suc n) (x ∷ xs) y e = map_at f n xs y e

of_map : {X Y : Type 0} (f : X → Y) (n : ℕ) (xs : List X) (z : Y) → slice_get (map f xs) n ≡ Some z → (y : X) × (slice_get xs n ≡ Some y) × (f y ≡ z)
of_map f n [] z e = cc
of_map f zero (x ∷ xs) z e = (x, refl, cc)
of_map f (suc n) (x ∷ xs) z e = of_map f n xs z e

map_drop : {X Y : Type 0} (f : X → Y) (n : ℕ) (xs : List X) → map f (drop n xs) ≡ drop n (map f xs)
map_drop f zero xs = refl
map_drop f (suc n) [] = refl
map_drop f (suc n) (x ∷ xs) = map_drop f n xs

calls_many : (es : List NamedEntry) (fs : List ℕ) → length fs ≡ length es → length (calls_of es fs) ≡ length es
calls_many [] fs e = refl
calls_many (x ∷ es) [] e = e
calls_many (x ∷ es) (f ∷ fs) e = ap suc (calls_many es fs (omega arith))

one_less : (n : ℕ) → 1 ≤ n → suc (n - 1) ≡ n
one_less n h = omega arith

parts_same : {a b c d f a' b' c' d' f' : ℕ} {gs gs' : List Value} → a ≡ a' → b ≡ b' → c ≡ c' → d ≡ d' → gs ≡ gs' → f ≡ f'
    → (let y : PausedParts = record { steps_used = a; entry = b; answers = c; import = d; globals = gs; pages = f } in
    let z : PausedParts = record { steps_used = a'; entry = b'; answers = c'; import = d'; globals = gs'; pages = f' } in Some y ≡ Some z)
parts_same h1 h2 h3 h4 h5 h6 = rw (h1, h2, h3, h4, h5, h6) refl

-- ---- what was taken

pub all_at : {X : Type 0} (P : X → Type 0) (n : ℕ) (xs : List X) (y : X) → All P xs → slice_get xs n ≡ Some y → P y
all_at P n [] y h e = cc
all_at P zero (x ∷ xs) y h e = let same : x ≡ y = cc in subst P same (All-head P x xs h)
all_at P (suc n) (x ∷ xs) y h e = all_at P n xs y (All-tail P x xs h) e

module _ (w : W.Program) (old : Program) (parts : PausedParts) (size : ℕ) (new : Program) where
  abbrev Suspended : EntryCall → LineValue → Option Pause → Type 0
  Suspended entry line r =
      MatchOption r (Suspends w parts.import size (answer_line_of line) → ⊥)
      (λ (pause : Pause). (pause.entry ≡ entry) × (pause.import ≡ parts.import) × (pause.answer ≡ line.answer) × Suspends w parts.import size (answer_line_of line))

  pub short_at : (line : LineValue) (lines : List LineValue) → drop (parts.answers - 1) old.left.answers.items ≡ line ∷ lines → All HasShortPokes (lines_left old) → All IsShort (answer_of line.answer).pokes
  short_at line lines e h =
      all_at HasShortPokes (parts.answers - 1) (lines_left old) (answer_line_of line) h
      (map_at answer_line_of (parts.answers - 1) old.left.answers.items line (cons_at (parts.answers - 1) old.left.answers.items line lines e).0)

  pub takes : (r : Option Pause) (entry : EntryCall) (line : LineValue)
      → new.left.number ≡ parts.entry → drop parts.entry old.left.entries.items ≡ entry ∷ new.left.entries.items → drop (parts.answers - 1) old.left.answers.items ≡ line ∷ new.left.answers.items
      → Suspended entry line r → MatchOption r (TakesNone w old parts size) (λ pause. TakesPause w old parts size new pause)
  takes None entry line number entries lines k = λ e es l ls es_are ls_are z.
      let front : line ∷ new.left.answers.items ≡ l ∷ ls = sym lines ∙ ls_are in
      let one : l ≡ line = cc in
      k (subst (λ (y : LineValue). Suspends w parts.import size (answer_line_of y)) one z)
  takes (Some pause) entry line number entries lines k = record {
    number = number;
    entries = entries ∙ ap (λ (e : EntryCall). e ∷ new.left.entries.items) (sym k.0);
    line = line;
    lines = lines;
    import_is = k.1;
    answer_is = k.2;
    suspends = k.3;
  }

-- ---- a place

abbrev left_with : ℕ → List P.Entry → Left
left_with n es = record { number = n; entries = es; outcomes = [] }

module _ (x : Plan) (parts : PausedParts) (memory : List ℕ) (funcs : List ℕ) (plan : IsPlan x) (up : set_up (source_of x) x.area (named_entries x) ≡ Ok funcs) (old : Program)
    (made : IsOfPlan x funcs old) (numbers : NumbersSuit (source_of x) x.globals.items x.steps parts) (few : parts.answers < 2 ^ 32) (whole : length memory ≡ parts.pages * page_size) where
  abbrev p : Module
  p = source_of x

  abbrev w : W.Program
  w = world_program x funcs [] x.binds.items

  abbrev calls : List P.Entry
  calls = calls_of (named_entries x) funcs

  pub made_setting : IsSetting w old.setting
  made_setting = setting_is x funcs [] x.binds.items (λ import. refl) plan made.valid up old.setting made.setting

  pub made_short : All HasShortPokes (lines_left old)
  made_short = subst (λ ls. All HasShortPokes (lines_in ls)) (sym made.answers) plan.pokes

  many_calls : length calls ≡ length x.entries.items
  many_calls = calls_many (named_entries x) funcs (funcs_many p made.valid x.area (named_entries x) funcs up) ∙ length-map x.entries.items _

  -- ---- the parts fit

  pub suits : (new : Program) (pause : Pause) → TakesPause w old parts (length memory) new pause → PartsSuit x parts
  suits new pause t = record {
    steps = numbers.steps_fit;
    entry =
        let at = map_at entry_of parts.entry old.left.entries.items pause.entry (cons_at parts.entry old.left.entries.items pause.entry new.left.entries.items t.entries).0 in
        let lt = inside parts.entry calls (entry_of pause.entry) (ap (λ es. slice_get es parts.entry) (sym made.entries) ∙ at) in
        omega (arith, lt, many_calls);
    globals = numbers.globals;
    pages = numbers.pages;
    answer = record {
      some = numbers.some;
      line = answer_line_of t.line;
      there = map_at answer_line_of (parts.answers - 1) x.answers.items t.line
          (ap (λ ls. slice_get ls (parts.answers - 1)) (sym made.answers) ∙ (cons_at (parts.answers - 1) old.left.answers.items t.line new.left.answers.items t.lines).0);
      pauses = t.suspends.pauses;
      names = t.suspends.names;
      passes = ap (λ n. fault_of (func_type_at p parts.import).results n (tested_plan x) false parts.import (answer_of t.line.answer)) (sym whole) ∙ t.suspends.passes;
    };
  }

  -- ---- or don't

  pub unfit : TakesNone w old parts (length memory) → PartsSuit x parts → ⊥
  unfit none s =
      let call = within parts.entry calls (omega (arith, s.entry, many_calls)) in
      let entry = of_map entry_of parts.entry old.left.entries.items call.0 (ap (λ es. slice_get es parts.entry) made.entries ∙ call.1) in
      let entries = at_cons parts.entry old.left.entries.items entry.0 entry.1 in
      let line = of_map answer_line_of (parts.answers - 1) x.answers.items s.answer.line s.answer.there in
      let lines = at_cons (parts.answers - 1) old.left.answers.items line.0 (ap (λ ls. slice_get ls (parts.answers - 1)) made.answers ∙ line.1) in
      none entry.0 entries.0 line.0 lines.0 entries.1 lines.1
      (subst (Suspends w parts.import (length memory)) (sym line.2)
      (record {
        pauses = s.answer.pauses;
        names = s.answer.names;
        passes = ap (λ n. fault_of (func_type_at p parts.import).results n (tested_plan x) false parts.import s.answer.line.answer) whole ∙ s.answer.passes;
      }))

  -- ---- where it then stands

  module _ (new : Program) (pause : Pause) (t : TakesPause w old parts (length memory) new pause) (instance : Instance) (code : code_in instance ≡ module_of old.valid.now)
      (store : store_in instance ≡ restored_store (module_of old.valid.now) parts.globals memory) where
    abbrev final : Program
    final = record old { left = new.left; steps_left = old.steps_left - parts.steps_used; state = Live instance (Paused pause) }

    abbrev put_back : Store
    put_back = record { globals = parts.globals; memory = memory; table = numbers.globals.opened.table }

    entry_front : (slice_get old.left.entries.items parts.entry ≡ Some pause.entry) × (drop (suc parts.entry) old.left.entries.items ≡ new.left.entries.items)
    entry_front = cons_at parts.entry old.left.entries.items pause.entry new.left.entries.items t.entries

    line_front : (slice_get old.left.answers.items (parts.answers - 1) ≡ Some t.line) × (drop (suc (parts.answers - 1)) old.left.answers.items ≡ new.left.answers.items)
    line_front = cons_at (parts.answers - 1) old.left.answers.items t.line new.left.answers.items t.lines

    entries_left : map entry_of new.left.entries.items ≡ drop (suc parts.entry) calls
    entries_left = ap (map entry_of) (sym entry_front.1) ∙ map_drop entry_of (suc parts.entry) old.left.entries.items ∙ ap (drop (suc parts.entry)) made.entries

    answers_left : new.left.answers.items ≡ drop parts.answers x.answers.items
    answers_left = sym line_front.1 ∙ ap (λ n. drop n old.left.answers.items) (one_less parts.answers numbers.some) ∙ ap (drop parts.answers) made.answers

    store_is : store_in instance ≡ put_back
    store_is =
        store
        ∙ ap (λ m. restored_store m parts.globals memory) made.source
        ∙ ap (λ ts. record { globals = parts.globals; memory = memory; table = ts })
        (reopens p x.globals.items parts.globals numbers.globals.opened made.valid numbers.globals.is_opened numbers.globals.constants).table

    place_is : place_of final final.state
        ≡ paused_at (exports_of p) x.area (left_with parts.entry (drop (suc parts.entry) calls)) (entry_of pause.entry) parts.import (answer_of t.line.answer) put_back
    place_is =
        ap (λ e. paused_at e old.setting.area (left_of new.left) (entry_of pause.entry) pause.import (answer_of pause.answer) (store_in instance)) made.setting.exports
        ∙ ap (λ a. paused_at (exports_of p) a (left_of new.left) (entry_of pause.entry) pause.import (answer_of pause.answer) (store_in instance)) made.setting.area_is
        ∙ ap (λ n. paused_at (exports_of p) x.area (left_with n (map entry_of new.left.entries.items)) (entry_of pause.entry) pause.import (answer_of pause.answer) (store_in instance)) t.number
        ∙ ap (λ es. paused_at (exports_of p) x.area (left_with parts.entry es) (entry_of pause.entry) pause.import (answer_of pause.answer) (store_in instance)) entries_left
        ∙ ap (λ i. paused_at (exports_of p) x.area (left_with parts.entry (drop (suc parts.entry) calls)) (entry_of pause.entry) i (answer_of pause.answer) (store_in instance)) t.import_is
        ∙ ap (λ a. paused_at (exports_of p) x.area (left_with parts.entry (drop (suc parts.entry) calls)) (entry_of pause.entry) parts.import (answer_of a) (store_in instance)) t.answer_is
        ∙ ap (paused_at (exports_of p) x.area (left_with parts.entry (drop (suc parts.entry) calls)) (entry_of pause.entry) parts.import (answer_of t.line.answer)) store_is

    -- its store fits the module
    pub store_fits : StoreFits (code_in instance) (store_in instance)
        → StoreFits p (record { globals = parts.globals; memory = memory; table = (suits new pause t).globals.opened.table })
    unfolding suits
    store_fits fits = subst (StoreFits p) store_is (subst (λ m. StoreFits m (store_in instance)) (code ∙ made.source) fits)

    steps_again : old.setting.steps - (old.steps_left - parts.steps_used) ≡ parts.steps_used
    steps_again = let le = numbers.steps_fit in omega (arith, le, made.steps, made.setting.steps_are)

    answers_again : min (old.given - length new.left.answers.items) 4294967295 ≡ parts.answers
    answers_again =
        let lt = inside (parts.answers - 1) old.left.answers.items t.line line_front.0 in
        let left = ap length answers_left ∙ length-drop parts.answers x.answers.items in
        let taken : old.given - length new.left.answers.items ≡ parts.answers = omega (arith, lt, left, made.given, ap length made.answers, numbers.some) in
        ap (λ n. min n 4294967295) taken ∙ min-eq_left (omega (arith, few))

    pages_again : pages_of (memory_at (Live instance (Paused pause))) ≡ parts.pages
    pages_again =
        ap pages_of (memory_told w old instance (Paused pause) made_setting (code ∙ made.source) ∙ ap (λ (s : Store). s.memory) store_is) ∙ omega (arith, whole)

    parts_again : parts_in final ≡ Some parts
    parts_again = parts_same steps_again t.number answers_again t.import_is (ap (λ (s : Store). s.globals) store_is) pages_again

    pub stands : StandsThawed x parts memory (suits new pause t) final
    unfolding suits
    stands = record {
      funcs = funcs;
      is_set_up = up;
      source = made.source;
      setting = made.setting;
      globals = made.globals;
      given = made.given;
      entry = entry_of pause.entry;
      entry_is = ap (λ es. slice_get es parts.entry) (sym made.entries) ∙ map_at entry_of parts.entry old.left.entries.items pause.entry entry_front.0;
      place = place_is;
      lines = ap (map answer_line_of) answers_left ∙ map_drop answer_line_of parts.answers x.answers.items;
      steps = ap (λ n. n - parts.steps_used) made.steps;
      code = code ∙ made.source;
      awake = made.awake;
      parts_are = parts_again;
    }
