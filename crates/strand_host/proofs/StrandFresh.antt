-- A program with strands that is set up has told nothing yet.
use Rattle.std.proofs.Common.{arith, ◌≡◌, ◌<◌, ◌≤◌, ◌+◌, ◌*◌, ◌^◌, ℕ, zero, suc, List, [], ◌∷◌, length, map, All, Option, Some, None, Ok, Err, Bool, true, false, refl, sym, ap, ◌∙◌, subst}
use Rattle.std.specs.Prelude.{slice_get}
use Rattle.std.specs.Option.{option_map, unwrap_or}
use Rattle.std.proofs.lemmas.List.{length-map}
use Rattle.std.proofs.lemmas.List.Elements.{All-cons}
use Rattle.std.proofs.lemmas.Option.{slice_get-map}
use Rattle.wa_types.specs.Memory.{page_size}
use Rattle.wa_types.specs.Modules.{all_memories, imported, imported_global}
use Rattle.wa_types.specs.Syntax.{Module}
use Rattle.wa_types.specs.Validity.{Valid}
use Rattle.wa_types.specs.View.{module_of}
use Rattle.wa_model.specs.declared.answers.Area.{Area}
use Rattle.wa_model.specs.Blocking.{Left, all_left, done_notes, no_store}
use Rattle.wa_model.specs.Instantiation.{least_of, opening, opens}
use Rattle.wa_model.specs.Outside.{AnswerLine}
use Rattle.wa_model.specs.Plan.{Entry, Plan as PlainPlan}
use Rattle.wa_model.specs.Protocol.{Held, exports_of, free, held_begun, held_on}
use Rattle.wa_model.specs.Store.{Store}
use Rattle.wa_model.specs.View.{answer_line_of}
use Rattle.world_model.specs.World.{Look}
use Rattle.world_laws.proofs.Places.{all_at}
use Rattle.run_theory.specs.Fitting.{StoreFits, global_types, types_of}
use Rattle.run_theory.proofs.FittingOpenings.{openings_fit}
use Rattle.run_theory.proofs.NamedModules.{valid_instance}
use Rattle.run_laws.proofs.SpotRuns.{start_takes_none}
use Rattle.run_laws.proofs.ProtocolStopping.{begun_fits}
use Rattle.run_laws.proofs.Stopping.{start_there}
use Rattle.run_laws.specs.FittingStates.{EntryTyped, HeldFits}
use Rattle.host_setup.specs.SetUp.{NamedEntry}
use Rattle.host_setup.specs.Views as S
use Rattle.interp.specs.Instance.{Waits}
use Rattle.host_laws.specs.Places.{stands}
use Rattle.pause_host.specs.Holding.{HeldHolds}
use Rattle.pause_host.specs.Moves.{HasShortPokes, IsSetting}
use Rattle.pause_host.specs.Programs.{BindsAs, IsPlan, source_of, world_program}
use Rattle.pause_host.specs.Settings.{calls_of}
use Rattle.pause_host.specs.Views.{free_place, left_of, lines_in, place_in}
use Rattle.pause_host.specs.declared.stages.Setting.{Setting}
use Rattle.pause_host.proofs.Beginning.{calls_few, lawful_area, setting_is}
use Rattle.pause_host.proofs.Holding.{begun_holds}
use Rattle.pause_host.proofs.Making.{SetUpFine, set_up_fine}
use Rattle.pause_host.proofs.MemoryGrows.{opens_long}
use Rattle.strand_laws.specs.StrandWorld.{StrandsInWorld, answers_of}
use Rattle.strand_laws.specs.Strands.{Strand as WorldStrand, areas_of, no_strand, plan_of, strand_at}
use Rattle.strand_laws.specs.ToldStrands.{StrandTeller, starting, starting_strands}
use Rattle.strand_laws.specs.Woven.{Thread}
use Rattle.strand_host.specs.declared.plan.StrandFault.{StrandFault}
use Rattle.strand_host.specs.declared.plan.StrandFault.TheVariants.{Memory, Overlap, Setup}
use Rattle.strand_host.specs.declared.program.State.TheVariants.{Fresh}
use Rattle.strand_host.specs.declared.plan.StrandPart.{StrandPart}
use Rattle.strand_host.specs.declared.plan.StrandPlan.{StrandPlan}
use Rattle.strand_host.specs.declared.setup.Parted.{Parted}
use Rattle.strand_host.specs.declared.strands.Strand.{Strand}
use Rattle.strand_host.specs.Standing.{all_at_start, at_start, is_in_start}
use Rattle.strand_host.specs.StrandPlans.{AllSetUp, IsPart, IsStrandPlan, entries_of, first_part, lines_of, parts_of, set_up_of, strands_with, world_strands}
use Rattle.strand_host.specs.StrandPrograms.{FreshAt, IsProgram, IsStrand, Row, RowIs, SetsUp, SetsUpStrands, Stock, WaitsWell, set_to, world_strand}
use Rattle.strand_host.specs.StrandSetups.{AreAtStart, IsAtStart, IsParted, SetsUpParted, area_of}

-- ---- strands, one by one

abbrev world_part : StrandPart → List ℕ → WorldStrand
world_part s fs = record { area = s.area; entries = calls_of (entries_of s) fs }

-- the strand of this number
record PartAt (p : Module) (parts : List StrandPart) (funcs : List (List ℕ)) (strands : List (Option Strand)) (i : ℕ) : Type 0 where
  s : StrandPart
  fs : List ℕ
  st : Strand
  part_is : slice_get parts i ≡ Some s
  slot_is : slice_get strands i ≡ Some (Some st)
  world_is : slice_get (strands_with parts funcs) i ≡ Some (world_part s fs)
  up : set_up_of p s ≡ Ok fs
  at : IsAtStart s fs st

part_at : (p : Module) (parts : List StrandPart) (funcs : List (List ℕ)) (strands : List (Option Strand)) (i : ℕ) → AllSetUp p parts funcs → AreAtStart parts funcs strands → i < length parts
    → PartAt p parts funcs strands i
part_at p [] funcs strands i up at lt = let no_way : ⊥ = omega (arith, lt) in absurd no_way
part_at p (s ∷ ss) [] strands i up at lt = absurd up
part_at p (s ∷ ss) (fs ∷ fss) [] i up at lt = absurd at
part_at p (s ∷ ss) (fs ∷ fss) (None ∷ xs) i up at lt = absurd at
part_at p (s ∷ ss) (fs ∷ fss) (Some x ∷ xs) zero up at lt = record { s = s; fs = fs; st = x; part_is = refl; slot_is = refl; world_is = refl; up = up.0; at = at.0 }
part_at p (s ∷ ss) (fs ∷ fss) (Some x ∷ xs) (suc i) up at lt =
    let r = part_at p ss fss xs i up.1 at.1 (omega (arith, lt)) in record { s = r.s; fs = r.fs; st = r.st; part_is = r.part_is; slot_is = r.slot_is; world_is = r.world_is; up = r.up; at = r.at }

with_long : (p : Module) (parts : List StrandPart) (funcs : List (List ℕ)) → AllSetUp p parts funcs → length (strands_with parts funcs) ≡ length parts
with_long p [] funcs h = refl
with_long p (s ∷ ss) [] h = absurd h
with_long p (s ∷ ss) (fs ∷ fss) h = ap suc (with_long p ss fss h.1)

with_areas : (p : Module) (parts : List StrandPart) (funcs : List (List ℕ)) → AllSetUp p parts funcs → map (λ (x : WorldStrand). x.area) (strands_with parts funcs) ≡ map area_of parts
with_areas p [] funcs h = refl
with_areas p (s ∷ ss) [] h = absurd h
with_areas p (s ∷ ss) (fs ∷ fss) h = ap (λ (us : List Area). s.area ∷ us) (with_areas p ss fss h.1)

start_long : (parts : List StrandPart) (funcs : List (List ℕ)) (xs : List (Option Strand)) → AreAtStart parts funcs xs → length xs ≡ length parts
start_long [] [] xs h = ap length h
start_long [] (fs ∷ fss) xs h = absurd h
start_long (s ∷ ss) [] xs h = absurd h
start_long (s ∷ ss) (fs ∷ fss) [] h = absurd h
start_long (s ∷ ss) (fs ∷ fss) (None ∷ xs) h = absurd h
start_long (s ∷ ss) (fs ∷ fss) (Some x ∷ xs) h = ap suc (start_long ss fss xs h.1)

teller_at : (g : StrandsInWorld) (j i n : ℕ) (ss : List WorldStrand) (s : WorldStrand) → n ≡ j + i → slice_get ss i ≡ Some s
    → slice_get (starting_strands g j ss) i ≡ Some (record { due = 0; has_ended = false; answers = answers_of g n; met = [] })
teller_at g j i n [] s e h = let no_way : ⊥ = cc in absurd no_way
teller_at g j zero n (x ∷ ss) s e h =
    let z : j ≡ n = omega (arith, e) in ap (λ m. Some (record { due = 0; has_ended = false; answers = answers_of g m; met = [] })) z
teller_at g j (suc i) n (x ∷ ss) s e h = teller_at g (suc j) i n ss s (omega (arith, e)) h

tellers_long : (g : StrandsInWorld) (j : ℕ) (ss : List WorldStrand) → length (starting_strands g j ss) ≡ length ss
tellers_long g j [] = refl
tellers_long g j (s ∷ ss) = ap suc (tellers_long g (suc j) ss)

-- ---- where a strand begins

abbrev left_with : List Entry → Left
left_with es = record { number = 0; entries = es; outcomes = [] }

on_fits : (p : Module) (s : Store) (es : List Entry) → StoreFits p s → All (EntryTyped p) es → HeldFits p (held_on s (left_with es) es)
on_fits p s [] f h = tt
on_fits p s (e ∷ es) f h = (f, tt, h)

on_holds : (area : Area) (s : Store) (es : List Entry) → 8 ≤ area.len → area.at + area.len ≤ length s.memory → length es < 2 ^ 32 → HeldHolds area (held_on s (left_with es) es)
on_holds area s [] wide inside few = tt
on_holds area s (e ∷ es) wide inside few = (record { wide = wide; inside = inside }, omega (arith, few))

on_starts : (s : Store) (es : List Entry) → is_in_start (held_on s (left_with es) es) ≡ false
on_starts s [] = refl
on_starts s (e ∷ es) = refl

parts_are : (x : StrandPlan) → IsStrandPlan x → All IsPart (parts_of x)
parts_are x plan = All-cons IsPart (first_part x.plan) x.strands.items (record { entries = plan.plan.entries; pokes = plan.plan.pokes }) plan.strands

module _ (x : StrandPlan) (y : Parted) (plan : IsStrandPlan x) (is : IsParted x y) (looks : List Look) (binds : List (Option (List ℕ))) (bound : BindsAs x.plan binds) where
  abbrev p : Module
  p = source_of x.plan

  abbrev pub g : StrandsInWorld
  g = world_strands x is.funcs looks binds

  abbrev n : ℕ
  n = length (parts_of x)

  abbrev low : ℕ
  low = least_of (all_memories p) * page_size

  -- what was made, without what was moved
  abbrev setting : Setting
  setting = record is.made { others = y.setting.others }

  abbrev clean : Stock
  clean = record {
    source = p;
    globals = x.plan.globals.items;
    setting = set_to setting (record { at = 0; len = 0 });
    steps_left = x.plan.steps;
    dues = map (λ (s : StrandPart). Some 0) (parts_of x);
    strands = y.strands.items;
  }

  at : (i : ℕ) → i < n → PartAt p (parts_of x) is.funcs y.strands.items i
  at i lt = part_at p (parts_of x) is.funcs y.strands.items i is.all is.strands lt

  fine : (i : ℕ) (lt : i < n) → SetUpFine p is.lawful (at i lt).s.area (entries_of (at i lt).s) (at i lt).fs
  fine i lt = let a = at i lt in set_up_fine p is.lawful a.s.area (entries_of a.s) a.fs a.up

  -- the setting of a strand
  setting_at : (i : ℕ) → i < n → (area : Area) → area ≡ (strand_at g.program i).area → IsSetting (world_strand g i) (set_to setting area)
  setting_at i lt area e =
      let a = at 0 (let z : 0 < n = omega arith in z) in
      let b : IsSetting (world_program x.plan a.fs looks binds) is.made = first_setting in
      record {
        valid = b.valid;
        typed = b.typed;
        memory = b.memory;
        exports = b.exports;
        area = sym e;
        others = with_areas p (parts_of x) is.funcs is.all ∙ sym is.others;
        listed = b.listed;
        steps = b.steps;
        names = b.names;
        bases = b.bases;
        binds = b.binds;
        results = b.results;
        all = b.all;
      }
    where
      zero_lt : 0 < n
      zero_lt = omega arith

      first_up : set_up_of p (first_part x.plan) ≡ Ok (at 0 zero_lt).fs
      first_up =
          let a = at 0 zero_lt in
          ap (set_up_of p) (some_same (first_part x.plan) a.s a.part_is) ∙ a.up
        where
          some_same : (u v : StrandPart) → Some u ≡ Some v → u ≡ v
          some_same u v q = cc

      first_setting : IsSetting (world_program x.plan (at 0 zero_lt).fs looks binds) is.made
      first_setting = setting_is x.plan (at 0 zero_lt).fs looks binds bound plan.plan is.lawful first_up is.made is.makes

  strand_is : (i : ℕ) (lt : i < n) → strand_at g.program i ≡ world_part (at i lt).s (at i lt).fs
  strand_is i lt = ap (λ (o : Option WorldStrand). unwrap_or o no_strand) (at i lt).world_is

  few_calls : (i : ℕ) (lt : i < n) → length (calls_of (entries_of (at i lt).s) (at i lt).fs) < 2 ^ 32
  few_calls i lt =
      let a = at i lt in
      let few = calls_few (entries_of a.s) a.fs in
      let many = length-map a.s.entries.items S.entry_of in
      let part = all_at IsPart (parts_of x) i a.s (parts_are x plan) a.part_is in
      let most = part.entries in
      omega (arith, few, many, most)

  row : (i : ℕ) → i < n → Row g (starting g) clean (all_at_start g.program) low i
  row i lt = record {
    slot = Some a.st;
    slot_is = a.slot_is;
    due = Some 0;
    due_is = slice_get-map (λ (s : StrandPart). Some 0) (parts_of x) i ∙ ap (option_map (λ (s : StrandPart). Some 0)) a.part_is;
    teller = record { due = 0; has_ended = false; answers = answers_of g i; met = [] };
    teller_is = teller_at g 0 i i g.program.strands (world_part a.s a.fs) (let z : i ≡ 0 + i = omega arith in z) a.world_is;
    thread = at_start g.program (world_part a.s a.fs);
    thread_is = slice_get-map (at_start g.program) g.program.strands i ∙ ap (option_map (at_start g.program)) a.world_is;
    row = (
      record {
        is_set = setting_at i lt a.st.area (a.at.area ∙ sym (ap (λ (s : WorldStrand). s.area) (strand_is i lt)));
        pokes = subst (λ ls. All HasShortPokes (lines_in ls)) (sym a.at.answers) (all_at IsPart (parts_of x) i a.s (parts_are x plan) a.part_is).pokes;
        answers = ap (λ (o : Option (List AnswerLine)). unwrap_or o []) (slice_get-map lines_of (parts_of x) i ∙ ap (option_map lines_of) a.part_is) ∙ ap lines_in (sym a.at.answers);
        unfinished = refl;
      },
      refl,
      free no_store l,
      refl,
      record {
        place = λ waits st. ap (place_in (exports_of p) a.st.area (left_of a.st.left) st waits) a.at.stage ∙ ap (λ (k : Left). free_place k st) a.at.left;
        fits = λ st f le. on_fits p st (calls_of (entries_of a.s) a.fs) f (fine i lt).entries;
        holds = λ st le.
            subst (λ (r : Area). HeldHolds r (held_on st l l.entries)) (sym a.at.area) (on_holds a.s.area st (calls_of (entries_of a.s) a.fs) room.0 (let z = room.1 in omega (arith, z, le)) (few_calls i lt));
        behind_start = λ st. on_starts st (calls_of (entries_of a.s) a.fs);
      },
    );
  }
    where
      a : PartAt p (parts_of x) is.funcs y.strands.items i
      a = at i lt

      l : Left
      l = left_with (calls_of (entries_of a.s) a.fs)

      room : (8 ≤ a.s.area.len) × (a.s.area.at + a.s.area.len ≤ low)
      room = lawful_area (least_of (all_memories p)) a.s.area (fine i lt).area_fits

  wide : length g.program.strands ≡ n
  wide = with_long p (parts_of x) is.funcs is.all

  fresh : FreshAt g (starting g) clean
  fresh = record {
    is = record {
      source = refl;
      globals = refl;
      globals_fit = plan.plan.globals;
      few_steps = plan.plan.few_steps;
      some = let w = wide in omega (arith, w);
      few = let w = wide in let f = plan.few in omega (arith, w, f);
      slots = start_long (parts_of x) is.funcs y.strands.items is.strands ∙ sym wide;
      dues = length-map (parts_of x) (λ (s : StrandPart). Some 0) ∙ sym wide;
      threads = length-map g.program.strands (at_start g.program);
      tellers = tellers_long g 0 g.program.strands;
    };
    told = refl;
    steps = refl;
    low = low;
    rows = λ i lt. row i (let w = wide in omega (arith, w, lt));
    first = a.st;
    first_is = a.slot_is;
    left = left_is;
    stage = a.at.stage;
    fits = subst (λ (l : Left). HeldFits p (held_begun p.start l (opening p x.plan.globals.items)).last) (sym left_is) begun;
    holds =
        let room = lawful_area (least_of (all_memories p)) a.s.area (fine 0 zero_lt).area_fits in
        let few = few_calls 0 zero_lt in
        subst (λ (l : Left). HeldHolds a.st.area (held_begun p.start l (opening p x.plan.globals.items)).last) (sym a.at.left)
        (subst (λ (r : Area). HeldHolds r (held_begun p.start (left_with (calls_of (entries_of a.s) a.fs)) (opening p x.plan.globals.items)).last) (sym a.at.area)
        (begun_holds p (plan_of g.program (world_part a.s a.fs)) (left_with (calls_of (entries_of a.s) a.fs)) x.plan.globals.items p.start room.0 room.1 (omega (arith, few))));
    long = λ st e. opens_long p x.plan.globals.items st e;
  }
    where
      zero_lt : 0 < n
      zero_lt = omega arith

      a : PartAt p (parts_of x) is.funcs y.strands.items 0
      a = at 0 zero_lt

      pl : PlainPlan
      pl = plan_of g.program (strand_at g.program 0)

      left_is : left_of a.st.left ≡ all_left pl []
      left_is = a.at.left ∙ sym (ap (λ (s : WorldStrand). all_left (plan_of g.program s) []) (strand_is 0 zero_lt))

      begun : HeldFits p (held_begun p.start (all_left pl []) (opening p x.plan.globals.items)).last
      begun =
          (begun_fits p is.lawful pl (fine 0 zero_lt).exports (all_left pl []) (opening p x.plan.globals.items) p.start 0
          (subst (λ (s : WorldStrand). All (EntryTyped p) s.entries) (sym (strand_is 0 zero_lt)) (fine 0 zero_lt).entries)
          (λ s o. openings_fit p x.plan.globals.items s is.lawful plan.plan.globals o) (λ f o. (start_takes_none p f is.lawful o, start_there p f p.start (valid_instance p is.lawful).start o))).1

  -- what stays of the program
  abbrev pub stock : Stock
  stock = record {
    source = module_of y.valid.now;
    globals = y.globals.items;
    setting = set_to y.setting (record { at = 0; len = 0 });
    steps_left = y.steps_left;
    dues = y.dues.items;
    strands = y.strands.items;
  }

  cleaned : stock ≡ clean
  cleaned = λ i. record {
    source = module_of (is.valid i).now;
    globals = (is.globals i).items;
    setting = set_to (is.setting i) (record { at = 0; len = 0 });
    steps_left = is.steps i;
    dues = is.dues i;
    strands = y.strands.items;
  }

  pub fresh_there : FreshAt g (starting g) stock
  fresh_there = subst (FreshAt g (starting g)) (sym cleaned) fresh

pub sets_up : (x : StrandPlan) (y : Parted) → IsStrandPlan x → IsParted x y
    → SetsUp x (record { valid = y.valid; globals = y.globals; setting = y.setting; steps_left = y.steps_left; dues = y.dues; strands = y.strands; state = Fresh })
sets_up x y plan is = (is.funcs, is.all, is.apart, λ looks binds bound. (fresh_there x y plan is looks binds bound, refl))

pub fails_so : (x : StrandPlan) (fault : StrandFault) → SetsUpParted x (Err fault) → SetsUpStrands x (Err fault)
fails_so x Memory h = tt
fails_so x (Setup strand fault) h = h
fails_so x (Overlap strand) h = h
