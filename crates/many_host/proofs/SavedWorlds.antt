-- What a host holds between events is a snapshot of the world up to its last event.
use Rattle.std.proofs.Common.{◌≡◌, ◌≤◌, ◌<◌, ◌+◌, ◌*◌, ◌^◌, ◌⊎◌, inl, inr, ℕ, zero, suc, List, [], ◌∷◌, ◌++◌, length, map, drop, get_or, Option, Some, None, All, Bool, true, false, cond, MatchBool, slice_get, refl, sym, ap, ◌∙◌, subst, append-nil, length-append, arith}
use Rattle.std.specs.List.{AllZip, filter_map}
use Rattle.std.specs.Option.{option_map}
use Rattle.std.proofs.lemmas.List.{length-map}
use Rattle.std.proofs.lemmas.List.Recursion.{is_count_by}
use Rattle.std.proofs.lemmas.List.Elements.{All-cons, All-head, All-nil, All-tail}
use Rattle.std.proofs.lemmas.Option.{same_Some, slice_get-get_or, slice_get-map, slice_get_within}
use Rattle.wa_types.specs.declared.syntax.Import.{Import}
use Rattle.wa_types.specs.declared.syntax.ImportKind.{ImportKind}
use Rattle.wa_types.specs.declared.syntax.ImportKind.TheVariants.{Func as a_func_import, Table as a_table_import, Memory as a_memory_import, Global as a_global_import}
use Rattle.wa_types.specs.declared.values.Value.{Value}
use Rattle.wa_types.specs.Memory.{page_size}
use Rattle.wa_types.specs.Modules.{all_globals, global_type, imported, imported_global}
use Rattle.wa_types.specs.Sizes.{SizeRule, is_global}
use Rattle.wa_types.specs.Syntax.{Module}
use Rattle.wa_types.specs.Typing.{GlobalType, type_of}
use Rattle.wa_model.specs.declared.answers.Detach.{Detach}
use Rattle.wa_model.specs.Blocking.{Note}
use Rattle.wa_model.specs.Outside.{AnswerLine, Line}
use Rattle.wa_model.specs.Plan.{Outcome}
use Rattle.world_model.specs.World as W
use Rattle.world_model.specs.World.{Actor, Device, IsOver, answers_from, at_start, due_from, line_at, protocol_story}
use Rattle.run_theory.specs.Fitting.{global_types, types_of}
use Rattle.interp.specs.Host.{store_in}
use Rattle.event_order.specs.Dues.{HaveEnded}
use Rattle.event_order.specs.declared.shows.Show.{Show}
use Rattle.event_order.specs.Looks.{looks_of}
use Rattle.snapshot_store.specs.Parts.{CountsFit}
use Rattle.snapshot_store.specs.Snapshots.{PausedParts, ProgramRecord, Snapshot, fresh, paused}
use Rattle.world_laws.specs.Originals.{new_calls}
use Rattle.world_laws.specs.Played.{ProtocolWorldUpToFrom}
use Rattle.world_laws.specs.Snapshots.{IsPaused, IsRecordOf, StandsSo}
use Rattle.world_laws.proofs.Counting.{Ends}
use Rattle.world_laws.proofs.StoryParts.{story_ends}
use Rattle.pause_host.specs.Parting.{parts_at, parts_in}
use Rattle.pause_host.specs.Programs.{FollowsAt, begins_paused, ends_in_pause, is_at_pause, lines_left, memory_in, place_of}
use Rattle.pause_host.specs.declared.program.Program.{Program}
use Rattle.pause_host.specs.declared.program.State.{State}
use Rattle.pause_host.specs.declared.program.State.TheVariants.{Failed, Fresh, Live, Lost}
use Rattle.pause_host.specs.declared.stages.Stage.TheVariants.{Answering, Ended, Ending, Free, Giving, Paused, Pausing}
use Rattle.pause_host.proofs.Thawings.{all_at}
use Rattle.many_host.specs.Turns.{Teller, TellsFrom, due_of, ends_program, is_gone, since, unless, IsRest}
use Rattle.many_host.specs.Notes.{OnStory}
use Rattle.many_host.specs.Standing.{Held, Holds, IsHeld, IsTelling, LooksOut, StandingFrom, StandsAtFrom, has_gone, held_of, looks_at, on_its_way}
use Rattle.many_host.specs.declared.turn_taking.Stage.{Stage}
use Rattle.many_host.specs.declared.turn_taking.Stage.TheVariants.{Between, Showing, Telling}
use Rattle.many_host.specs.declared.hosted.Hosted.{Hosted}
use Rattle.many_host.specs.declared.host.Host.{Host}
use Rattle.many_host.specs.Hosts.{HostToldFrom, follows, has_ended, memory_of}
use Rattle.many_host.specs.Saving.{CanBeSaved, HasItsPages, IsSaved, record_for, records_for, saved_of, unended_record}
use Rattle.many_host.proofs.Counted.{Counted, counted}
use Rattle.many_host.proofs.MetLines.{LinesMet}
use Rattle.many_host.proofs.Origins.{some_story}
use Rattle.world_laws.proofs.Places.{item}
use Rattle.many_host.proofs.Stories.{ends_tail}
use Rattle.many_host.proofs.Telling.{RestTo, Stood, StoodTo, Storied, told_is_world_stood}
use Rattle.many_host.proofs.Worlds.{all_on}
use Rattle.many_host.proofs.SavedPauses.{saved_pause}
use Rattle.many_host.proofs.SavedRecords.{records_many}
use Rattle.many_host.proofs.SavedTurns.{IsTurned, Rests, all_turned}

-- ---- stories whose calls have met all that they will

abbrev NoMore : List Outcome → Type 0
NoMore os = os ≡ []

some_left : (rest : List Note) → (rest ≡ [] → ⊥) → 0 < length rest
some_left [] h = absurd (h refl)
some_left (x ∷ xs) h = omega arith

met_story : (w : W.Program) (t : Teller) → Counted t → OnStory w t → Storied NoMore w t
met_story w t count on = by t.has_ended refl on.whole
  where
    is_rest : (b c : Bool) (rest : List Note) → b ≡ c → IsRest c rest → IsRest b rest
    is_rest b c rest e r = subst (λ (x : Bool). IsRest x rest) (sym e) r

    no_end : ends_program t.told ≡ false → protocol_story w (t.met ++ []) ≡ t.told ++ [] → (protocol_story w (t.met ++ []) ≡ []) ⊎ Ends (protocol_story w (t.met ++ [])) → is_gone w ≡ false → ⊥
    no_end live is (inl none) some = some_story w some (t.met ++ []) none
    no_end live is (inr ends) some = ends_tail t.told [] live (subst Ends is ends)

    some_rest : (rest : List Note) → protocol_story w (t.met ++ []) ≡ t.told ++ rest → ends_program t.told ≡ false → is_gone w ≡ false → rest ≡ [] → ⊥
    some_rest rest is live some none =
        let whole : protocol_story w (t.met ++ []) ≡ t.told ++ [] = is ∙ ap (λ (es : List Note). t.told ++ es) none in
        let few : new_calls (protocol_story w (t.met ++ [])) ≤ length (t.met ++ []) =
        omega (arith, ap new_calls (whole ∙ append-nil t.told), count, ap (λ (os : List Outcome). length os) (append-nil t.met)) in
        no_end live whole (story_ends w (t.met ++ []) few) some

    by : (b : Bool) → t.has_ended ≡ b → MatchBool b (t.told ≡ protocol_story w t.met) (ends_program t.told ≡ false) → Storied NoMore w t
    by true e whole = (
      record { rest = []; more = []; story = ap (protocol_story w) (append-nil t.met) ∙ sym whole ∙ sym (append-nil t.told); is_rest = is_rest t.has_ended true [] e refl },
      refl,
    )
    by false e live =
        let from = on.begins [] in (
          record { rest = from.0; more = []; story = from.1; is_rest = is_rest t.has_ended false from.0 e (some_left from.0 (some_rest from.0 from.1 live (on.live e))) },
          refl,
        )

all_met : (ws : List W.Program) (tellers : List Teller) → ((j : ℕ) (t : Teller) → slice_get tellers j ≡ Some t → Counted t) → AllZip OnStory ws tellers → AllZip (Storied NoMore) ws tellers
all_met [] [] c h = tt
all_met [] (t ∷ tellers) c h = absurd h
all_met (w ∷ ws) [] c h = absurd h
all_met (w ∷ ws) (t ∷ tellers) c h = (met_story w t (c 0 t refl) h.0, all_met ws tellers (λ j. c (suc j)) h.1)

-- ---- one program

no_parts : (y : Program) (state : State) → parts_at y state ≡ None → is_at_pause state ≡ false
no_parts y (Live instance (Paused pause)) e = cc
no_parts y (Live instance Free) e = refl
no_parts y (Live instance (Answering task answer)) e = refl
no_parts y (Live instance (Giving task value)) e = refl
no_parts y (Live instance (Pausing pause)) e = refl
no_parts y (Live instance (Ending end)) e = refl
no_parts y (Live instance (Ended end)) e = refl
no_parts y Fresh e = refl
no_parts y (Failed how) e = refl
no_parts y Lost e = refl

-- one that hasn't ended is on its way
held_so : (shows : List Show) (i : ℕ) (w : W.Program) (t : Teller) (x : Hosted) → Holds follows has_ended shows i w t x → t.has_ended ≡ false → IsHeld follows has_ended shows i w t x
held_so shows i w t x (on_its_way held) e = held
held_so shows i w t x (has_gone is told looks) e = let both : true ≡ false = sym is ∙ sym (ap (λ (z : Teller). z.has_ended) told) ∙ e in cc

module _ (shows : List Show) (i : ℕ) (w : W.Program) (t : Teller) (x : Hosted) (a n : Actor) (holds : Holds follows has_ended shows i w t x) (turned : IsTurned w t) (stood : Stood NoMore t a n)
    (at_first : w.origin ≡ at_start) where
  fresh_so : t.has_ended ≡ false → IsHeld follows has_ended shows i w t x → parts_in x.program ≡ None → StandsSo w t.told t.met n fresh
  fresh_so live held none = by turned.rests
    where
      unpaused : ends_in_pause (begins_paused w.origin) t.told ≡ false
      unpaused = sym held.follow.0.paused ∙ no_parts x.program x.program.state none

      by : Rests w t → StandsSo w t.told t.met n fresh
      by (inl is) = record {
        start = at_first;
        none_made = ap (λ (z : Teller). z.told) is;
        none_met = ap (λ (z : Teller). z.met) is;
        due = stood.due ∙ ap (λ (z : Teller). z.due) is ∙ ap due_from at_first;
        answers = stood.answers ∙ ap (λ (z : Teller). z.answers) is ∙ ap (answers_from w.answers) at_first;
      }
      by (inr (inl pauses)) = let both : true ≡ false = sym pauses ∙ unpaused in cc
      by (inr (inr ended)) = let both : true ≡ false = sym ended ∙ live in cc

  paused_so : (parts : PausedParts) → IsHeld follows has_ended shows i w t x → parts_in x.program ≡ Some parts → length (memory_in x.program) ≡ parts.pages * page_size
      → StandsSo w t.told t.met n (paused t.due parts (memory_in x.program))
  paused_so parts held is whole =
      subst (λ (due : ℕ). IsPaused w t.told t.met n due parts (memory_in x.program)) stood.due
      (saved_pause w t.told t.met x.program x.program.state n parts at_first held.follow.0.at held.follow.0.code
      (subst (λ (ls : List AnswerLine). LinesMet ls t.met (lines_left x.program)) (ap (answers_from w.answers) at_first)
      (subst (λ (ls : List AnswerLine). LinesMet (answers_from w.answers w.origin) t.met ls) (sym held.follow.1) turned.lines))
      (stood.answers ∙ sym held.follow.1) is whole)

  by_parts : t.has_ended ≡ false → IsHeld follows has_ended shows i w t x → (o : Option PausedParts) → parts_in x.program ≡ o → HasItsPages (unended_record t.due o (memory_in x.program))
      → StandsSo w t.told t.met n (unended_record t.due o (memory_in x.program))
  by_parts live held None e whole = fresh_so live held e
  by_parts live held (Some parts) e whole = paused_so parts held e whole

  by_end : (b : Bool) → t.has_ended ≡ b → HasItsPages (record_for (unless b t.due) x) → StandsSo w t.told t.met n (record_for (unless b t.due) x)
  by_end true e whole = subst (λ (b : Bool). IsRest b n.notes) e stood.is_rest
  by_end false e whole = by_parts e (held_so shows i w t x holds e) (parts_in x.program) refl whole

  pub record_so : HasItsPages (record_for (due_of t) x) → IsRecordOf w a n (record_for (due_of t) x)
  record_so whole = record { made = t.told; met = t.met; notes = stood.notes; outcomes = stood.outcomes; stands = by_end t.has_ended refl whole }

-- ---- all of them

-- one that is never due has ended
told_end : (b : Bool) (due : ℕ) → (unless b due ≡ Some due → ⊥) → b ≡ true
told_end true due never = refl
told_end false due never = absurd (never refl)

record_at : (dues : List (Option ℕ)) (xs : List Hosted) (i : ℕ) (d : Option ℕ) (x : Hosted) → slice_get dues i ≡ Some d → slice_get xs i ≡ Some x
    → slice_get (records_for dues xs) i ≡ Some (record_for d x)
record_at [] xs i d x ed ex = cc
record_at (c ∷ dues) [] i d x ed ex = cc
record_at (c ∷ dues) (y ∷ xs) zero d x ed ex = λ k. Some (record_for (same_Some c d ed k) (same_Some y x ex k))
record_at (c ∷ dues) (y ∷ xs) (suc i) d x ed ex = record_at dues xs i d x ed ex

-- nothing is still to be shown: whole turns are told
turns_told : (begun : ℕ) (programs : List W.Program) (detaches : List Detach) (ds ds' : List Device) (lines : List Line) (tellers : List Teller) (h : Held Hosted) (stage : Stage) → LooksOut h.shows stage
    → StandsAtFrom begun memory_of programs detaches ds lines tellers h ds' stage → TellsFrom begun programs detaches ds (since begun h.begun) lines tellers ds'
turns_told begun programs detaches ds ds' lines tellers h Between out at = at
turns_told begun programs detaches ds ds' lines tellers h (Telling turn) out at = absurd out
turns_told begun programs detaches ds ds' lines tellers h (Showing turn from) out at =
    let none : lines ++ map (line_at turn.due turn.program) (looks_at (memory_of at.0) (looks_of turn.program (drop from h.shows))) ≡ lines =
    ap (λ looks. lines ++ map (line_at turn.due turn.program) (looks_at (memory_of at.0) looks)) out ∙ append-nil lines in
    subst (λ (ls : List Line). TellsFrom begun programs detaches ds (since begun h.begun) ls tellers ds') none at.2

module _ (begun : ℕ) (programs : List W.Program) (detaches : List Detach) (ds ds' : List Device) (lines : List Line) (h : Held Hosted) (stage : Stage)
    (s : StandingFrom begun follows has_ended memory_of programs detaches ds lines h ds' stage) (out : LooksOut h.shows stage) (can : All CanBeSaved programs)
    (whole : All HasItsPages (records_for h.dues h.programs)) where
  tells : TellsFrom begun programs detaches ds (since begun h.begun) lines s.tellers ds'
  tells = turns_told begun programs detaches ds ds' lines s.tellers h stage out s.at

  turned : (i : ℕ) (w : W.Program) (t : Teller) → slice_get programs i ≡ Some w → slice_get s.tellers i ≡ Some t → IsTurned w t
  turned = all_turned begun programs detaches ds ds' (since begun h.begun) lines s.tellers (λ i w at. (all_at CanBeSaved i programs w can at).1) tells

  many : length h.dues ≡ length h.programs
  many = ap (λ (l : List (Option ℕ)). length l) s.dues ∙ length-map s.tellers due_of ∙ s.wide ∙ sym s.as_many

  abbrev Reached : ℕ → Type 0
  Reached number =
      (world : ProtocolWorldUpToFrom begun programs detaches ds number lines ds') × StoodTo NoMore s.tellers world.actors world.now × RestTo s.tellers world.now
      × (length world.now ≡ length s.tellers)

  reached : Reached h.begun
  reached =
      subst Reached s.begun_is
      (told_is_world_stood NoMore begun programs detaches ds ds' (since begun h.begun) lines s.tellers tells
      (all_met programs s.tellers (counted begun programs detaches ds (since begun h.begun) lines s.tellers ds' tells) (all_on begun programs detaches ds lines h ds' stage s)))

  abbrev snapshot : Snapshot
  snapshot = record { events = h.begun; programs = records_for h.dues h.programs }

  each : (i : ℕ) (w : W.Program) (a b : Actor) (r : ProgramRecord) → slice_get programs i ≡ Some w → slice_get reached.0.actors i ≡ Some a → slice_get reached.0.now i ≡ Some b
      → slice_get snapshot.programs i ≡ Some r → IsRecordOf w a b r
  each i w a b r ew ea eb er =
      let within = slice_get_within programs i w ew in
      let t = item s.tellers i (omega (arith, within, s.wide)) in
      let x = item h.programs i (omega (arith, within, s.as_many)) in
      let d : slice_get h.dues i ≡ Some (due_of t.0) = ap (λ (l : List (Option ℕ)). slice_get l i) s.dues ∙ slice_get-map due_of s.tellers i ∙ ap (option_map due_of) t.1 in
      let there = record_at h.dues h.programs i (due_of t.0) x.0 d x.1 in
      let pages = all_at HasItsPages i (records_for h.dues h.programs) (record_for (due_of t.0) x.0) whole there in
      subst (IsRecordOf w a b) (same_Some (record_for (due_of t.0) x.0) r (sym there ∙ er))
      (record_so h.shows i w t.0 x.0 a b (s.each i w t.0 x.0 ew t.1 x.1) (turned i w t.0 ew t.1) (reached.1 i t.0 a b t.1 ea eb) (all_at CanBeSaved i programs w can ew).0 pages)

  no_more : (i : ℕ) (t : Teller) (a : Actor) → slice_get s.tellers i ≡ Some t → slice_get reached.0.actors i ≡ Some a → a.outcomes ≡ t.met
  no_more i t a et ea =
      let n = item reached.0.now i (omega (arith, slice_get_within s.tellers i t et, reached.3)) in
      let stood = reached.1 i t a n.0 et ea n.1 in
      stood.outcomes ∙ ap (λ (os : List Outcome). t.met ++ os) stood.later ∙ append-nil t.met

  all_over : HaveEnded (map due_of s.tellers) → IsOver reached.0.now
  all_over ended k d within =
      let n = get_or reached.0.now k d in
      let t = item s.tellers k (omega (arith, within, reached.3)) in
      let is : t.0.has_ended ≡ true = told_end t.0.has_ended t.0.due (λ e. ended k t.0.due (slice_get-map due_of s.tellers k ∙ ap (option_map due_of) t.1 ∙ ap (λ (o : Option ℕ). Some o) e)) in
      subst (λ (b : Bool). IsRest b n.notes) is (reached.2 k t.0 n t.1 (slice_get-get_or reached.0.now k d within))

  saved : IsSaved begun programs detaches ds lines ds' s.tellers snapshot
  saved = record {
    world = reached.0;
    is = record { events = refl; count = records_many h.dues h.programs many ∙ s.as_many; each = each };
    met = no_more;
    over = all_over;
  }

pub is_saved : (begun : ℕ) (programs : List W.Program) (detaches : List Detach) (ds ds' : List Device) (lines : List Line) (h : Host) (told : HostToldFrom begun programs detaches ds lines h ds')
    → LooksOut h.turns.shows.items h.turns.stage → All CanBeSaved programs → All HasItsPages (records_for h.turns.dues.items h.turns.programs.items)
    → IsSaved begun programs detaches ds lines ds' told.tellers (saved_of h.turns)
is_saved begun programs detaches ds ds' lines h told out can whole = saved begun programs detaches ds ds' lines (held_of h.turns) h.turns.stage told out can whole

-- ---- its counts

global_step : (i : Import) (is : List Import) (kind : ImportKind) → i.kind ≡ kind
    → length (filter_map (λ (x : Import). imported_global x.kind) (i ∷ is))
    ≡ cond (is_global i.kind) (1 + length (filter_map (λ (x : Import). imported_global x.kind) is)) (length (filter_map (λ (x : Import). imported_global x.kind) is))
global_step i is (a_func_import sort) e = rw e refl
global_step i is (a_table_import l) e = rw e refl
global_step i is (a_memory_import l) e = rw e refl
global_step i is (a_global_import t mutable) e = rw e (omega arith)

few_globals : (m : Module) → SizeRule m → length (all_globals m) < 2 ^ 32
few_globals m sizes =
    omega (
      arith,
      length-append (imported imported_global m) (map global_type m.globals),
      length-map m.globals global_type,
      is_count_by (λ is. length (filter_map (λ (x : Import). imported_global x.kind) is)) (λ (i : Import). is_global i.kind) refl (λ i is. global_step i is i.kind refl) m.imports,
      sizes.globals,
    )

as_typed : (vs : List Value) (gs : List GlobalType) → types_of vs ≡ global_types gs → length vs ≡ length gs
as_typed vs gs e = sym (length-map vs type_of) ∙ ap (λ ts. length ts) e ∙ length-map gs (λ (g : GlobalType). g.ty)

paused_few : (w : W.Program) (told : List Note) (met : List Outcome) (y : Program) (state : State) (parts : PausedParts) → FollowsAt w told met y (place_of y state) → parts_at y state ≡ Some parts
    → length parts.globals < 2 ^ 32
paused_few w told met y (Live instance (Paused pause)) parts f is =
    omega (arith, ap (λ (z : PausedParts). length z.globals) (same_Some _ parts is), as_typed (store_in instance).globals (all_globals w.source) f.fits.0.globals, few_globals w.source f.sizes)
paused_few w told met y (Live instance Free) parts f is = cc
paused_few w told met y (Live instance (Answering task answer)) parts f is = cc
paused_few w told met y (Live instance (Giving task value)) parts f is = cc
paused_few w told met y (Live instance (Pausing pause)) parts f is = cc
paused_few w told met y (Live instance (Ending end)) parts f is = cc
paused_few w told met y (Live instance (Ended end)) parts f is = cc
paused_few w told met y Fresh parts f is = cc
paused_few w told met y (Failed how) parts f is = cc
paused_few w told met y Lost parts f is = cc

one_fits : (due : Option ℕ) (x : Hosted) → HasItsPages (record_for due x) → ((n : ℕ) (parts : PausedParts) → due ≡ Some n → parts_in x.program ≡ Some parts → length parts.globals < 2 ^ 32)
    → CountsFit (record_for due x)
one_fits None x whole few = tt
one_fits (Some n) x whole few = by (parts_in x.program) whole (λ parts e. few n parts refl e)
  where
    by : (o : Option PausedParts) → HasItsPages (unended_record n o (memory_in x.program)) → ((parts : PausedParts) → o ≡ Some parts → length parts.globals < 2 ^ 32)
        → CountsFit (unended_record n o (memory_in x.program))
    by None whole few = tt
    by (Some parts) whole few = (few parts refl, whole)

all_fit : (dues : List (Option ℕ)) (xs : List Hosted) → All HasItsPages (records_for dues xs)
    → ((i n : ℕ) (x : Hosted) (parts : PausedParts) → slice_get dues i ≡ Some (Some n) → slice_get xs i ≡ Some x → parts_in x.program ≡ Some parts → length parts.globals < 2 ^ 32)
    → All CountsFit (records_for dues xs)
all_fit [] xs whole few = All-nil CountsFit
all_fit (d ∷ dues) [] whole few = All-nil CountsFit
all_fit (d ∷ dues) (x ∷ xs) whole few =
    All-cons CountsFit (record_for d x) (records_for dues xs)
    (one_fits d x (All-head HasItsPages (record_for d x) (records_for dues xs) whole) (λ n parts ed ep. few 0 n x parts (ap (λ (o : Option ℕ). Some o) ed) refl ep))
    (all_fit dues xs (All-tail HasItsPages (record_for d x) (records_for dues xs) whole) (λ i. few (suc i)))

not_ended : (t : Teller) (n : ℕ) → due_of t ≡ Some n → t.has_ended ≡ false
not_ended t n e = by t.has_ended e
  where
    by : (b : Bool) → unless b t.due ≡ Some n → b ≡ false
    by true e = cc
    by false e = refl

pub counts_fit : (h : Held Hosted) (ds' : List Device) (stage : Stage) → IsTelling follows has_ended memory_of h ds' stage → All HasItsPages (records_for h.dues h.programs)
    → All CountsFit (records_for h.dues h.programs)
counts_fit h ds' stage telling whole = all_fit h.dues h.programs whole each
  where
    each : (i n : ℕ) (x : Hosted) (parts : PausedParts) → slice_get h.dues i ≡ Some (Some n) → slice_get h.programs i ≡ Some x → parts_in x.program ≡ Some parts → length parts.globals < 2 ^ 32
    each i n x parts ed ex ep =
        let s = telling.stands in
        let within = slice_get_within h.programs i x ex in
        let t = item s.tellers i (omega (arith, within, s.as_many, s.wide)) in
        let w = item telling.programs i (omega (arith, within, s.as_many)) in
        let d : slice_get h.dues i ≡ Some (due_of t.0) = ap (λ (l : List (Option ℕ)). slice_get l i) s.dues ∙ slice_get-map due_of s.tellers i ∙ ap (option_map due_of) t.1 in
        let live = not_ended t.0 n (same_Some (due_of t.0) (Some n) (sym d ∙ ed)) in
        let held = held_so h.shows i w.0 t.0 x (s.each i w.0 t.0 x w.1 t.1 ex) live in
        paused_few w.0 t.0.told t.0.met x.program x.program.state parts held.follow.0.at ep
