-- What was told, as the first lines of a world's run.
use Rattle.std.proofs.Common.{arith, ◌≡◌, ◌<◌, ◌⊎◌, inl, inr, ℕ, suc, zero, List, [], ◌∷◌, ◌++◌, length, map, Some, Bool, true, false, slice_get, slice_set, refl, sym, ap, ◌∙◌, subst, append_assoc, append-nil}
use Rattle.std.specs.Prelude.{MatchBool}
use Rattle.std.specs.List.{AllZip}
use Rattle.std.proofs.lemmas.Bool.{cases_eq}
use Rattle.std.proofs.lemmas.List.{append_cancel_right, map-append}
use Rattle.std.proofs.lemmas.Option.{same_Some}
use Rattle.wa_model.specs.declared.answers.Detach.{Detach}
use Rattle.wa_model.specs.Outside.{Line}
use Rattle.wa_model.specs.Plan.{Outcome}
use Rattle.wa_model.specs.Blocking.{Note, events_of}
use Rattle.wa_model.specs.Behaves.{IsPrefix}
use Rattle.world_model.specs.World.{Actor, Device, Program, CallsMeet, ProtocolWorldFrom, behind_turn, detached, events_with_looks, line_at, protocol_story, turn_of}
use Rattle.world_laws.proofs.Counting.{Ends}
use Rattle.world_laws.proofs.GoingOn.{gone_on}
use Rattle.world_laws.proofs.Places.{set_here, set_there, zip_both}
use Rattle.world_laws.proofs.Replaying.{Front, Quads, Twice, calls_front, quad_of}
use Rattle.world_laws.proofs.Rests.{Further, calls_more, further}
use Rattle.world_laws.proofs.Turns.{turn_parts}
use Rattle.event_order.specs.Dues.{HaveEnded, IsLeast}
use Rattle.many_host.specs.Turns.{HaveMet, Teller, due_of, ends_program, having_told, behind, TellsFrom, TellsTurn, IsRest, HasStory}
use Rattle.many_host.proofs.Telling.{MetTo, all_told_met, told_is_world_met}
use Rattle.many_host.specs.Notes.{OnStory, TellsOnFrom}
use Rattle.many_host.specs.ToldNotes.{BeginsWorldFrom, BegunBegins, ToldBegins, ToldWhole}
use Rattle.many_host.proofs.Notes.{ends_none}
use Rattle.many_host.proofs.Counted.{Counted, counted, counted_on}
use Rattle.many_host.proofs.Completed.{ends_behind, looks_behind, once_behind, turn_once, turn_rest}
use Rattle.many_host.proofs.Stories.{rest_ends}

-- ---- stories of programs that were told in part

some_rest : (xs : List Note) → Ends xs → 0 < length xs
some_rest [] h = absurd h
some_rest (x ∷ xs) h = omega arith

had : (w : Program) (t : Teller) → Counted t → OnStory w t → HasStory w t
had w t count on = by t.has_ended refl on.whole where
  is_rest : (b c : Bool) (rest : List Note) → b ≡ c → IsRest c rest → IsRest b rest
  is_rest b c rest e r = subst (λ (x : Bool). IsRest x rest) (sym e) r

  by : (b : Bool) → t.has_ended ≡ b → MatchBool b (t.told ≡ protocol_story w t.met) (ends_program t.told ≡ false) → HasStory w t
  by true e whole =
      record { rest = []; more = []; story = ap (protocol_story w) (append-nil t.met) ∙ sym whole ∙ sym (append-nil t.told); is_rest = is_rest t.has_ended true [] e refl }
  by false e live =
      let from = on.begins [] in
      let f = further w t.met t.told [] [] count [] from.0 from.1 in
      let ends = rest_ends w t.met t.told [] [] count live (on.live e) f in
      record { rest = f.full; more = f.outcomes; story = f.story; is_rest = is_rest t.has_ended false f.full e (some_rest f.full ends) }

all_had : (ws : List Program) (tellers : List Teller) → ((j : ℕ) (t : Teller) → slice_get tellers j ≡ Some t → Counted t) → AllZip OnStory ws tellers → AllZip HasStory ws tellers
all_had [] [] c h = tt
all_had [] (t ∷ tellers) c h = absurd h
all_had (w ∷ ws) [] c h = absurd h
all_had (w ∷ ws) (t ∷ tellers) c h = (had w t (c 0 t refl) h.0, all_had ws tellers (λ j. c (suc j)) h.1)

-- ---- whole turns

-- Some run of the world has these first lines, in which each program's calls meet first what they have met.
abbrev pub BeginsMet : (begun : ℕ) → List Program → List Detach → List Device → List Line → List Teller → Type 0
BeginsMet begun programs detaches ds lines tellers =
    (more : List Line) × (last : List Device) × (world : ProtocolWorldFrom begun programs detaches ds (lines ++ more) last) × HaveMet tellers world.actors

met_again : (tellers : List Teller) (starts now again ahead : List Actor) → MetTo tellers starts now → Quads starts now again ahead → HaveMet tellers again
met_again tellers starts now again ahead met quads i t b et eb =
    let q = quad_of starts now again ahead quads i b eb in
    let twice : Twice q.0 q.1 b q.2 = q.5 in
    let used : twice.since.used ≡ t.met = append_cancel_right twice.since.used t.met q.1.outcomes (sym twice.since.outcomes ∙ met i t q.0 q.1 et q.3 q.4) in
    (q.2.outcomes, twice.outcomes ∙ ap (λ (os : List Outcome). os ++ q.2.outcomes) used)

begins_by : (begun : ℕ) (programs : List Program) (detaches : List Detach) (ds ds' : List Device) (number : ℕ) (lines : List Line) (tellers : List Teller)
    → TellsFrom begun programs detaches ds number lines tellers ds' → AllZip HasStory programs tellers → BeginsMet begun programs detaches ds lines tellers
begins_by begun programs detaches ds ds' number lines tellers tells all =
    let up = told_is_world_met begun programs detaches ds ds' number lines tellers tells all in
    let whole = gone_on begun programs detaches ds ds' (behind begun number) lines up.0 in
    (whole.more, whole.last, whole.world, met_again tellers up.0.actors up.0.now whole.world.actors whole.ahead up.1 whole.again)

pub turns_begin : (begun : ℕ) (programs : List Program) (detaches : List Detach) (ds ds' : List Device) (number : ℕ) (lines : List Line) (tellers : List Teller)
    → TellsFrom begun programs detaches ds number lines tellers ds' → AllZip OnStory programs tellers → BeginsMet begun programs detaches ds lines tellers
turns_begin begun programs detaches ds ds' number lines tellers tells all =
    begins_by begun programs detaches ds ds' number lines tellers tells (all_had programs tellers (counted begun programs detaches ds number lines tellers ds' tells) all)

pub turns_whole : (begun : ℕ) (programs : List Program) (detaches : List Detach) (ds ds' : List Device) (number : ℕ) (lines : List Line) (tellers : List Teller)
    → TellsFrom begun programs detaches ds number lines tellers ds' → AllZip OnStory programs tellers → HaveEnded (map due_of tellers)
    → (world : ProtocolWorldFrom begun programs detaches ds lines ds') × HaveMet tellers world.actors
turns_whole begun programs detaches ds ds' number lines tellers tells all ended =
    all_told_met begun programs detaches ds ds' number lines tellers tells (all_had programs tellers (counted begun programs detaches ds number lines tellers ds' tells) all) ended

-- its lines alone
pub lines_begin : (begun : ℕ) (programs : List Program) (detaches : List Detach) (ds : List Device) (lines : List Line) (tellers : List Teller) → BeginsMet begun programs detaches ds lines tellers
    → BeginsWorldFrom begun programs detaches ds lines
lines_begin begun programs detaches ds lines tellers b = (b.0, b.1, b.2)

pub told_begins : ToldBegins
told_begins begun programs detaches ds ds' number lines tellers tells all = lines_begin begun programs detaches ds lines tellers (turns_begin begun programs detaches ds ds' number lines tellers tells all)

pub told_whole : ToldWhole
told_whole begun programs detaches ds ds' number lines tellers tells all ended = (turns_whole begun programs detaches ds ds' number lines tellers tells all ended).0

-- ---- a turn that has begun

zip_set : (ws : List Program) (ts : List Teller) (i : ℕ) (w : Program) (u v : Teller) → slice_get ws i ≡ Some w → AllZip HasStory ws (slice_set ts i u) → HasStory w v
    → AllZip HasStory ws (slice_set ts i v)
zip_set [] [] i w u v ew h s = tt
zip_set [] (t ∷ ts) zero w u v ew h s = absurd h
zip_set [] (t ∷ ts) (suc i) w u v ew h s = absurd h
zip_set (x ∷ ws) [] i w u v ew h s = absurd h
zip_set (x ∷ ws) (t ∷ ts) zero w u v ew h s = (subst (λ (y : Program). HasStory y v) (sym (same_Some x w ew)) s, h.1)
zip_set (x ∷ ws) (t ∷ ts) (suc i) w u v ew h s = (h.0, zip_set ws ts i w u v ew h.1 s)

module _ (begun : ℕ) (programs : List Program) (detaches : List Detach) (ds ds' : List Device) (number i due : ℕ) (lines : List Line) (tellers : List Teller)
    (on : TellsOnFrom begun programs detaches ds number i due lines tellers ds') (all : AllZip OnStory programs tellers) where
  abbrev now : Teller
  now = having_told on.t on.turn on.met on.answers

  abbrev count : (j : ℕ) (t : Teller) → slice_get tellers j ≡ Some t → Counted t
  count = counted_on begun programs detaches ds number i due lines tellers ds' on

  there : slice_get tellers i ≡ Some now
  there = ap (λ (l : List Teller). slice_get l i) on.after ∙ set_here on.mid i now on.t on.there

  live_by : (b : Bool) → b ≡ false → MatchBool b (now.told ≡ protocol_story on.w now.met) (ends_program now.told ≡ false) → ends_program now.told ≡ false
  live_by true e h = cc
  live_by false e h = h

  story : OnStory on.w now
  story = zip_both OnStory programs tellers all i on.w now on.program there

  abbrev f : Further on.w now.met now.told on.answers ds'
  f = further on.w now.met now.told on.answers ds' (count i now there) [] (story.begins []).0 (story.begins []).1

  ends : Ends f.full
  ends =
      rest_ends on.w now.met now.told on.answers ds' (count i now there) (live_by now.has_ended (ends_none on.turn on.goes_on) story.whole) (story.live (ends_none on.turn on.goes_on)) f

  front : Front on.w (turn_of f.full) f.outcomes on.answers ds'
  front =
      calls_front on.w (turn_of f.full) (behind_turn f.full) f.outcomes on.answers ds' [] f.left ds'
      (subst (λ (l : List Note). CallsMeet on.w l f.outcomes on.answers ds' [] f.left ds') (sym (turn_parts f.full)) f.meets)

  first_calls : CallsMeet on.w (turn_of f.full) front.first on.answers ds' [] front.answers front.devices
  first_calls = subst (λ (os : List Outcome). CallsMeet on.w (turn_of f.full) os on.answers ds' [] front.answers front.devices) (append-nil front.first) (front.calls [])

  abbrev turn : List Note
  turn = on.turn ++ turn_of f.full

  abbrev last : Teller
  last = having_told on.t turn (on.met ++ front.first) front.answers

  last_story : HasStory on.w last
  last_story =
      record {
        rest = behind_turn f.full;
        more = front.more;
        story =
            ap (protocol_story on.w) ((λ k. sym (append_assoc on.t.met on.met front.first) k ++ front.more) ∙ append_assoc now.met front.first front.more
            ∙ ap (λ (l : List Outcome). now.met ++ l) (sym front.all))
            ∙ f.story
            ∙ ap (λ (l : List Note). now.told ++ l) (sym (turn_parts f.full))
            ∙ sym (append_assoc now.told (turn_of f.full) (behind_turn f.full))
            ∙ (λ k. append_assoc on.t.told on.turn (turn_of f.full) k ++ behind_turn f.full);
        is_rest = subst (λ (b : Bool). IsRest b (behind_turn f.full)) (sym (ends_behind on.turn (turn_of f.full) on.goes_on)) (turn_rest f.full ends);
      }

  abbrev rest_lines : List Line
  rest_lines = map (line_at due i) (events_with_looks on.w.looks (turn_of f.full))

  told_turn : TellsTurn programs detaches (suc (behind begun number)) on.mid on.es (map (line_at due i) (events_of on.turn) ++ rest_lines) (slice_set on.mid i last) front.devices
  told_turn =
      record {
        i = i;
        w = on.w;
        t = on.t;
        program = on.program;
        there = on.there;
        unfinished = on.unfinished;
        next = subst (λ (n : ℕ). IsLeast (map due_of on.mid) i n) (sym on.due_is) on.next;
        turn = turn;
        whole = once_behind on.turn (turn_of f.full) on.goes_on (turn_once f.full ends);
        met = on.met ++ front.first;
        answers = front.answers;
        calls = calls_more on.w on.turn (turn_of f.full) on.met front.first on.t.answers on.answers front.answers (detached (suc (behind begun number)) detaches on.es) ds' front.devices on.calls first_calls;
        made =
            sym (map-append (line_at due i) (events_of on.turn) (events_with_looks on.w.looks (turn_of f.full)))
            ∙ ap (map (line_at due i)) (sym (looks_behind on.w.looks on.turn (turn_of f.full) on.goes_on))
            ∙ ap (λ (n : ℕ). map (line_at n i) (events_with_looks on.w.looks turn)) (sym on.due_is);
        after = refl;
      }

  whole : TellsFrom begun programs detaches ds (suc number) (lines ++ rest_lines) (slice_set on.mid i last) front.devices
  whole = (
    on.before,
    map (line_at due i) (events_of on.turn) ++ rest_lines,
    on.mid,
    on.es,
    on.whole,
    told_turn,
    ap (λ (l : List Line). l ++ rest_lines) on.made ∙ append_assoc on.before (map (line_at due i) (events_of on.turn)) rest_lines,
  )

  -- what is told of the turn begins what is told of it to its end
  front_met : (actors : List Actor) → HaveMet (slice_set on.mid i last) actors → HaveMet tellers actors
  front_met actors met j t a et ea = by (cases_eq j i) where
    by : (j ≡ i) ⊎ (j ≡ i → ⊥) → IsPrefix t.met a.outcomes
    by (inr other) =
        let was : slice_get on.mid j ≡ Some t = sym (set_there on.mid i j now other) ∙ ap (λ (l : List Teller). slice_get l j) (sym on.after) ∙ et in
        met j t a (set_there on.mid i j last other ∙ was) ea
    by (inl is) =
        let here : now ≡ t = same_Some now t (sym there ∙ ap (slice_get tellers) (sym is) ∙ et) in
        let its : slice_get (slice_set on.mid i last) j ≡ Some last = ap (slice_get (slice_set on.mid i last)) is ∙ set_here on.mid i last on.t on.there in
        let more = met j last a its ea in (
          front.first ++ more.0,
          more.1 ∙ ap (λ (l : List Outcome). l ++ more.0) (sym (append_assoc on.t.met on.met front.first))
              ∙ append_assoc now.met front.first more.0
              ∙ ap (λ (x : Teller). x.met ++ (front.first ++ more.0)) here,
        )

  pub begins_on : BeginsMet begun programs detaches ds lines tellers
  begins_on =
      let have = zip_set programs on.mid i on.w now last on.program (subst (AllZip HasStory programs) on.after (all_had programs tellers count all)) last_story in
      let run = begins_by begun programs detaches ds front.devices (suc number) (lines ++ rest_lines) (slice_set on.mid i last) whole have in
      let both = subst (λ (l : List Line). (world : ProtocolWorldFrom begun programs detaches ds l run.1) × HaveMet tellers world.actors) (append_assoc lines rest_lines run.0)
      (run.2, front_met run.2.actors run.3) in
      (rest_lines ++ run.0, run.1, both.0, both.1)

pub begun_begins : BegunBegins
begun_begins begun programs detaches ds ds' number i due lines tellers on all = lines_begin begun programs detaches ds lines tellers (begins_on begun programs detaches ds ds' number i due lines tellers on all)
