-- The lines of several programs, as they are being told and printed.
use Rattle.std.proofs.Common.{◌≡◌, ◌<◌, inl, inr, ◌≤◌, ℕ, suc, Bool, List, [], ◌∷◌, ◌++◌, length, length-append, map, Option, Some, None, Result, Ok, Err, refl, sym, ap, ◌∙◌, subst, arith, append-nil, append_assoc, add_assoc, ◌+◌}
use Rattle.std.specs.Prelude.{IsErr, MatchOption, OnErr, OnOk, if◌then◌else◌, nat_eq, slice_get}
use Rattle.std.specs.List.{AllZip}
use Rattle.std.specs.Option.{option_map}
use Rattle.std.specs.Result.{IfErr}
use Rattle.std.proofs.lemmas.List.{length-map, take_all}
use Rattle.std.proofs.lemmas.Option.{same_Some, slice_get-map, slice_get_within}
use Rattle.vault_port.specs.declared.whole.PutFault.{PutFault}
use Rattle.vault_port.specs.declared.whole.PutFault.TheVariants.{Fault, Memory}
use Rattle.vault_port.specs.Taken.{Appends, AppendsLess, AppendsPast}
use Rattle.vault_port.specs.Told.{Becomes}
use Rattle.wa_model.specs.declared.answers.Detach.{Detach}
use Rattle.wa_model.specs.declared.events.Line.{Line as LineValue}
use Rattle.wa_model.specs.Outside.{Event, Line}
use Rattle.wa_model.specs.Plan.{Outcome}
use Rattle.wa_model.specs.View.{line_of}
use Rattle.script_model.specs.Transcript as T
use Rattle.script_model.specs.Transcript.{event_line, event_lines, last_line, names_at}
use Rattle.world_model.specs.World.{Actor, Device, Program, ProtocolWorldFrom, StartsHeld, ends_turn}
use Rattle.device_port.specs.declared.devices.Devices.{Devices}
use Rattle.device_port.specs.Listed.{of_all}
use Rattle.event_order.specs.Dues.{HaveEnded}
use Rattle.event_order.specs.Left.{Counted}
use Rattle.many_host.specs.ToldNotes.{BeginsWorldFrom}
use Rattle.many_host.specs.Calls.{AreLeft, BegunBy, BegunNext, TakesCall, devices_of, left_at}
use Rattle.many_host.specs.declared.turn_taking.Stage.{Stage}
use Rattle.many_host.specs.declared.turn_taking.Stage.TheVariants as S
use Rattle.many_host.specs.Standing.{LooksOut, StandsAtFrom, TellsLineFrom, held_of}
use Rattle.many_host.specs.Turns.{HaveMet, MeetMore, Teller, TellsFrom, behind, since, starting}
use Rattle.many_host.proofs.Counts.{counted_devices}
use Rattle.many_host.specs.declared.host.Host.{Host}
use Rattle.many_host.specs.Hosts.{HostNextFrom, HostToldFrom, follows, has_ended, memory_of}
use Rattle.world_laws.proofs.Places.{item}
use Rattle.many_host.proofs.Numbers.{none_since}
use Rattle.many_host.proofs.Worlds.{told_begins_met_from}
use Rattle.transcript.specs.declared.events.Names.{Names}
use Rattle.transcript.specs.Printing.{names_of}
use Rattle.world_hosting.specs.Counts.{AreMet, IsBegunBy, Took, TookBy, closes, counted, ended_in, met_by}
use Rattle.world_hosting.specs.Saved.{HasPrinted, HasTold, MetBy, SavesPartFrom}
use Rattle.world_hosting.specs.Worlds.{AreBegunFrom, AreToldFrom, IsLeft, Part, PrintsPart, TellsPartFrom, TellsWorldFrom, part_names, turn_count}
use Rattle.world_hosting.proofs.TurnCounts.{begun_next, turns_begun}
use Rattle.transcript.proofs.LineTexts.{becomes_by, becomes_same, line_more, then_less, then_printed}

pub part_of : (fault : PutFault) (least : ℕ) (text x y : List ℕ) → AppendsPast least text x y → PrintsPart fault least text x y
part_of Fault least text x y p = p
part_of Memory least text x y p = (p.0, p.1, p.3)

pub if_err : {T E Q : Type 0} (P : E → Type 0) (r : Result T E) → ((e : E) → Q → P e) → OnErr r Q → IfErr r P
if_err P (Ok x) f q = tt
if_err P (Err e) f q = f e q

pub on_ok : {T E Q P : Type 0} (r : Result T E) → (Q → P) → OnOk r Q → OnOk r P
on_ok (Ok x) f q = f q
on_ok (Err e) f q = tt

-- ---- what lines took

module _ (ends : Event → Bool) (takes : Line → List Outcome → (old new : List Counted) → Type 0) (detaches : List Detach) where
  pub took_long : (begun ended : ℕ) (lines : List Line) (met : List (List Outcome)) (old : List Counted) (last : ℕ) (new : List Counted)
      → TookBy ends takes detaches begun ended lines met old last new → length met ≡ length lines
  took_long begun ended [] [] old last new t = refl
  took_long begun ended (l ∷ lines) (os ∷ met) old last new t = ap suc (took_long t.0 (ended + closes ends l.event) lines met t.1 last new t.4)
  took_long begun ended [] (os ∷ met) old last new t = absurd t
  took_long begun ended (l ∷ lines) [] old last new t = absurd t

  pub took_on : (begun ended last now : ℕ) (lines : List Line) (met : List (List Outcome)) (l : Line) (os : List Outcome) (old mid new : List Counted)
      → TookBy ends takes detaches begun ended lines met old last mid → IsBegunBy last (ended + ended_in ends lines) l.event now → takes l os (left_at last now detaches mid) new
      → TookBy ends takes detaches begun ended (lines ++ l ∷ []) (met ++ os ∷ []) old now new
  took_on begun ended last now [] [] l os old mid new t is c =
      let none : ended + 0 ≡ ended = omega arith in (
        now,
        new,
        subst (λ (b : ℕ). IsBegunBy b ended l.event now) t.0 (subst (λ (n : ℕ). IsBegunBy last n l.event now) none is),
        subst (λ (cs : List Counted). takes l os cs new) (λ k. left_at (t.0 k) now detaches (t.1 k)) c,
        (refl, refl),
      )
  took_on begun ended last now (x ∷ lines) (ms ∷ met) l os old mid new t is c =
      let all : ended + (closes ends x.event + ended_in ends lines) ≡ (ended + closes ends x.event) + ended_in ends lines = sym (add_assoc ended (closes ends x.event) (ended_in ends lines)) in (
        t.0,
        t.1,
        t.2,
        t.3,
        took_on t.0 (ended + closes ends x.event) last now lines met l os t.1 mid new t.4 (subst (λ (n : ℕ). IsBegunBy last n l.event now) all is) c,
      )
  took_on begun ended last now [] (ms ∷ met) l os old mid new t is c = absurd t
  took_on begun ended last now (x ∷ lines) [] l os old mid new t is c = absurd t

-- ---- what calls met

pub met_more : (i : ℕ) (lines : List Line) (met : List (List Outcome)) (l : Line) (os : List Outcome) → length met ≡ length lines
    → met_by i (lines ++ l ∷ []) (met ++ os ∷ []) ≡ met_by i lines met ++ (if nat_eq i l.program then os else [])
met_more i [] [] l os long = append-nil (if nat_eq i l.program then os else [])
met_more i (x ∷ lines) (ms ∷ met) l os long =
    ap (λ (us : List Outcome). (if nat_eq i x.program then ms else []) ++ us) (met_more i lines met l os (omega (arith, long)))
    ∙ sym (append_assoc (if nat_eq i x.program then ms else []) (met_by i lines met) (if nat_eq i l.program then os else []))
met_more i [] (ms ∷ met) l os long = absurd (omega (arith, long))
met_more i (x ∷ lines) [] l os long = absurd (omega (arith, long))

pub zip_long : {X Y : Type 0} (R : X → Y → Type 0) (xs : List X) (ys : List Y) → AllZip R xs ys → length ys ≡ length xs
zip_long R [] [] h = refl
zip_long R [] (y ∷ ys) h = absurd h
zip_long R (x ∷ xs) [] h = absurd h
zip_long R (x ∷ xs) (y ∷ ys) h = ap suc (zip_long R xs ys h.1)

are_met : (lines : List Line) (met : List (List Outcome)) (tellers : List Teller) (actors : List Actor) → length actors ≡ length tellers → MetBy lines met tellers → HaveMet tellers actors
    → AreMet lines met actors
are_met lines met tellers actors long by_lines have i a ea =
    let t = item tellers i (omega (arith, slice_get_within actors i a ea, long)) in
    let front = have i t.0 a t.1 ea in
    (front.0, front.1 ∙ ap (λ (os : List Outcome). os ++ front.0) (by_lines i t.0 t.1))

met_on : (lines : List Line) (met : List (List Outcome)) (l : Line) (os : List Outcome) (tellers tellers' : List Teller) → length met ≡ length lines → length tellers' ≡ length tellers
    → MetBy lines met tellers → MeetMore l.program os tellers tellers' → MetBy (lines ++ l ∷ []) (met ++ os ∷ []) tellers'
met_on lines met l os tellers tellers' long wide by_lines more i t' et' =
    let t = item tellers i (omega (arith, slice_get_within tellers' i t' et', wide)) in
    more i t.0 t' t.1 et' ∙ ap (λ (us : List Outcome). us ++ (if nat_eq i l.program then os else [])) (by_lines i t.0 t.1) ∙ sym (met_more i lines met l os long)

starting_met : (programs : List Program) (i : ℕ) (t : Teller) → slice_get (map starting programs) i ≡ Some t → t.met ≡ []
starting_met programs i t at = by (slice_get programs i) (sym (slice_get-map starting programs i) ∙ at) where
  by : (o : Option Program) → option_map starting o ≡ Some t → t.met ≡ []
  by None e = cc
  by (Some w) e = ap (λ (x : Teller). x.met) (sym (same_Some (starting w) t e))

-- before any event none has met any
pub none_met : (earlier : ℕ) (programs : List Program) (detaches : List Detach) (ds : List Device) (h : Host) (ds' : List Device) (told : HostToldFrom earlier programs detaches ds [] h ds')
    → h.turns.begun ≡ earlier → (i : ℕ) (t : Teller) → slice_get told.tellers i ≡ Some t → t.met ≡ []
none_met earlier programs detaches ds h ds' told none i t et = by h.turns.stage told.at where
  none_own : since earlier h.turns.begun ≡ 0
  none_own = ap (since earlier) none ∙ none_since earlier

  first : (lines : List Line) → TellsFrom earlier programs detaches ds (since earlier h.turns.begun) lines told.tellers ds' → t.met ≡ []
  first lines at =
      let start = subst (λ (n : ℕ). TellsFrom earlier programs detaches ds n lines told.tellers ds') none_own at in
      starting_met programs i t (ap (λ (l : List Teller). slice_get l i) (sym start.1) ∙ et)

  by : (stage : Stage) → StandsAtFrom earlier memory_of programs detaches ds [] told.tellers (held_of h.turns) ds' stage → t.met ≡ []
  by S.Between at = first [] at
  by (S.Telling turn) at = let never : ⊥ = omega (arith, none_own, at.1) in absurd never
  by (S.Showing turn from) at = first _ at.2

-- ---- lines that are being told

-- nothing came behind them
pub none_left_out : (begun : ℕ) (detaches : List Detach) (cs : List Counted) → AreLeft begun detaches cs cs
none_left_out begun detaches cs = record { there = cs; there_is = inl refl; devices = refl; counts = inl refl }

pub left_there : (fault : PutFault) (begun : ℕ) (detaches : List Detach) (cs : List Counted) → IsLeft fault begun detaches cs cs
left_there Fault begun detaches cs = refl
left_there Memory begun detaches cs = none_left_out begun detaches cs

module _ (earlier : ℕ) (programs : List Program) (parts : List Part) (detaches : List Detach) (cs : List Counted) where
  abbrev ds : List Device
  ds = devices_of cs

  abbrev names : List T.Names
  names = map part_names parts

  -- the text of first lines
  abbrev begun : List Line → List ℕ
  begun lines = event_lines names lines

  -- nothing was printed
  module _ (b : BeginsWorldFrom earlier programs detaches ds []) (o : Option (List ℕ)) where
    abbrev nothing : (told : AreBegunFrom Memory earlier programs parts detaches cs cs 0 []) × (told.begun ≡ earlier)
    nothing = (
      record {
        lines = [];
        more = b.0;
        met = [];
        last = b.1;
        world = b.2;
        meets = λ i a ea. (a.outcomes, refl);
        begun = earlier;
        there = cs;
        took = (refl, refl);
        left = none_left_out earlier detaches cs;
        text_is = refl;
        before = [];
        behind = [];
        one = omega arith;
        lines_are = refl;
        least_is = refl;
      },
      refl,
    )

    as_it_was : Becomes o o (PrintsPart Memory 0 [])
    as_it_was = becomes_same (PrintsPart Memory 0 []) (λ x. (0, omega arith, sym (append-nil x))) o

    pub none_printed : TellsPartFrom Memory earlier programs parts detaches cs cs o o
    none_printed = (0, [], inl nothing.0, as_it_was)

    pub none_cut : (most : ℕ) → earlier ≤ most → SavesPartFrom Memory earlier programs parts detaches most cs cs o o
    none_cut most few = (0, [], nothing.0, few, as_it_was)

  abbrev Told : (h : Host) (now : List Counted) → Type 0
  Told h now = HasTold earlier programs detaches cs h now

  abbrev Telling : (h : Host) (now : List Counted) (old new : Option (List ℕ)) → Type 0
  Telling h now old new = HasPrinted earlier programs parts detaches cs h now old new

  abbrev as_wide : (h : Host) (now : List Counted) (t : Told h now) (actors : List Actor) → AllZip StartsHeld programs actors → length actors ≡ length t.host.tellers
  as_wide h now t actors starts = zip_long StartsHeld programs actors starts ∙ sym t.host.wide

  -- the devices are those that the lines left, or that are left when the next event begins
  pub are_begun : (h : Host) (now : List Counted) (t : Told h now) (es : List Counted) (fault : PutFault) → IsLeft fault h.turns.begun detaches now es
      → (before behind : List Line) → length behind ≤ 1 → t.lines ≡ before ++ behind
      → (told : AreBegunFrom fault earlier programs parts detaches cs es (length (begun before)) (begun t.lines)) × (told.begun ≡ h.turns.begun)
  are_begun h now t es fault left before behind one parted =
      let b = told_begins_met_from earlier programs detaches ds (devices_of now) t.lines h t.host in (
        record {
          lines = t.lines;
          more = b.0;
          met = t.met;
          last = b.1;
          world = b.2;
          meets = are_met t.lines t.met t.host.tellers b.2.actors (as_wide h now t b.2.actors b.2.starts) t.meets b.3;
          begun = h.turns.begun;
          there = now;
          took = t.took;
          left = left;
          text_is = refl;
          before = before;
          behind = behind;
          one = one;
          lines_are = parted;
          least_is = refl;
        },
        refl,
      )

  module _ (h : Host) (now : List Counted) (old mid : Option (List ℕ)) (t : Telling h now old mid) where
    abbrev lines : List Line
    lines = t.told.lines

    -- memory is wanting
    module _ (es : List Counted) (left : AreLeft h.turns.begun detaches now es) where
      abbrev so_far : (told : AreBegunFrom Memory earlier programs parts detaches cs es (length (begun lines)) (begun lines)) × (told.begun ≡ h.turns.begun)
      so_far = are_begun h now t.told es Memory left lines [] (omega arith) (sym (append-nil lines))

      printed_so_far : Becomes old mid (PrintsPart Memory (length (begun lines)) (begun lines))
      printed_so_far =
          becomes_by (Appends (begun lines)) (PrintsPart Memory (length (begun lines)) (begun lines))
          (λ x y p. (length (begun lines), omega arith, p ∙ ap (λ (s : List ℕ). x ++ s) (sym (take_all (length (begun lines)) (begun lines) (omega arith))))) old mid t.printed

      pub told_so_far : TellsPartFrom Memory earlier programs parts detaches cs es old mid
      told_so_far = (length (begun lines), begun lines, inl so_far.0, printed_so_far)

      pub cut_so_far : (most : ℕ) → h.turns.begun ≤ most → SavesPartFrom Memory earlier programs parts detaches most cs es old mid
      cut_so_far most few = (length (begun lines), begun lines, so_far.0, let e = so_far.1 in omega (arith, e, few), printed_so_far)

    -- one line more, or less of it
    module _ (next : Host) (es : List Counted) (own : List T.Names) (are : own ≡ names) (l : Line)
        (n : TellsLineFrom earlier follows has_ended memory_of programs detaches ds t.told.lines t.told.host.tellers (left_at h.turns.begun next.turns.begun detaches now) es l (held_of next.turns) (devices_of es)
        next.turns.stage)
        (begins : BegunBy h.turns.stage h.turns.begun next.turns.begun l.event) where
      same_text : begun lines ++ event_line (names_at own l.program) l ≡ begun (lines ++ l ∷ [])
      same_text = ap (λ (n : List T.Names). begun lines ++ event_line (names_at n l.program) l) are ∙ line_more names lines l

      abbrev one_more : Told next es
      one_more = record {
        lines = lines ++ l ∷ [];
        host = n.stands;
        met = t.told.met ++ n.met ∷ [];
        took = took_on ends_turn (TakesCall programs) detaches earlier earlier h.turns.begun next.turns.begun lines t.told.met l n.met cs now es t.told.took
            (begun_next earlier programs detaches ds lines h (devices_of now) t.told.host next.turns.begun l.event begins) n.takes;
        meets = met_on lines t.told.met l n.met t.told.host.tellers n.stands.tellers (took_long ends_turn (TakesCall programs) detaches earlier earlier lines t.told.met cs h.turns.begun now t.told.took)
            (n.stands.wide ∙ sym t.told.host.wide) t.told.meets n.meets;
      }

      pub told_on : (new : Option (List ℕ)) → Becomes mid new (Appends (event_line (names_at own l.program) l))
          → (x : Telling next es old new) × (length x.told.lines ≡ length t.told.lines + 1)
      told_on new p = (
        record {
          told = one_more;
          printed = subst (λ (s : List ℕ). Becomes old new (Appends s)) same_text (then_printed (begun lines) (event_line (names_at own l.program) l) old mid new t.printed p);
        },
        length-append t.told.lines (l ∷ []),
      )

      module _ (fault : PutFault) (new : Option (List ℕ)) (p : Becomes mid new (AppendsLess (event_line (names_at own l.program) l))) where
        abbrev less : (told : AreBegunFrom fault earlier programs parts detaches cs es (length (begun lines)) (begun (lines ++ l ∷ []))) × (told.begun ≡ next.turns.begun)
        less = are_begun next es one_more es fault (left_there fault next.turns.begun detaches es) lines (l ∷ []) (omega arith) refl

        printed_less : Becomes old new (PrintsPart fault (length (begun lines)) (begun (lines ++ l ∷ [])))
        printed_less =
            becomes_by (AppendsPast (length (begun lines)) (begun (lines ++ l ∷ []))) (PrintsPart fault (length (begun lines)) (begun (lines ++ l ∷ [])))
            (part_of fault (length (begun lines)) (begun (lines ++ l ∷ []))) old new
            (subst (λ (s : List ℕ). Becomes old new (AppendsPast (length (begun lines)) s)) same_text (then_less (begun lines) (event_line (names_at own l.program) l) old mid new t.printed p))

        pub told_less : TellsPartFrom fault earlier programs parts detaches cs es old new
        told_less = (length (begun lines), begun (lines ++ l ∷ []), inl less.0, printed_less)

        pub cut_less : (most : ℕ) → next.turns.begun ≤ most → SavesPartFrom fault earlier programs parts detaches most cs es old new
        cut_less most few = (length (begun lines), begun (lines ++ l ∷ []), less.0, let e = less.1 in omega (arith, e, few), printed_less)

    -- the last line, or less of it
    module _ (es : List Counted) (own : List Names) (are : map names_of own ≡ names) (world : ProtocolWorldFrom earlier programs detaches ds t.told.lines (devices_of es))
        (have : HaveMet t.told.host.tellers world.actors) (kept : es ≡ now) (none : HaveEnded h.turns.dues.items × LooksOut h.turns.shows.items h.turns.stage) where
      abbrev last : List ℕ
      last = last_line (length own) h.turns.begun

      events : behind earlier (turn_count lines) ≡ h.turns.begun
      events = turns_begun earlier programs detaches ds lines h (devices_of now) t.told.host none.1

      same_last : last ≡ last_line (length parts) (behind earlier (turn_count lines))
      same_last =
          ap (λ (n : ℕ). last_line n h.turns.begun) (sym (length-map own names_of) ∙ ap (λ (l : List T.Names). length l) are ∙ length-map parts part_names)
          ∙ ap (last_line (length parts)) (sym events)

      abbrev are_told : AreToldFrom earlier programs parts detaches cs es (begun lines ++ last)
      are_told = record {
        lines = lines;
        met = t.told.met;
        world = world;
        meets = are_met lines t.told.met t.told.host.tellers world.actors (as_wide h now t.told world.actors world.starts) t.told.meets have;
        took =
            subst (λ (n : ℕ). Took programs detaches earlier earlier lines t.told.met cs n es) (sym events)
            (subst (λ (c : List Counted). Took programs detaches earlier earlier lines t.told.met cs h.turns.begun c) (sym kept) t.told.took);
        text_is = ap (λ (s : List ℕ). begun lines ++ s) same_last;
      }

      pub told_whole : (new : Option (List ℕ)) → Becomes mid new (Appends last) → TellsWorldFrom earlier programs parts detaches cs es old new
      told_whole new p = (begun lines ++ last, are_told, then_printed (begun lines) last old mid new t.printed p)

      pub told_less_last : (fault : PutFault) (new : Option (List ℕ)) → Becomes mid new (AppendsLess last) → TellsPartFrom fault earlier programs parts detaches cs es old new
      told_less_last fault new p = (
        length (begun lines),
        begun lines ++ last,
        inr (record { told = are_told; least_is = refl }),
        becomes_by (AppendsPast (length (begun lines)) (begun lines ++ last)) (PrintsPart fault (length (begun lines)) (begun lines ++ last)) (part_of fault (length (begun lines)) (begun lines ++ last)) old new
            (then_less (begun lines) last old mid new t.printed p),
      )

-- ---- what a host answers

module _ (earlier : ℕ) (programs : List Program) (detaches : List Detach) (ds : List Device) (lines : List Line) (tellers : List Teller) (old left new : List Counted) (h : Host) (es : List Device)
    (r : Option LineValue) where
  pub line_told : (l : LineValue) → r ≡ Some l → HostNextFrom earlier programs detaches ds lines tellers old left new h es r
      → TellsLineFrom earlier follows has_ended memory_of programs detaches ds lines tellers left new (line_of l) (held_of h.turns) es h.turns.stage
  line_told l is told = subst (λ (o : Option LineValue). HostNextFrom earlier programs detaches ds lines tellers old left new h es o) is told

  pub none_told : r ≡ None → HostNextFrom earlier programs detaches ds lines tellers old left new h es r
      → (world : ProtocolWorldFrom earlier programs detaches ds lines es) × HaveMet tellers world.actors × (new ≡ old)
  none_told is told = subst (λ (o : Option LineValue). HostNextFrom earlier programs detaches ds lines tellers old left new h es o) is told

pub line_begins : (stage : Stage) (b b' : ℕ) (r : Option LineValue) (l : LineValue) → r ≡ Some l → BegunNext stage b b' r → BegunBy stage b b' (line_of l).event
line_begins stage b b' r l is t = subst (λ (o : Option LineValue). BegunNext stage b b' o) is t

pub none_left : (P Q : Type 0) (r : Option LineValue) → r ≡ None → MatchOption r P (λ l. Q) → P
none_left P Q r is m = subst (λ (o : Option LineValue). MatchOption o P (λ l. Q)) is m

pub none_is : {X : Type 0} (o : Option X) → ((x : X) → o ≡ Some x → ⊥) → o ≡ None
none_is None h = refl
none_is (Some x) h = absurd (h x refl)

pub has_failed : {T E : Type 0} (r : Result T E) → ((x : T) → r ≡ Ok x → ⊥) → IsErr r
has_failed (Ok x) never = absurd (never x refl)
has_failed (Err e) never = refl

-- ---- devices, seen and counted

module _ {X : Type 0} {F : X → Type 0} (f : (x : X) × F x → Device) (g : (x : X) × F x → ℕ)
    (earlier : ℕ) (programs : List Program) (detaches : List Detach) (ds : List Device) (lines : List Line) (d : Devices X F) where
  abbrev pub standing_with : (h : Host) (es es' : List Device) → es ≡ es' → HostToldFrom earlier programs detaches ds lines h es → HostToldFrom earlier programs detaches ds lines h es'
  standing_with h es es' is told = record {
    tellers = told.tellers;
    wide = told.wide;
    as_many = told.as_many;
    each = told.each;
    dues = told.dues;
    detaches_are = told.detaches_are;
    earlier_is = told.earlier_is;
    begun_is = told.begun_is;
    at = subst (λ (l : List Device). StandsAtFrom earlier memory_of programs detaches ds lines told.tellers (held_of h.turns) l h.turns.stage) is told.at;
  }

  abbrev pub host_seen : (h : Host) → HostToldFrom earlier programs detaches ds lines h (devices_of (counted f g d)) → HostToldFrom earlier programs detaches ds lines h (of_all f d)
  host_seen h told = standing_with h (devices_of (counted f g d)) (of_all f d) (counted_devices f g d) told

  pub world_counted : (tellers : List Teller) → (world : ProtocolWorldFrom earlier programs detaches ds lines (of_all f d)) × HaveMet tellers world.actors
      → (world : ProtocolWorldFrom earlier programs detaches ds lines (devices_of (counted f g d))) × HaveMet tellers world.actors
  world_counted tellers both =
      subst (λ (es : List Device). (world : ProtocolWorldFrom earlier programs detaches ds lines es) × HaveMet tellers world.actors) (sym (counted_devices f g d)) both

pub line_counted : {X : Type 0} {F : X → Type 0} (f : (x : X) × F x → Device) (g : (x : X) × F x → ℕ) (earlier : ℕ) (programs : List Program) (detaches : List Detach) (ds : List Device) (lines : List Line)
    (tellers : List Teller) (old new : List Counted) (line : Line) (d : Devices X F) (h : Host)
    → TellsLineFrom earlier follows has_ended memory_of programs detaches ds lines tellers old new line (held_of h.turns) (of_all f d) h.turns.stage
    → TellsLineFrom earlier follows has_ended memory_of programs detaches ds lines tellers old new line (held_of h.turns) (devices_of (counted f g d)) h.turns.stage
line_counted f g earlier programs detaches ds lines tellers old new line d h t = record {
  stands = standing_with f g earlier programs detaches ds (lines ++ line ∷ []) d h (of_all f d) (devices_of (counted f g d)) (sym (counted_devices f g d)) t.stands;
  met = t.met;
  meets = t.meets;
  takes = t.takes;
}

-- ---- names

-- the program of a line has names
pub within_names : (programs : List Program) (parts : List Part) (names : List Names) (l : Line) (w : Program) → length programs ≡ length parts → map names_of names ≡ map part_names parts
    → slice_get programs l.program ≡ Some w → l.program < length names
within_names programs parts names l w as_many are at =
    let inside : l.program < length programs = slice_get_within programs l.program w at in
    let named : length names ≡ length parts = sym (length-map names names_of) ∙ ap (λ (ns : List T.Names). length ns) are ∙ length-map parts part_names in
    omega (arith, inside, as_many, named)
