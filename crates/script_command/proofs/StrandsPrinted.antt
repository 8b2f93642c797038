-- The lines of several programs with strands, as they are being told and printed.
use Rattle.std.proofs.Common.{◌≡◌, inl, inr, ◌≤◌, ℕ, suc, List, [], ◌∷◌, ◌++◌, length, length-append, map, Option, Some, None, Result, Ok, Err, refl, sym, ap, ◌∙◌, subst, arith, append-nil, add_assoc, ◌+◌}
use Rattle.std.specs.Prelude.{IsErr, MatchOption, OnErr, OnOk}
use Rattle.std.specs.Global.{Vec}
use Rattle.std.specs.Result.{IfErr}
use Rattle.std.proofs.lemmas.List.{length-map, take_all}
use Rattle.vault_port.specs.declared.whole.PutFault.{PutFault}
use Rattle.vault_port.specs.declared.whole.PutFault.TheVariants.{Fault, Memory}
use Rattle.vault_port.specs.Taken.{Appends, AppendsLess, AppendsPast}
use Rattle.vault_port.specs.Told.{Becomes}
use Rattle.wa_model.specs.declared.answers.Detach.{Detach}
use Rattle.wa_model.specs.Plan.{Outcome}
use Rattle.script_model.specs.Transcript as T
use Rattle.script_model.specs.Transcript.{last_line}
use Rattle.world_model.specs.World.{Device, ends_turn}
use Rattle.device_port.specs.declared.devices.Devices.{Devices}
use Rattle.device_port.specs.Listed.{of_all}
use Rattle.event_order.specs.Dues.{HaveEnded}
use Rattle.event_order.specs.Left.{Counted}
use Rattle.many_host.specs.Calls.{AreLeft, devices_of, left_at}
use Rattle.many_host.proofs.Counts.{counted_devices}
use Rattle.transcript.specs.declared.events.Names.{Names}
use Rattle.transcript.proofs.LineTexts.{becomes_by, becomes_same, nothing_yet, then_less, then_printed}
use Rattle.strand_laws.specs.StrandWorld.{ProtocolStrandWorld, StrandLine, StrandsInWorld}
use Rattle.strand_laws.specs.ToldStrands.{ProgramTeller}
use Rattle.strand_laws.proofs.ToldWorlds.{HaveMet}
use Rattle.strand_host.specs.declared.host.StrandHost.{StrandHost}
use Rattle.strand_host.specs.declared.turn_taking.Stage.{Stage}
use Rattle.strand_host.specs.declared.turn_taking.StrandLine.{StrandLine as LineValue}
use Rattle.strand_host.specs.StrandCalls.{BegunNext, BegunWith, TakesStrandCall, strand_line_of}
use Rattle.strand_host.specs.StrandHosts.{StrandHostNext, StrandHostTold, due_in, follows}
use Rattle.strand_host.specs.StrandPrograms.{memory_of}
use Rattle.strand_host.specs.StrandStanding.{AreLooksOut, StrandsStandAt, TellsStrandLine, hosted_of}
use Rattle.world_hosting.specs.Counts.{IsBegunBy, closes, counted}
use Rattle.world_hosting.specs.Worlds.{IsLeft, PrintsPart}
use Rattle.script_command.specs.StrandCounts.{TookStrands, strand_turn_count}
use Rattle.script_command.specs.StrandParts.{names_in}
use Rattle.script_command.specs.StrandTranscripts.{named_strand_line, strand_event_lines}
use Rattle.script_command.specs.StrandWorldsTold.{AreStrandsBegun, AreStrandsTold, NamedStrands, PrintsStrands, PrintsStrandsPart, all_strand_names, strand_worlds}
use Rattle.script_command.proofs.OutcomesOfStrands.{StrandsMetBy, all_wide, are_strands_met, lines_met, met_on, none_met, whole_met}
use Rattle.script_command.proofs.StrandTexts.{strand_line_more}
use Rattle.script_command.proofs.StrandTurnCounts.{strand_begun_next, strand_turns_begun}

pub part_of : (fault : PutFault) (least : ℕ) (text x y : List ℕ) → AppendsPast least text x y → PrintsPart fault least text x y
part_of Fault least text x y p = p
part_of Memory least text x y p = (p.0, p.1, p.3)

pub if_err : {T E Q : Type 0} (P : E → Type 0) (r : Result T E) → ((e : E) → Q → P e) → OnErr r Q → IfErr r P
if_err P (Ok x) f q = tt
if_err P (Err e) f q = f e q

pub on_ok : {T E Q P : Type 0} (r : Result T E) → (Q → P) → OnOk r Q → OnOk r P
on_ok (Ok x) f q = f q
on_ok (Err e) f q = tt

-- ---- what lines took

module _ (programs : List StrandsInWorld) (detaches : List Detach) where
  took_long : (begun ended : ℕ) (lines : List StrandLine) (met : List (List Outcome)) (old : List Counted) (last : ℕ) (new : List Counted)
      → TookStrands programs detaches begun ended lines met old last new → length met ≡ length lines
  took_long begun ended [] [] old last new t = refl
  took_long begun ended (l ∷ lines) (os ∷ met) old last new t = ap suc (took_long t.0 (ended + closes ends_turn l.event) lines met t.1 last new t.4)
  took_long begun ended [] (os ∷ met) old last new t = absurd t
  took_long begun ended (l ∷ lines) [] old last new t = absurd t

  took_on : (begun ended last now : ℕ) (lines : List StrandLine) (met : List (List Outcome)) (l : StrandLine) (os : List Outcome) (old mid new : List Counted)
      → TookStrands programs detaches begun ended lines met old last mid → IsBegunBy last (ended + strand_turn_count lines) l.event now
      → TakesStrandCall programs l os (left_at last now detaches mid) new
      → TookStrands programs detaches begun ended (lines ++ l ∷ []) (met ++ os ∷ []) old now new
  took_on begun ended last now [] [] l os old mid new t is c =
      let none : ended + 0 ≡ ended = omega arith in (
        now,
        new,
        subst (λ (b : ℕ). IsBegunBy b ended l.event now) t.0 (subst (λ (n : ℕ). IsBegunBy last n l.event now) none is),
        subst (λ (cs : List Counted). TakesStrandCall programs l os cs new) (λ k. left_at (t.0 k) now detaches (t.1 k)) c,
        (refl, refl),
      )
  took_on begun ended last now (x ∷ lines) (ms ∷ met) l os old mid new t is c =
      let all : ended + (closes ends_turn x.event + strand_turn_count lines) ≡ (ended + closes ends_turn x.event) + strand_turn_count lines =
      sym (add_assoc ended (closes ends_turn x.event) (strand_turn_count lines)) in (
        t.0,
        t.1,
        t.2,
        t.3,
        took_on t.0 (ended + closes ends_turn x.event) last now lines met l os t.1 mid new t.4 (subst (λ (n : ℕ). IsBegunBy last n l.event now) all is) c,
      )
  took_on begun ended last now [] (ms ∷ met) l os old mid new t is c = absurd t
  took_on begun ended last now (x ∷ lines) [] l os old mid new t is c = absurd t

-- ---- lines that are being told

-- nothing came behind them
none_left_out : (begun : ℕ) (detaches : List Detach) (cs : List Counted) → AreLeft begun detaches cs cs
none_left_out begun detaches cs = record { there = cs; there_is = inl refl; devices = refl; counts = inl refl }

left_there : (fault : PutFault) (begun : ℕ) (detaches : List Detach) (cs : List Counted) → IsLeft fault begun detaches cs cs
left_there Fault begun detaches cs = refl
left_there Memory begun detaches cs = none_left_out begun detaches cs

module _ (programs : List NamedStrands) (detaches : List Detach) (cs : List Counted) where
  abbrev gs : List StrandsInWorld
  gs = strand_worlds programs

  abbrev ds : List Device
  ds = devices_of cs

  abbrev names : List (List T.Names)
  names = all_strand_names programs

  -- the text of first lines
  abbrev begun : List StrandLine → List ℕ
  begun lines = strand_event_lines names lines

  -- The host has told these lines, with what their calls met and took of the devices.
  pub record HasStrandsTold (h : StrandHost) (now : List Counted) : Type 0 where
    pub lines : List StrandLine
    pub host : StrandHostTold gs detaches ds lines h (devices_of now)
    pub met : List (List Outcome)
    pub took : TookStrands gs detaches 0 0 lines met cs h.turns.begun now
    pub known : StrandsMetBy lines met host.tellers

  -- They were printed.
  pub record HasStrandsPrinted (h : StrandHost) (now : List Counted) (old new : Option (List ℕ)) : Type 0 where
    pub told : HasStrandsTold h now
    pub printed : Becomes old new (Appends (begun told.lines))

  -- its first line is still to come
  pub strands_first : (h : StrandHost) (o : Option (List ℕ)) → StrandHostTold gs detaches ds [] h ds → h.turns.begun ≡ 0 → (x : HasStrandsPrinted h cs o o) × (length x.told.lines ≡ 0)
  strands_first h o told none = (
    record {
      told = record { lines = []; host = told; met = []; took = (none, refl); known = none_met gs detaches ds [] h ds told none [] };
      printed = nothing_yet o;
    },
    refl,
  )

  -- nothing was printed
  pub no_strands_printed : (more : List StrandLine) × (last : List Device) × ProtocolStrandWorld gs detaches ds more last → (o : Option (List ℕ)) → PrintsStrandsPart Memory programs detaches cs cs o o
  no_strands_printed b o = (
    0,
    [],
    inl (record {
      lines = [];
      more = b.0;
      met = [];
      last = b.1;
      world = b.2;
      meets = λ p k x a ex ea. (a.outcomes, refl);
      begun = 0;
      there = cs;
      took = (refl, refl);
      left = none_left_out 0 detaches cs;
      text_is = refl;
      before = [];
      behind = [];
      one = omega arith;
      lines_are = refl;
      least_is = refl;
    }),
    becomes_same (PrintsPart Memory 0 []) (λ x. (0, omega arith, sym (append-nil x))) o,
  )

  -- the devices are those that the lines left, or that are left when the next event begins
  are_begun : (h : StrandHost) (now : List Counted) (t : HasStrandsTold h now) (es : List Counted) (fault : PutFault) → IsLeft fault h.turns.begun detaches now es
      → (before behind : List StrandLine) → length behind ≤ 1 → t.lines ≡ before ++ behind → AreStrandsBegun fault programs detaches cs es (length (begun before)) (begun t.lines)
  are_begun h now t es why left before behind one parted =
      let b = lines_met gs detaches ds t.lines h (devices_of now) t.host in
      record {
        lines = t.lines;
        more = b.0;
        met = t.met;
        last = b.1;
        world = b.2;
        meets = are_strands_met gs detaches ds t.lines h (devices_of now) t.host t.met t.known b.2.staged b.2.starts b.3;
        begun = h.turns.begun;
        there = now;
        took = t.took;
        left = left;
        text_is = refl;
        before = before;
        behind = behind;
        one = one;
        lines_are = parted;
        least_is = refl;
      }

  module _ (h : StrandHost) (now : List Counted) (old mid : Option (List ℕ)) (t : HasStrandsPrinted h now old mid) where
    abbrev lines : List StrandLine
    lines = t.told.lines

    -- memory is wanting
    pub strands_so_far : (es : List Counted) → AreLeft h.turns.begun detaches now es → PrintsStrandsPart Memory programs detaches cs es old mid
    strands_so_far es left = (
      length (begun lines),
      begun lines,
      inl (are_begun h now t.told es Memory left lines [] (omega arith) (sym (append-nil lines))),
      becomes_by (Appends (begun lines)) (PrintsPart Memory (length (begun lines)) (begun lines))
          (λ x y p. (length (begun lines), omega arith, p ∙ ap (λ (s : List ℕ). x ++ s) (sym (take_all (length (begun lines)) (begun lines) (omega arith))))) old mid t.printed,
    )

    -- one line more, or less of it
    module _ (next : StrandHost) (es : List Counted) (own : List (List T.Names)) (are : own ≡ names) (l : StrandLine)
        (n : TellsStrandLine follows due_in memory_of gs detaches ds lines t.told.host.tellers (left_at h.turns.begun next.turns.begun detaches now) es l (hosted_of next.turns) (devices_of es)
        next.turns.stage)
        (begins : BegunWith h.turns.stage h.turns.begun next.turns.begun l.event) where
      same_text : begun lines ++ named_strand_line own l ≡ begun (lines ++ l ∷ [])
      same_text = ap (λ (n : List (List T.Names)). begun lines ++ named_strand_line n l) are ∙ strand_line_more names lines l

      abbrev one_more : HasStrandsTold next es
      one_more = record {
        lines = lines ++ l ∷ [];
        host = n.stands;
        met = t.told.met ++ n.met ∷ [];
        took = took_on gs detaches 0 0 h.turns.begun next.turns.begun lines t.told.met l n.met cs now es t.told.took
            (strand_begun_next gs detaches ds lines h (devices_of now) t.told.host next.turns.begun l.event begins) n.takes;
        known = met_on gs lines t.told.met l n.met t.told.host.tellers n.stands.tellers (took_long gs detaches 0 0 lines t.told.met cs h.turns.begun now t.told.took)
            (all_wide gs detaches ds lines h (devices_of now) t.told.host) (all_wide gs detaches ds (lines ++ l ∷ []) next (devices_of es) n.stands) t.told.known n.meets;
      }

      pub strands_on : (new : Option (List ℕ)) → Becomes mid new (Appends (named_strand_line own l)) → (x : HasStrandsPrinted next es old new) × (length x.told.lines ≡ length t.told.lines + 1)
      strands_on new p = (
        record {
          told = one_more;
          printed = subst (λ (s : List ℕ). Becomes old new (Appends s)) same_text (then_printed (begun lines) (named_strand_line own l) old mid new t.printed p);
        },
        length-append t.told.lines (l ∷ []),
      )

      pub strands_less : (fault : PutFault) (new : Option (List ℕ)) → Becomes mid new (AppendsLess (named_strand_line own l)) → PrintsStrandsPart fault programs detaches cs es old new
      strands_less fault new p = (
        length (begun lines),
        begun (lines ++ l ∷ []),
        inl (are_begun next es one_more es fault (left_there fault next.turns.begun detaches es) lines (l ∷ []) (omega arith) refl),
        becomes_by (AppendsPast (length (begun lines)) (begun (lines ++ l ∷ []))) (PrintsPart fault (length (begun lines)) (begun (lines ++ l ∷ [])))
            (part_of fault (length (begun lines)) (begun (lines ++ l ∷ []))) old new
            (subst (λ (s : List ℕ). Becomes old new (AppendsPast (length (begun lines)) s)) same_text (then_less (begun lines) (named_strand_line own l) old mid new t.printed p)),
      )

    -- the last line, or less of it
    module _ (es : List Counted) (own : List (Vec Names)) (are : map names_in own ≡ names) (kept : es ≡ now)
        (none : HaveEnded h.turns.dues.items × AreLooksOut h.turns.shows.items h.turns.stage) where
      abbrev last : List ℕ
      last = last_line (length own) h.turns.begun

      events : strand_turn_count lines ≡ h.turns.begun
      events = strand_turns_begun gs detaches ds lines h (devices_of now) t.told.host none.1

      same_last : last ≡ last_line (length programs) (strand_turn_count lines)
      same_last =
          ap (λ (n : ℕ). last_line n h.turns.begun)
          (sym (length-map own names_in) ∙ ap (λ (l : List (List T.Names)). length l) are ∙ length-map programs (λ (x : NamedStrands). x.names))
          ∙ ap (last_line (length programs)) (sym events)

      whole : (w : ProtocolStrandWorld gs detaches ds lines (devices_of es)) × HaveMet t.told.host.tellers w.staged
      whole =
          subst (λ (c : List Counted). (w : ProtocolStrandWorld gs detaches ds lines (devices_of c)) × HaveMet t.told.host.tellers w.staged) (sym kept)
          (whole_met gs detaches ds lines h (devices_of now) t.told.host none.0 none.1)

      abbrev are_told : AreStrandsTold programs detaches cs es (begun lines ++ last)
      are_told = record {
        lines = lines;
        met = t.told.met;
        world = whole.0;
        meets = are_strands_met gs detaches ds lines h (devices_of now) t.told.host t.told.met t.told.known whole.0.staged whole.0.starts whole.1;
        took = subst (λ (n : ℕ). TookStrands gs detaches 0 0 lines t.told.met cs n es) (sym events)
            (subst (λ (c : List Counted). TookStrands gs detaches 0 0 lines t.told.met cs h.turns.begun c) (sym kept) t.told.took);
        text_is = ap (λ (s : List ℕ). begun lines ++ s) same_last;
      }

      pub strands_whole : (new : Option (List ℕ)) → Becomes mid new (Appends last) → PrintsStrands programs detaches cs es old new
      strands_whole new p = (begun lines ++ last, are_told, then_printed (begun lines) last old mid new t.printed p)

      pub strands_less_last : (fault : PutFault) (new : Option (List ℕ)) → Becomes mid new (AppendsLess last) → PrintsStrandsPart fault programs detaches cs es old new
      strands_less_last fault new p = (
        length (begun lines),
        begun lines ++ last,
        inr (record { told = are_told; least_is = refl }),
        becomes_by (AppendsPast (length (begun lines)) (begun lines ++ last)) (PrintsPart fault (length (begun lines)) (begun lines ++ last)) (part_of fault (length (begun lines)) (begun lines ++ last)) old new
            (then_less (begun lines) last old mid new t.printed p),
      )

-- ---- what a host answers

module _ (gs : List StrandsInWorld) (detaches : List Detach) (ds : List Device) (lines : List StrandLine) (tellers : List ProgramTeller) (old left new : List Counted) (h : StrandHost)
    (es : List Device) (r : Option LineValue) where
  pub strand_line_told : (l : LineValue) → r ≡ Some l → StrandHostNext gs detaches ds lines tellers old left new h es r
      → TellsStrandLine follows due_in memory_of gs detaches ds lines tellers left new (strand_line_of l) (hosted_of h.turns) es h.turns.stage
  strand_line_told l is told = subst (λ (o : Option LineValue). StrandHostNext gs detaches ds lines tellers old left new h es o) is told

  pub no_strand_told : r ≡ None → StrandHostNext gs detaches ds lines tellers old left new h es r → new ≡ old
  no_strand_told is told = (subst (λ (o : Option LineValue). StrandHostNext gs detaches ds lines tellers old left new h es o) is told).1

pub strand_line_begins : (stage : Stage) (b b' : ℕ) (r : Option LineValue) (l : LineValue) → r ≡ Some l → BegunNext stage b b' r → BegunWith stage b b' (strand_line_of l).event
strand_line_begins stage b b' r l is t = subst (λ (o : Option LineValue). BegunNext stage b b' o) is t

pub none_left : (P Q : Type 0) (r : Option LineValue) → r ≡ None → MatchOption r P (λ l. Q) → P
none_left P Q r is m = subst (λ (o : Option LineValue). MatchOption o P (λ l. Q)) is m

pub has_failed : {T E : Type 0} (r : Result T E) → ((x : T) → r ≡ Ok x → ⊥) → IsErr r
has_failed (Ok x) never = absurd (never x refl)
has_failed (Err e) never = refl

-- ---- devices, seen and counted

module _ {X : Type 0} {F : X → Type 0} (f : (x : X) × F x → Device) (g : (x : X) × F x → ℕ) (gs : List StrandsInWorld) (detaches : List Detach) (ds : List Device) (lines : List StrandLine)
    (d : Devices X F) where
  abbrev strands_standing_with : (ls : List StrandLine) (h : StrandHost) (es es' : List Device) → es ≡ es' → StrandHostTold gs detaches ds ls h es → StrandHostTold gs detaches ds ls h es'
  strands_standing_with ls h es es' is told = record {
    tellers = told.tellers;
    wide = told.wide;
    as_many = told.as_many;
    each = told.each;
    dues = told.dues;
    detaches_are = told.detaches_are;
    at = subst (λ (l : List Device). StrandsStandAt memory_of gs detaches ds ls told.tellers (hosted_of h.turns) l h.turns.stage) is told.at;
  }

  abbrev pub strand_host_seen : (h : StrandHost) → StrandHostTold gs detaches ds lines h (devices_of (counted f g d)) → StrandHostTold gs detaches ds lines h (of_all f d)
  strand_host_seen h told = strands_standing_with lines h (devices_of (counted f g d)) (of_all f d) (counted_devices f g d) told

  pub strand_line_counted : (tellers : List ProgramTeller) (old new : List Counted) (line : StrandLine) (h : StrandHost)
      → TellsStrandLine follows due_in memory_of gs detaches ds lines tellers old new line (hosted_of h.turns) (of_all f d) h.turns.stage
      → TellsStrandLine follows due_in memory_of gs detaches ds lines tellers old new line (hosted_of h.turns) (devices_of (counted f g d)) h.turns.stage
  strand_line_counted tellers old new line h t = record {
    stands = strands_standing_with (lines ++ line ∷ []) h (of_all f d) (devices_of (counted f g d)) (sym (counted_devices f g d)) t.stands;
    met = t.met;
    meets = t.meets;
    takes = t.takes;
  }
