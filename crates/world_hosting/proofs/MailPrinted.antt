-- The lines of several programs with mailboxes, as they are being told and printed.
use Rattle.std.proofs.Common.{arith, ◌≡◌, ◌≤◌, ◌+◌, inl, inr, ℕ, List, [], ◌∷◌, ◌++◌, length, length-append, map, Option, Some, None, refl, sym, ap, ◌∙◌, subst, append-nil}
use Rattle.std.specs.Prelude.{if◌then◌else◌, nat_eq, slice_get}
use Rattle.std.specs.List.{AllZip}
use Rattle.std.proofs.lemmas.List.{length-map, take_all}
use Rattle.std.specs.Option.{option_map}
use Rattle.std.proofs.lemmas.Option.{same_Some, slice_get-map, slice_get_within}
use Rattle.vault_port.specs.declared.whole.PutFault.{PutFault}
use Rattle.vault_port.specs.declared.whole.PutFault.TheVariants.{Memory}
use Rattle.vault_port.specs.Taken.{Appends, AppendsLess, AppendsPast}
use Rattle.vault_port.specs.Told.{Becomes}
use Rattle.wa_model.specs.declared.answers.Detach.{Detach}
use Rattle.wa_model.specs.Outside.{Line}
use Rattle.wa_model.specs.Plan.{Outcome}
use Rattle.wa_model.specs.Behaves.{IsPrefix}
use Rattle.script_model.specs.Transcript as T
use Rattle.script_model.specs.Transcript.{event_line, event_lines, last_line, names_at}
use Rattle.world_model.specs.World.{Device, Program}
use Rattle.world_laws.proofs.Places.{item}
use Rattle.event_order.specs.Left.{Counted}
use Rattle.mailbox_device.specs.Mail.{Mail, empty_mail, names_of}
use Rattle.mail_laws.specs.MailWorld.{Actor, ProtocolWorld, StartsHeld}
use Rattle.mail_laws.specs.Told.{Common, HaveMet, Teller, Tells, starting}
use Rattle.many_host.specs.Calls.{AreLeft, BegunBy, devices_of, left_at}
use Rattle.many_host.specs.declared.host.Host.{Host}
use Rattle.many_host.specs.declared.turn_taking.Stage.{Stage}
use Rattle.many_host.specs.declared.turn_taking.Stage.TheVariants as S
use Rattle.many_host.specs.MailHosts.{HostTellsFrom}
use Rattle.many_host.specs.MailStanding.{StandsAtFrom, TellsLineFrom, met_so_far, met_with}
use Rattle.many_host.specs.Standing.{LooksOut, held_of}
use Rattle.many_host.specs.ToldMail.{BeginsMailWorld}
use Rattle.transcript.specs.declared.events.Names.{Names}
use Rattle.transcript.specs.Printing as P
use Rattle.transcript.proofs.LineTexts.{becomes_by, becomes_same, line_more, nothing_yet, then_less, then_printed}
use Rattle.world_hosting.specs.Counts.{met_by}
use Rattle.world_hosting.specs.MailCounts.{AreMet, TakesBeside, TookBeside, ends_event, event_count}
use Rattle.many_host.proofs.MailWorlds.{host_begins}
use Rattle.world_hosting.specs.MailWorlds.{AreMailBegun, AreMailTold, TellsMail, TellsMailPart}
use Rattle.world_hosting.specs.Worlds.{IsLeft, Part, PrintsPart, part_names, world_programs}
use Rattle.world_hosting.proofs.MailAsked.{AllAsked, stands_asked}
use Rattle.world_hosting.proofs.MailKnown.{AllKnown, all_known}
use Rattle.world_hosting.proofs.MailEvents.{begun_by_next, events_begun}
use Rattle.world_hosting.proofs.MailTakes.{taken_beside}
use Rattle.world_hosting.proofs.Printed.{left_there, met_more, none_left_out, part_of, took_long, took_on, zip_long}

-- ---- what calls met, as it is known

-- the programs of a host have met what the lines tell, as it is known now
abbrev pub MetSoFar : List Line → (met : List (List Outcome)) → List Teller → Type 0
MetSoFar lines met tellers = (i : ℕ) (t : Teller) → slice_get tellers i ≡ Some t → met_by i lines met ≡ met_so_far t

starting_met : (programs : List Program) (i : ℕ) (t : Teller) → slice_get (map starting programs) i ≡ Some t → met_so_far t ≡ []
starting_met programs i t at = by (slice_get programs i) (sym (slice_get-map starting programs i) ∙ at) where
  by : (o : Option Program) → option_map starting o ≡ Some t → met_so_far t ≡ []
  by None e = cc
  by (Some w) e = ap (λ (x : Teller). met_so_far x) (sym (same_Some (starting w) t e))

-- ---- lines that are being told

module _ (parts : List Part) (detaches : List Detach) (boxes : List (List ℕ)) (cs : List Counted) where
  abbrev programs : List Program
  programs = world_programs parts

  abbrev ds : List Device
  ds = devices_of cs

  abbrev names : List T.Names
  names = map part_names parts

  abbrev begun : List Line → List ℕ
  begun lines = event_lines names lines

  -- The host has told these lines, with what their calls met and took of the devices.
  pub record HasMailTold (h : Host) (now : List Counted) (mail : Mail) : Type 0 where
    pub lines : List Line
    pub host : HostTellsFrom 0 programs detaches boxes ds lines h (devices_of now) mail
    pub met : List (List Outcome)
    pub took : TookBeside boxes programs detaches 0 0 lines met cs h.turns.begun now
    pub known : MetSoFar lines met host.tellers

  -- They were printed.
  pub record HasMailPrinted (h : Host) (now : List Counted) (mail : Mail) (old new : Option (List ℕ)) : Type 0 where
    pub told : HasMailTold h now mail
    pub printed : Becomes old new (Appends (begun told.lines))

  -- between two lines the mailboxes have their names
  boxes_named : (h : Host) (now : List Counted) (mail : Mail) (t : HasMailTold h now mail) → names_of mail.boxes ≡ boxes
  boxes_named h now mail t = by h.turns.stage t.host.at
    where
      by : (stage : Stage) → StandsAtFrom 0 programs detaches boxes ds t.host.count t.lines t.host.tellers (held_of h.turns) h.turns.last (devices_of now) mail stage → names_of mail.boxes ≡ boxes
      by S.Between at = at.1.names_are
      by (S.Telling turn) at = at.6.stands.names_are
      by (S.Showing turn from) at = at.3.names_are

  as_wide : (h : Host) (now : List Counted) (mail : Mail) (t : HasMailTold h now mail) (actors : List Actor) → AllZip StartsHeld programs actors → length actors ≡ length t.host.tellers
  as_wide h now mail t actors starts = zip_long StartsHeld programs actors starts ∙ sym t.host.wide

  -- before its first line its programs have met nothing
  none_met_yet : (h : Host) (mail : Mail) (told : HostTellsFrom 0 programs detaches boxes ds [] h ds mail) → h.turns.begun ≡ 0 → MetSoFar [] [] told.tellers
  none_met_yet h mail told none i t et = sym (by h.turns.stage told.at)
    where
      none_told : told.count ≡ 0
      none_told = let sum = told.begun_is in omega (arith, sum, none)

      first : (lines : List Line) (c : Common) → Tells 0 programs detaches boxes ds told.count lines told.tellers c → met_so_far t ≡ []
      first lines c at =
          let start = subst (λ (n : ℕ). Tells 0 programs detaches boxes ds n lines told.tellers c) none_told at in
          starting_met programs i t (ap (λ (l : List Teller). slice_get l i) (sym start.1) ∙ et)

      by : (stage : Stage) → StandsAtFrom 0 programs detaches boxes ds told.count [] told.tellers (held_of h.turns) h.turns.last ds mail stage → met_so_far t ≡ []
      by S.Between at = first [] _ at.0
      by (S.Telling turn) at = let more = at.1 in let never : ⊥ = omega (arith, none_told, more) in absurd never
      by (S.Showing turn from) at = first _ _ at.2

  -- its first line is still to come
  pub mail_first : (h : Host) (mail : Mail) (o : Option (List ℕ)) → HostTellsFrom 0 programs detaches boxes ds [] h ds (empty_mail boxes) → h.turns.begun ≡ 0 → mail ≡ empty_mail boxes
      → (x : HasMailPrinted h cs mail o o) × (length x.told.lines ≡ 0)
  mail_first h mail o told none empty =
      subst (λ (m : Mail). (x : HasMailPrinted h cs m o o) × (length x.told.lines ≡ 0)) (sym empty) (
        record {
          told = record { lines = []; host = told; met = []; took = (none, refl); known = none_met_yet h (empty_mail boxes) told none };
          printed = nothing_yet o;
        },
        refl,
      )

  -- nothing was printed
  pub mail_none_printed : BeginsMailWorld 0 programs detaches boxes ds [] (map starting programs) → (o : Option (List ℕ)) → TellsMailPart Memory parts detaches boxes cs cs o o
  mail_none_printed b o = (
    0,
    [],
    inl (record {
      lines = [];
      more = b.0;
      met = [];
      last = b.1;
      world = b.2;
      meets = λ i a ea. (a.outcomes, refl);
      begun = 0;
      there = cs;
      took = (refl, refl);
      left = none_left_out 0 detaches cs;
      text_is = refl;
      before = [];
      behind = [];
      one = omega arith;
      lines_are = refl;
      least_is = refl;
    }),
    becomes_same (PrintsPart Memory 0 []) (λ x. (0, omega arith, sym (append-nil x))) o,
  )

  -- who waits has asked a mailbox by its last call
  asked : (h : Host) (now : List Counted) (mail : Mail) (t : HasMailTold h now mail) → AllAsked 0 programs detaches boxes ds t.lines t.host.tellers
  asked h now mail t = stands_asked 0 programs detaches boxes ds t.lines (held_of h.turns) h.turns.last (devices_of now) mail h.turns.stage t.host

  -- What the lines' calls met and took, and the first outcomes of a world's actors.
  record AllMet (lines : List Line) (count : ℕ) (now : List Counted) (actors : List Actor) : Type 0 where
    pub met : List (List Outcome)
    pub took : TookBeside boxes programs detaches 0 0 lines met cs count now
    pub meets : AreMet lines met actors

  all_met : (h : Host) (now : List Counted) (mail : Mail) (t : HasMailTold h now mail) (actors : List Actor) → AllZip StartsHeld programs actors → HaveMet t.host.tellers actors
      → AllMet t.lines h.turns.begun now actors
  all_met h now mail t actors starts have =
      let k = all_known boxes programs detaches 0 0 t.lines cs h.turns.begun now t.host.tellers (asked h now mail t) Meets choice t.met t.took t.known in
      record {
        met = k.met;
        took = k.took;
        meets = λ i a ea.
            let u = item t.host.tellers i (omega (arith, slice_get_within actors i a ea, long)) in
            let c = k.known i u.0 u.1 in
            subst (λ (us : List Outcome). IsPrefix us a.outcomes) (sym c.2)
            (subst (λ (x : Actor). IsPrefix (met_with c.0 u.0) x.outcomes) (same_Some c.1.0 a (sym c.1.1 ∙ ea)) c.1.2);
      }
    where
      long : length actors ≡ length t.host.tellers
      long = as_wide h now mail t actors starts

      Meets : ℕ → Teller → ℕ → Type 0
      Meets i u v = (a : Actor) × (slice_get actors i ≡ Some a) × IsPrefix (met_with v u) a.outcomes

      choice : (i : ℕ) (u : Teller) → slice_get t.host.tellers i ≡ Some u → (v : ℕ) × Meets i u v
      choice i u e =
          let a = item actors i (omega (arith, slice_get_within t.host.tellers i u e, long)) in
          let front = have i u a.0 e a.1 in
          (front.0, (a.0, a.1, front.2))

  -- the devices are those that the lines left, or that are left when the next event begins
  are_begun : (h : Host) (now : List Counted) (mail : Mail) (t : HasMailTold h now mail) (es : List Counted) (fault : PutFault) → IsLeft fault h.turns.begun detaches now es
      → (before behind : List Line) → length behind ≤ 1 → t.lines ≡ before ++ behind → AreMailBegun fault parts detaches boxes cs es (length (begun before)) (begun t.lines)
  are_begun h now mail t es fault left before behind one parted =
      let b = host_begins 0 programs detaches boxes ds t.lines h (devices_of now) mail t.host in
      let m = all_met h now mail t b.2.actors b.2.starts b.3 in
      record {
        lines = t.lines;
        more = b.0;
        met = m.met;
        last = b.1;
        world = b.2;
        meets = m.meets;
        begun = h.turns.begun;
        there = now;
        took = m.took;
        left = left;
        text_is = refl;
        before = before;
        behind = behind;
        one = one;
        lines_are = parted;
        least_is = refl;
      }

  module _ (h : Host) (now : List Counted) (mail : Mail) (old mid : Option (List ℕ)) (t : HasMailPrinted h now mail old mid) where
    abbrev lines : List Line
    lines = t.told.lines

    -- memory is wanting
    pub mail_so_far : (es : List Counted) → AreLeft h.turns.begun detaches now es → TellsMailPart Memory parts detaches boxes cs es old mid
    mail_so_far es left = (
      length (begun lines),
      begun lines,
      inl (are_begun h now mail t.told es Memory left lines [] (omega arith) (sym (append-nil lines))),
      becomes_by (Appends (begun lines)) (PrintsPart Memory (length (begun lines)) (begun lines))
          (λ x y p. (length (begun lines), omega arith, p ∙ ap (λ (s : List ℕ). x ++ s) (sym (take_all (length (begun lines)) (begun lines) (omega arith))))) old mid t.printed,
    )

    -- one line more, or less of it
    module _ (next : Host) (es : List Counted) (mail' : Mail) (own : List T.Names) (are : own ≡ names) (l : Line)
        (n : TellsLineFrom 0 programs detaches boxes ds lines t.told.host.tellers (left_at h.turns.begun next.turns.begun detaches now) es mail l (held_of next.turns) next.turns.last (devices_of es) mail'
        next.turns.stage)
        (begins : BegunBy h.turns.stage h.turns.begun next.turns.begun l.event) where
      same_text : begun lines ++ event_line (names_at own l.program) l ≡ begun (lines ++ l ∷ [])
      same_text = ap (λ (n : List T.Names). begun lines ++ event_line (names_at n l.program) l) are ∙ line_more names lines l

      abbrev own_met : ℕ → List Outcome
      own_met i = if nat_eq i l.program then n.met else []

      abbrev MetNext : ℕ → Teller → ℕ → Type 0
      MetNext i u v = (u' : Teller) × (slice_get n.stands.tellers i ≡ Some u') × (met_so_far u' ≡ met_with v u ++ own_met i)

      as_many : length n.stands.tellers ≡ length t.told.host.tellers
      as_many = n.stands.wide ∙ sym t.told.host.wide

      next_met : (i : ℕ) (u : Teller) → slice_get t.told.host.tellers i ≡ Some u → (v : ℕ) × MetNext i u v
      next_met i u e =
          let u' = item n.stands.tellers i (omega (arith, slice_get_within t.told.host.tellers i u e, as_many)) in
          let m = n.meets i u u'.0 e u'.1 in
          (m.0, (u'.0, u'.1, m.2))

      abbrev known_now : AllKnown boxes programs detaches 0 0 lines cs h.turns.begun now t.told.host.tellers (asked h now mail t.told) MetNext next_met
      known_now = all_known boxes programs detaches 0 0 lines cs h.turns.begun now t.told.host.tellers (asked h now mail t.told) MetNext next_met t.told.met t.told.took t.told.known

      known_more : MetSoFar (lines ++ l ∷ []) (known_now.met ++ n.met ∷ []) n.stands.tellers
      known_more i u' e' =
          let u = item t.told.host.tellers i (omega (arith, slice_get_within n.stands.tellers i u' e', as_many)) in
          let c = known_now.known i u.0 u.1 in
          met_more i lines known_now.met l n.met (took_long ends_event (TakesBeside boxes programs) detaches 0 0 lines known_now.met cs h.turns.begun now known_now.took)
          ∙ ap (λ (us : List Outcome). us ++ own_met i) c.2 ∙ sym c.1.2 ∙ ap met_so_far (same_Some c.1.0 u' (sym c.1.1 ∙ e'))

      abbrev one_more : HasMailTold next es mail'
      one_more = record {
        lines = lines ++ l ∷ [];
        host = n.stands;
        met = known_now.met ++ n.met ∷ [];
        took = took_on ends_event (TakesBeside boxes programs) detaches 0 0 h.turns.begun next.turns.begun lines known_now.met l n.met cs now es known_now.took
            (begun_by_next 0 programs detaches boxes ds lines h (devices_of now) mail t.told.host next.turns.begun l.event begins)
            (taken_beside boxes programs l n.met (left_at h.turns.begun next.turns.begun detaches now) es mail mail' (boxes_named h now mail t.told) n.takes);
        known = known_more;
      }

      pub mail_told_on : (new : Option (List ℕ)) → Becomes mid new (Appends (event_line (names_at own l.program) l))
          → (x : HasMailPrinted next es mail' old new) × (length x.told.lines ≡ length t.told.lines + 1)
      mail_told_on new p = (
        record {
          told = one_more;
          printed = subst (λ (s : List ℕ). Becomes old new (Appends s)) same_text (then_printed (begun lines) (event_line (names_at own l.program) l) old mid new t.printed p);
        },
        length-append t.told.lines (l ∷ []),
      )

      pub mail_told_less : (fault : PutFault) (new : Option (List ℕ)) → Becomes mid new (AppendsLess (event_line (names_at own l.program) l)) → TellsMailPart fault parts detaches boxes cs es old new
      mail_told_less fault new p = (
        length (begun lines),
        begun (lines ++ l ∷ []),
        inl (are_begun next es mail' one_more es fault (left_there fault next.turns.begun detaches es) lines (l ∷ []) (omega arith) refl),
        becomes_by (AppendsPast (length (begun lines)) (begun (lines ++ l ∷ []))) (PrintsPart fault (length (begun lines)) (begun (lines ++ l ∷ [])))
            (part_of fault (length (begun lines)) (begun (lines ++ l ∷ []))) old new
            (subst (λ (s : List ℕ). Becomes old new (AppendsPast (length (begun lines)) s)) same_text (then_less (begun lines) (event_line (names_at own l.program) l) old mid new t.printed p)),
      )

    -- the last line, or less of it
    module _ (es : List Counted) (own : List Names) (are : map P.names_of own ≡ names) (world : ProtocolWorld programs detaches boxes ds lines (devices_of es))
        (have : HaveMet t.told.host.tellers world.actors) (kept : es ≡ now) (none : LooksOut h.turns.shows.items h.turns.stage) where
      abbrev last : List ℕ
      last = last_line (length own) h.turns.begun

      events : event_count lines ≡ h.turns.begun
      events = let whole : event_count lines ≡ 0 + event_count lines = omega arith in whole ∙ events_begun 0 programs detaches boxes ds lines h (devices_of now) mail t.told.host none

      same_last : last ≡ last_line (length parts) (event_count lines)
      same_last =
          ap (λ (n : ℕ). last_line n h.turns.begun) (sym (length-map own P.names_of) ∙ ap (λ (l : List T.Names). length l) are ∙ length-map parts part_names)
          ∙ ap (last_line (length parts)) (sym events)

      all_told : AllMet lines h.turns.begun now world.actors
      all_told = all_met h now mail t.told world.actors world.starts have

      abbrev are_told : AreMailTold parts detaches boxes cs es (begun lines ++ last)
      are_told = record {
        lines = lines;
        met = all_told.met;
        world = world;
        meets = all_told.meets;
        took =
            subst (λ (n : ℕ). TookBeside boxes programs detaches 0 0 lines all_told.met cs n es) (sym events)
            (subst (λ (c : List Counted). TookBeside boxes programs detaches 0 0 lines all_told.met cs h.turns.begun c) (sym kept) all_told.took);
        text_is = ap (λ (s : List ℕ). begun lines ++ s) same_last;
      }

      pub mail_told_whole : (new : Option (List ℕ)) → Becomes mid new (Appends last) → TellsMail parts detaches boxes cs es old new
      mail_told_whole new p = (begun lines ++ last, are_told, then_printed (begun lines) last old mid new t.printed p)

      pub mail_less_last : (fault : PutFault) (new : Option (List ℕ)) → Becomes mid new (AppendsLess last) → TellsMailPart fault parts detaches boxes cs es old new
      mail_less_last fault new p = (
        length (begun lines),
        begun lines ++ last,
        inr (record { told = are_told; least_is = refl }),
        becomes_by (AppendsPast (length (begun lines)) (begun lines ++ last)) (PrintsPart fault (length (begun lines)) (begun lines ++ last))
            (part_of fault (length (begun lines)) (begun lines ++ last)) old new (then_less (begun lines) last old mid new t.printed p),
      )
