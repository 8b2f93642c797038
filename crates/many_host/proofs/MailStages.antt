-- Where a host with mailboxes is known to stand, and what is shown behind a program's end.
use Rattle.std.proofs.Common.{arith, ◌≡◌, ◌+◌, ℕ, suc, List, [], ◌∷◌, ◌++◌, map, drop, Option, Some, None, Bool, true, false, if◌then◌else◌, nat_eq, slice_get, refl, sym, ap, ◌∙◌, subst, append_assoc, append-nil}
use Rattle.std.specs.Option.{option_map}
use Rattle.std.proofs.lemmas.Option.{same_Some, slice_get_within}
use Rattle.wa_model.specs.declared.answers.Detach.{Detach}
use Rattle.wa_model.specs.Outside.{Event, Line, shown}
use Rattle.wa_model.specs.Plan.{Outcome}
use Rattle.world_model.specs.World.{Device, Look, Program, bytes_shown, line_at}
use Rattle.world_laws.proofs.Places.{item}
use Rattle.event_order.specs.declared.shows.Show.{Show}
use Rattle.event_order.specs.declared.turns.Turn.{Turn}
use Rattle.event_order.specs.Left.{Counted}
use Rattle.event_order.specs.Looks.{IsNextShow, look_of, looks_of}
use Rattle.mailbox_device.specs.Mail.{Mail}
use Rattle.mail_laws.specs.Told.{Await, Teller, Tells}
use Rattle.pause_host.specs.Programs.{is_at_pause, parked_in, receive_in}
use Rattle.many_host.specs.Hosts.{memory_of}
use Rattle.many_host.specs.MailStanding.{MeetMore, StandingFrom, StandsAtFrom, TakesCall, TellsLineFrom, common_of, dues_at, met_so_far}
use Rattle.many_host.specs.Standing.{Held, looks_at}
use Rattle.many_host.specs.declared.hosted.Hosted.{Hosted}
use Rattle.many_host.specs.declared.turn_taking.Stage.{Stage}
use Rattle.many_host.specs.declared.turn_taking.Stage.TheVariants.{Between, Showing}

abbrev parked_if : Bool → Option Await → Option (List ℕ)
parked_if b o = if b then option_map (λ (r : Await). r.box) o else None

none_if : (b : Bool) → parked_if b None ≡ None
none_if true = refl
none_if false = refl

-- who has no receive that wasn't answered isn't parked
pub not_parked : (x : Hosted) → receive_in x.program ≡ None → parked_in x.program ≡ None
not_parked x e = ap (λ (o : Option Await). parked_if (is_at_pause x.program.state) o) e ∙ none_if (is_at_pause x.program.state)

-- ---- where it is known to stand

abbrev pub mail_standing : (begun : ℕ) (programs : List Program) (detaches : List Detach) (boxes : List (List ℕ)) (ds : List Device) (lines : List Line) (h : Held Hosted) (last : ℕ)
    (ds' : List Device) (mail : Mail) (stage stage' : Stage) → stage ≡ stage' → StandingFrom begun programs detaches boxes ds lines h last ds' mail stage
    → StandingFrom begun programs detaches boxes ds lines h last ds' mail stage'
mail_standing begun programs detaches boxes ds lines h last ds' mail stage stage' is s =
    record {
      tellers = s.tellers;
      wide = s.wide;
      as_many = s.as_many;
      each = s.each;
      dues = s.dues ∙ ap (dues_at s.tellers) is;
      detaches_are = s.detaches_are;
      earlier_is = s.earlier_is;
      count = s.count;
      begun_is = s.begun_is;
      at = subst (λ (g : Stage). StandsAtFrom begun programs detaches boxes ds s.count lines s.tellers h last ds' mail g) is s.at;
    }

-- ---- what is shown

abbrev the_none : List Outcome
the_none = []

nothing : (b : Bool) → (if b then [] else []) ≡ the_none
nothing true = refl
nothing false = refl

-- no call was told
pub meets_nothing : (program : ℕ) (tellers : List Teller) → MeetMore program [] tellers tellers
meets_nothing program tellers i t t' et et' = (
  0,
  omega arith,
  ap met_so_far (same_Some t' t (sym et' ∙ et)) ∙ sym (append-nil (met_so_far t)) ∙ ap (λ (l : List Outcome). met_so_far t ++ l) (sym (nothing (nat_eq i program))),
)

-- and what is shown takes nothing
shown_takes : (programs : List Program) (w : Program) (due i at : ℕ) (bytes : Option (List ℕ)) (cs : List Counted) (mail : Mail) → slice_get programs i ≡ Some w
    → TakesCall programs (line_at due i (shown at bytes)) [] cs cs mail mail
shown_takes programs w due i at bytes cs mail there = record { w = w; program = there; takes = (refl, refl) }

module _ (begun : ℕ) (programs : List Program) (detaches : List Detach) (boxes : List (List ℕ)) (ds : List Device) (lines : List Line) (h : Held Hosted) (last : ℕ) (ds' : List Device) (mail : Mail)
    (turn : Turn) (from : ℕ) (s : StandingFrom begun programs detaches boxes ds lines h last ds' mail (Showing turn from)) where
  abbrev line : Event → Line
  line e = line_at turn.due turn.program e

  abbrev TellsAs : List Line → Type 0
  TellsAs ls = Tells begun programs detaches boxes ds s.count ls s.tellers (common_of ds' mail last)

  -- once all looks are out the turn is whole
  abbrev pub mail_all_shown : looks_of turn.program (drop from h.shows) ≡ [] → StandingFrom begun programs detaches boxes ds lines h last ds' mail Between
  mail_all_shown none =
      record {
        tellers = s.tellers;
        wide = s.wide;
        as_many = s.as_many;
        each = s.each;
        dues = s.dues;
        detaches_are = s.detaches_are;
        earlier_is = s.earlier_is;
        count = s.count;
        begun_is = s.begun_is;
        at = (subst TellsAs (ap (λ (l : List Look). lines ++ map line (looks_at (memory_of s.at.0) l)) none ∙ append-nil lines) s.at.2, s.at.3);
      }

  -- one look more
  shown_on : (x : Hosted) (place next : ℕ) (look : Show) (e : Event) → slice_get h.programs turn.program ≡ Some x → next ≡ place + 1 → IsNextShow turn.program h.shows from place
      → slice_get h.shows place ≡ Some look → e ≡ shown look.at (bytes_shown (memory_of x) (record { at = look.at; len = look.len }))
      → TellsAs ((lines ++ line e ∷ []) ++ map line (looks_at (memory_of x) (looks_of turn.program (drop next h.shows))))
  shown_on x place next look e there next_is is look_there e_is =
      let look_is : look ≡ is.show = same_Some look is.show (sym look_there ∙ is.there) in
      let x_is : s.at.0 ≡ x = same_Some s.at.0 x (sym s.at.1 ∙ there) in
      let next_suc : suc place ≡ next = omega (arith, next_is) in
      let first : map line (looks_at (memory_of s.at.0) (looks_of turn.program (drop from h.shows)))
      ≡ line e ∷ map line (looks_at (memory_of x) (looks_of turn.program (drop next h.shows))) =
      ap (λ (l : List Look). map line (looks_at (memory_of s.at.0) l)) is.first
      ∙ (λ k. line (shown (sym look_is k).at (bytes_shown (memory_of (x_is k)) (look_of (sym look_is k)))) ∷ map line (looks_at (memory_of (x_is k)) (looks_of turn.program (drop (next_suc k) h.shows))))
      ∙ ap (λ (v : Event). line v ∷ map line (looks_at (memory_of x) (looks_of turn.program (drop next h.shows)))) (sym e_is) in
      subst TellsAs
      (ap (λ (ls : List Line). lines ++ ls) first ∙ sym (append_assoc lines (line e ∷ []) (map line (looks_at (memory_of x) (looks_of turn.program (drop next h.shows)))))) s.at.2

  pub mail_shown_line : (x : Hosted) (place next : ℕ) (look : Show) (e : Event) (cs : List Counted) → slice_get h.programs turn.program ≡ Some x → next ≡ place + 1
      → IsNextShow turn.program h.shows from place → slice_get h.shows place ≡ Some look → e ≡ shown look.at (bytes_shown (memory_of x) (record { at = look.at; len = look.len }))
      → TellsLineFrom begun programs detaches boxes ds lines s.tellers cs cs mail (line e) h last ds' mail (Showing turn next)
  mail_shown_line x place next look e cs there next_is is look_there e_is =
      let w = item programs turn.program (omega (arith, slice_get_within h.programs turn.program x there, s.as_many)) in
      record {
        stands = record {
          tellers = s.tellers;
          wide = s.wide;
          as_many = s.as_many;
          each = s.each;
          dues = s.dues;
          detaches_are = s.detaches_are;
          earlier_is = s.earlier_is;
          count = s.count;
          begun_is = s.begun_is;
          at = (x, there, shown_on x place next look e there next_is is look_there e_is, s.at.3);
        };
        met = [];
        meets = meets_nothing turn.program s.tellers;
        takes = subst (λ (v : Event). TakesCall programs (line v) [] cs cs mail mail) (sym e_is)
            (shown_takes programs w.0 turn.due turn.program look.at (bytes_shown (memory_of x) (record { at = look.at; len = look.len })) cs mail w.1);
      }
